use Rattle.event_core.proofs.Words.{◌≡◌, ap, arith, CoreParts, held_by, IsSome, IsSound, state_of, subst, ℕ}
use Rattle.std.proofs.Common.{below_more}
use Rattle.std.proofs.lemmas.Bool.{false≢true}
use Rattle.event_core.proofs.ChoosingLemmas.{none-gives}
use Rattle.event_core.proofs.machine.Core.next_give.Goals as goal

pub loop-worker-preserved : goal.loop-worker-preserved
loop-worker-preserved c =
    below_more (λ (k : ℕ). IsSome (held_by (state_of c.args.self.now).scan.flights k) → ⊥) c.loop-worker.worker c.loop-worker.invariant
    (λ held. false≢true (c.if-may_give.ensures.1 held))

pub returns-clause-none : goal.returns-clause-none
returns-clause-none c = λ none.
    none-gives (state_of c.args.self.now) (subst (λ (parts : CoreParts). IsSound (state_of parts)) c.self.view_is c.self.invariant.0.sound)
    (λ k low. c.loop-worker.invariant k (
    let same : c.self.inside.settings.seats ≡ c.args.self.now.settings.seats = ap (λ (parts : CoreParts). parts.settings.seats) c.self.view_is in
    let over = c.loop-worker-test.false in omega arith))
