use Rattle.event_core.proofs.Words.{◌≡◌, ap, arith, CoreParts, IsSound, state_of, subst, ℕ}
use Rattle.std.proofs.Common.{below_more}
use Rattle.std.proofs.lemmas.Bool.{false≢true}
use Rattle.event_core.specs.Lent.{HasFreeHand}
use Rattle.event_core.proofs.ChoosingLemmas.{no-hand}
use Rattle.event_core.proofs.machine.Core.next_free_hand.Goals as goal

pub loop-worker-preserved : goal.loop-worker-preserved
loop-worker-preserved c =
    below_more (λ (k : ℕ). HasFreeHand k (state_of c.args.self.now) → ⊥) c.loop-worker.worker c.loop-worker.invariant
    (λ free. false≢true (c.if-has_free_hand.ensures.1 free))

pub returns-clause-none : goal.returns-clause-none
returns-clause-none c = λ none.
    no-hand (state_of c.args.self.now) (subst (λ (parts : CoreParts). IsSound (state_of parts)) c.self.view_is c.self.invariant.0.sound)
    (λ k low. c.loop-worker.invariant k (
    let same : c.self.inside.settings.seats ≡ c.args.self.now.settings.seats = ap (λ (parts : CoreParts). parts.settings.seats) c.self.view_is in
    let over = c.loop-worker-test.false in omega arith))
