use Rattle.script_run.proofs.Words.{◌<◌, ◌≢◌, [], err_from_is_err_and, Finishes, FrontParts, IsCounted, seat_at, state_of, subst, sym}
use Rattle.std.proofs.Common.{rules}
use Rattle.script_run.specs.contracts.front.Front.{the_view}
use Rattle.script_run.proofs.FrontCountLemmas.{finishes-none, knows-finished, share-open, slots-some}
use Rattle.script_run.proofs.front.Front.finish_open.Goals as goal

pub invariant_of-self : goal.invariant_of-self
invariant_of-self g c =
    knows-finished _ _ (state_of c.self.inside.core) (state_of c.finish.new.core) c.self.invariant c.finish.ensures.finishes c.finish.ensures.number
    c.finish.ensures.hands

pub invariant_of-self-2 : goal.invariant_of-self-2
invariant_of-self-2 g c =
    knows-finished _ _ (state_of c.self.inside.core) (state_of c.finish.new.core) c.self.invariant c.finish.ensures.finishes c.finish.ensures.number
    c.finish.ensures.hands

pub finish-requires : goal.finish-requires
finish-requires g c =
    (search rules, share-open (the_view c.self.inside) (subst IsCounted (sym c.self.view_is) c.requires) c.if-self-eq0.false)

pub returns-then-self-eq0-clause-finishes : goal.returns-then-self-eq0-clause-finishes
returns-then-self-eq0-clause-finishes g c = finishes-none (state_of c.args.self.now.core)

pub returns-then-self-eq0-clause-some : goal.returns-then-self-eq0-clause-some
returns-then-self-eq0-clause-some g c =
    subst (λ (front : FrontParts). 0 < (state_of front.core).settings.slots) c.self.view_is (slots-some _ _ _ c.self.invariant)

pub returns-in_err-finish-clause-finishes : goal.returns-in_err-finish-clause-finishes
returns-in_err-finish-clause-finishes g c =
    subst (λ (front : FrontParts). Finishes (state_of front.core) (state_of c.finish.new.core)) c.self.view_is c.finish.ensures.finishes

pub returns-in_err-finish-clause-waits : goal.returns-in_err-finish-clause-waits
returns-in_err-finish-clause-waits g c =
    let failed = err_from_is_err_and c.from_residual.result c.from_residual.ensures.1 in
    rw failed.1 (subst (λ (front : FrontParts). (seat_at (state_of front.core) 0).pending ≢ []) c.self.view_is c.in_err-finish.ensures.waits)

pub returns-in_err-finish-clause-some : goal.returns-in_err-finish-clause-some
returns-in_err-finish-clause-some g c =
    subst (λ (front : FrontParts). 0 < (state_of front.core).settings.slots) c.self.view_is (slots-some _ _ _ c.self.invariant)

pub returns-clause-finishes : goal.returns-clause-finishes
returns-clause-finishes g c =
    subst (λ (front : FrontParts). Finishes (state_of front.core) (state_of c.finish.new.core)) c.self.view_is c.finish.ensures.finishes

pub returns-clause-some : goal.returns-clause-some
returns-clause-some g c =
    subst (λ (front : FrontParts). 0 < (state_of front.core).settings.slots) c.self.view_is (slots-some _ _ _ c.self.invariant)
