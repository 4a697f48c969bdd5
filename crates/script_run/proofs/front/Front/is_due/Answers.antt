use Rattle.script_run.proofs.Words.{◌<◌, ◌≡◌, ◌≤◌, ◌⊎◌, FrontParts, IsTrue, RunSettings, state_of, subst, sym}
use Rattle.script_run.proofs.front.Front.is_due.Goals as goal

pub returns-clause-due : goal.returns-clause-due
returns-clause-due c is =
    subst (λ (front : FrontParts). IsTrue c.args.waits ⊎ ((front.unfinished ≡ 0) ⊎ ((state_of front.core).settings.slots ≤ front.unfinished))) c.self.view_is
    (subst (λ (s : RunSettings). IsTrue c.args.waits ⊎ ((c.self.inside.unfinished ≡ 0) ⊎ (s.slots ≤ c.self.inside.unfinished))) (sym c.self.invariant.settings)
    (c.is_due.ensures.due is))

pub returns-clause-not_yet : goal.returns-clause-not_yet
returns-clause-not_yet c is =
    subst (λ (front : FrontParts). front.unfinished < (state_of front.core).settings.slots) c.self.view_is
    (subst (λ (s : RunSettings). c.self.inside.unfinished < s.slots) (sym c.self.invariant.settings) (c.is_due.ensures.not_yet is))
