use Rattle.script_run.proofs.Words.{◌+◌, ◌<◌, ◌∙◌, ap, FrontParts, GivesStatement, IsCounted, KnowsCore, refl, state_of, subst, sym}
use Rattle.event_core.specs.CoreParts.{CoreParts}
use Rattle.script_run.specs.contracts.front.Front.{the_view}
use Rattle.script_run.proofs.FrontCountLemmas.{knows-given}
use Rattle.script_run.proofs.FrontGiveLemmas.{counted-given}
use Rattle.script_run.proofs.front.Front.give.Goals as goal

pub invariant_of-self : goal.invariant_of-self
invariant_of-self c =
    subst (λ (core : CoreParts). KnowsCore c.self.inside.settings c.self.inside.submitted (state_of core)) (sym c.in_default-submit.ensures.err) c.self.invariant

pub invariant_of-self-2 : goal.invariant_of-self-2
invariant_of-self-2 c =
    knows-given c.args.statement c.self.inside.settings c.self.inside.submitted c.in-Some.number (state_of c.self.inside.core) (state_of c.submit.new.core)
    c.self.invariant c.in-Some.ensures.1 c.in-Ok.ensures.gives

pub returns-clause-gives : goal.returns-clause-gives
returns-clause-gives c given =
    subst (λ (front : FrontParts). GivesStatement c.args.statement (state_of front.core) (state_of c.submit.new.core)) c.self.view_is c.in-Ok.ensures.gives

pub returns-clause-counted : goal.returns-clause-counted
returns-clause-counted c given = counted-given c.args.statement (the_view c.self.inside) _ c.in-Some.number c.one_if_waiting.result
    (subst IsCounted (sym c.self.view_is) c.requires.counted)
    (subst (λ (front : FrontParts). front.unfinished < (state_of front.core).settings.slots) (sym c.self.view_is) c.requires.free) (record {
      gives = c.in-Ok.ensures.gives;
      idle = c.self.invariant.hands;
      last = c.in-Some.ensures.1 ∙ ap (λ n. n + 1) (sym c.self.invariant.submitted);
      unfinished = refl;
      waits = λ is. c.one_if_waiting.ensures.waits (c.life.ensures.life ∙ is);
      none = λ is. c.one_if_waiting.ensures.none (c.life.ensures.life ∙ is);
    })
