use Rattle.event_core.proofs.Words.{◌∙◌, ap, state_of}
use Rattle.event_core.proofs.TookLemmas.{home-next, refused-next, taken-next}
use Rattle.event_core.proofs.machine.Core.run_events.Goals as goal

pub step-requires : goal.step-requires
step-requires c = record {
  home = home-next c.events.at c.args.events.items _ _ c.in-Some.event c.args.self.now c.events.self c.events.invariant.0.rest
      c.in-Some.ensures.steps.0 c.events.invariant.1 c.requires.home;
}

pub events-preserved : goal.events-preserved
events-preserved c = (
  taken-next _ _ _ _ c.in-Some.event _ _ _ c.events.invariant.0 c.in-Some.ensures.steps.0 c.in_default.ensures.taken c.step.ensures.sound,
  c.step.ensures.beside ∙ c.events.invariant.1,
)

pub returns-in-Err-clause-cause : goal.returns-in-Err-clause-cause
returns-in-Err-clause-cause c =
    refused-next c.events.at _ _ _ c.in-Some.event _ _ c.in-Err.cause c.step.result c.events.invariant.0.rest c.in-Some.ensures.steps.0
    c.in-Err.is (ap state_of c.in-Err.ensures.err) c.step.ensures.disabled c.step.ensures.memory

pub returns-in-Err-clause-beside : goal.returns-in-Err-clause-beside
returns-in-Err-clause-beside c = c.step.ensures.beside ∙ c.events.invariant.1
