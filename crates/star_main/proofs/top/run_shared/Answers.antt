use Rattle.std.proofs.Common.{IfSome, subst, sym}
use Rattle.core_state.specs.Sound.{empty_core}
use Rattle.core_state.specs.declared.settings.RunSettings.{RunSettings}
use Rattle.event_core.specs.Seen.{state_of}
use Rattle.script_run.specs.Front.{IsRun}
use Rattle.star_main.proofs.ByModeLemmas.{hands-run, none-run}
use Rattle.star_main.proofs.HeadlineLemmas.{causes_of, headline_shared}
use Rattle.star_main.proofs.top.run_shared.Goals as goal

pub returns-clause-answers : goal.returns-clause-answers
returns-clause-answers g c =
    let ran = c.run_on_one_thread in
    let done = c.done_of in
    let size = c.run_settings-core.ensures.size in
    let Leads : RunSettings → Type 0 = λ settings. IfSome ran.result.core (λ core. IsRun (empty_core settings) (state_of core)) in
    record {
      headline = headline_shared _ _ _ _ (Unit {0}) _ _ _ _ ran.result.end _ (sym size) done.ensures.core done.ensures.status (λ none. tt)
          ran.ensures.answers;
      hands = hands-run c.args.settings.now done.result.handed done.result.status ran.result.core done.ensures.core
          (none-run ran.result.core ran.result.end done.result.status done.ensures.status ran.ensures.core)
          (λ alone. subst Leads size ran.ensures.run);
    }
