use Rattle.std.proofs.Common.{IfSome, subst, sym}
use Rattle.core_state.specs.Sound.{empty_core}
use Rattle.core_state.specs.declared.settings.RunSettings.{RunSettings}
use Rattle.event_core.specs.Seen.{state_of}
use Rattle.script_run.specs.Front.{IsRun}
use Rattle.star_main.proofs.ByModeLemmas.{hands-run, none-made}
use Rattle.star_main.proofs.MadeLemmas.{causes_made, made_headline}
use Rattle.star_main.proofs.top.make_shared.Goals as goal

pub returns-clause-answers : goal.returns-clause-answers
returns-clause-answers g c =
    let ran = c.run_made_on_one_thread in
    let done = c.made_of in
    let size = c.run_settings-core.ensures.size in
    let Leads : RunSettings → Type 0 = λ settings. IfSome ran.result.core (λ core. IsRun (empty_core settings) (state_of core)) in
    record {
      made = made_headline (Unit {0}) _ _ _ _ _ _ ran.result.end _ _ _ (sym size) done.ensures.core done.ensures.status (λ none. tt)
          ran.ensures.answers;
      hands = hands-run c.args.settings.now done.result.handed done.result.status ran.result.core done.ensures.core
          (none-made ran.result.core ran.result.end done.result.status done.ensures.status ran.ensures.back.core)
          (λ alone. subst Leads size (ran.ensures.back.run tt));
    }

pub returns-clause-causes : goal.returns-clause-causes
returns-clause-causes g c source =
    rw c.made_of.ensures.status (causes_made c.run_made_on_one_thread.result.end source _ _ c.run_made_on_one_thread.ensures.faults)
