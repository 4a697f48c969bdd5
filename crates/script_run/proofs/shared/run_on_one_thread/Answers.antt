use Rattle.script_run.proofs.Words.{◌∙◌, ap, empty_core, State, sym}
use Rattle.script_run.proofs.SharedEndLemmas.{none-shared, run-by, shared-by}
use Rattle.script_run.proofs.shared.run_on_one_thread.Goals as goal

pub play_script-end-requires-clause-front : goal.play_script-end-requires-clause-front
play_script-end-requires-clause-front g c κs within = record {
  empty = c.in-Ok.ensures.empty ∙ ap (λ (state : State). empty_core state.settings) (sym c.in-Ok.ensures.empty);
  counted = c.in-Ok.ensures.counted;
  none = c.in-Ok.ensures.none;
}

pub returns-in_default-clause-answers : goal.returns-in_default-clause-answers
returns-in_default-clause-answers g c = (none-shared _ _, tt)

pub returns-clause-answers : goal.returns-clause-answers
returns-clause-answers g c =
    shared-by _ _ c.core_of.result c.play_script-end.new.front.core c.play_script-end.result _ _ _ _ c.core_of.ensures.own
    (ap (λ (state : State). state.settings) c.in-Ok.ensures.empty) c.play_script-end.ensures.answers

pub returns-clause-run : goal.returns-clause-run
returns-clause-run g c =
    run-by c.core_of.result c.play_script-end.new.front.core _ c.args.settings c.core_of.ensures.own c.in-Ok.ensures.empty c.play_script-end.ensures.run
