-- Without workers the run has the core by itself, and with workers nothing is told of that.
use Rattle.script_run.proofs.Words.{◌≡◌}
use Rattle.script_run.proofs.SeatDoneLemmas.{shared-board}
use Rattle.script_run.proofs.SharedEndLemmas.{shared-alone}
use Rattle.script_run.proofs.shared.run_script.Goals as goal

pub returns-then-settings-eq0-clause-answers : goal.returns-then-settings-eq0-clause-answers
returns-then-settings-eq0-clause-answers g c =
    shared-alone (Unit {0}) (c.args.settings.workers ≡ 0) c.args.settings c.run_on_one_thread.result.core c.run_on_one_thread.result.end
    _ _ _ _ (λ none. tt) c.run_on_one_thread.ensures.answers

pub returns-then-settings-eq0-clause-run : goal.returns-then-settings-eq0-clause-run
returns-then-settings-eq0-clause-run g c none = c.run_on_one_thread.ensures.run

pub returns-else-settings-eq0-clause-answers : goal.returns-else-settings-eq0-clause-answers
returns-else-settings-eq0-clause-answers g c =
    shared-board c.args.settings c.run_with_workers.result.core c.run_with_workers.result.end _ _ _ _ c.if-settings-eq0.false
    c.run_with_workers.ensures.answers

pub returns-else-settings-eq0-clause-run : goal.returns-else-settings-eq0-clause-run
returns-else-settings-eq0-clause-run g c none = absurd (c.if-settings-eq0.false none)
