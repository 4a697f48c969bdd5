use Rattle.std.proofs.Common.{◌≡◌, ap, refl, rules}
use Rattle.star_io.specs.SureSource.{SureState}
use Rattle.make_load.proofs.RunLemmas.{never-limit, never-read-fault, ran_of}
use Rattle.make_load.proofs.ran.run_text.Goals as goal

pub returns-clause-ran : goal.returns-clause-ran
returns-clause-ran g c =
    let run = c.run_script-done in
    ran_of (c.args.settings.workers ≡ 0) c.args.settings run.result.core run.result.end c.args.script.now c.new-source.result.left
    run.new.source.left c.new-sink.result.taken run.new.sink.taken _ _ _ _ (ap (λ (s : SureState). s.left) c.new-source.ensures)
    (search rules) refl refl refl refl run.ensures.answers

pub returns-clause-ends : goal.returns-clause-ends
returns-clause-ends g c =
    let run = c.run_script-done in
    record {
      read = never-read-fault run.result.end _ _ _ _ refl run.ensures.faults;
      limit = never-limit run.result.end _ _ _ _ c.args.script.now c.new-source.result.left run.new.source.left c.requires.short
          (ap (λ (s : SureState). s.left) c.new-source.ensures) refl refl run.ensures.answers.0;
    }

pub returns-clause-back : goal.returns-clause-back
returns-clause-back g c = record { core = c.run_script-done.ensures.core; run = c.run_script-done.ensures.run }
