use Rattle.std.proofs.Common.{◌≡◌, ◌∙◌, ap, arith, sym}
use Rattle.core_state.specs.declared.settings.RunSettings.{RunSettings}
use Rattle.star_main.proofs.ByModeLemmas.{hands-run, none-run}
use Rattle.star_main.proofs.HeadlineLemmas.{headline_shared}
use Rattle.star_main.proofs.top.run_with_workers.Goals as goal

pub returns-clause-answers : goal.returns-clause-answers
returns-clause-answers g c =
    let ran = c.run_script in
    let done = c.done_of in
    let size = c.run_settings-core.ensures.size in
    let some = c.requires.workers in
    record {
      headline = headline_shared _ _ _ _ (c.run_settings-core.result.workers ≡ 0) _ _ _ _ ran.result.end _ (sym size) done.ensures.core
          done.ensures.status (λ none. ap (λ (s : RunSettings). s.workers) size ∙ none) ran.ensures.answers;
      hands = hands-run c.args.settings.now done.result.handed done.result.status ran.result.core done.ensures.core
          (none-run ran.result.core ran.result.end done.result.status done.ensures.status ran.ensures.core)
          (λ none. absurd (omega (arith, some, none)));
    }
