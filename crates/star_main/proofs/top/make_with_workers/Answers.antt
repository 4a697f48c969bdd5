use Rattle.std.proofs.Common.{◌≡◌, ◌∙◌, ap, arith, sym}
use Rattle.core_state.specs.declared.settings.RunSettings.{RunSettings}
use Rattle.star_main.proofs.ByModeLemmas.{hands-run, none-made}
use Rattle.star_main.proofs.MadeLemmas.{causes_made, made_headline}
use Rattle.star_main.proofs.top.make_with_workers.Goals as goal

pub returns-clause-answers : goal.returns-clause-answers
returns-clause-answers g c =
    let ran = c.run_made in
    let done = c.made_of in
    let size = c.run_settings-core.ensures.size in
    let some = c.requires.workers in
    record {
      made = made_headline (c.run_settings-core.result.workers ≡ 0) _ _ _ _ _ _ ran.result.end _ _ _ (sym size) done.ensures.core
          done.ensures.status (λ none. ap (λ (s : RunSettings). s.workers) size ∙ none) ran.ensures.answers;
      hands = hands-run c.args.settings.now done.result.handed done.result.status ran.result.core done.ensures.core
          (none-made ran.result.core ran.result.end done.result.status done.ensures.status ran.ensures.back.core)
          (λ none. absurd (omega (arith, some, none)));
    }

pub returns-clause-causes : goal.returns-clause-causes
returns-clause-causes g c source =
    rw c.made_of.ensures.status (causes_made c.run_made.result.end source _ _ c.run_made.ensures.faults)
