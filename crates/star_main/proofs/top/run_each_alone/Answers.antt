use Rattle.std.proofs.Common.{◌∙◌, ap}
use Rattle.star_main.specs.HandedBack.{core_in}
use Rattle.star_main.specs.Modes.{run_settings_of}
use Rattle.star_main.proofs.HeadlineLemmas.{headline_alone}
use Rattle.star_main.proofs.top.run_each_alone.Goals as goal

pub returns-clause-answers : goal.returns-clause-answers
returns-clause-answers g c settings = record {
  headline = headline_alone _ _ _ _ (run_settings_of settings) _ c.run_alone.result _ (ap core_in c.with_nothing.ensures.nothing)
      (c.with_nothing.ensures.status ∙ c.status_of.ensures) c.run_alone.ensures.answers;
  nothing = c.with_nothing.ensures.nothing;
}
