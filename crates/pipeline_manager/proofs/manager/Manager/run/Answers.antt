use Rattle.std.proofs.Common.{◌≡◌, Some, false, ap, sym, subst, ◌∙◌}
use Rattle.std.specs.Option.{option_map_or}
use Rattle.pipeline_manager.specs.declared.life.Life.TheVariants.{Building}
use Rattle.pipeline_manager.specs.Lives.{life_of, is_waiting}
use Rattle.pipeline_manager.specs.Conditions.{is_open}
use Rattle.pipeline_manager.proofs.PassedLemmas.{started-waits}
use Rattle.pipeline_manager.proofs.CallLemmas.{sound-after_run}
use Rattle.pipeline_manager.proofs.manager.Manager.run.Goals as goal

pub extent-extent-requires-clause-may : goal.extent-extent-requires-clause-may
extent-extent-requires-clause-may c =
    let building = subst (λ lives. life_of lives c.args.query ≡ Some Building) (sym c.self.view_is) c.requires.building in
    ap (λ life. option_map_or is_open life false) building

pub set_life-requires-clause-may : goal.set_life-requires-clause-may
set_life-requires-clause-may c =
    let building = subst (λ lives. life_of lives c.args.query ≡ Some Building) (sym c.self.view_is) c.requires.building in
    ap (λ life. option_map_or is_open life false) building

pub set_life-requires-clause-passed : goal.set_life-requires-clause-passed
set_life-requires-clause-passed c = ap is_waiting c.started-life.ensures ∙ started-waits c.args.start c.extent-extent.result

pub invariant_of-self : goal.invariant_of-self
invariant_of-self c =
    let building = subst (λ lives. life_of lives c.args.query ≡ Some Building) (sym c.self.view_is) c.requires.building in
    rw (c.set_life.ensures, c.started-life.ensures, c.extent-extent.ensures) (
      sound-after_run c.args.query c.args.start _ building c.self.invariant.0,
      c.self.invariant.1,
    )
