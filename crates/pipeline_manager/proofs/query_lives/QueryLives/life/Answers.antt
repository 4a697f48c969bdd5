use Rattle.std.proofs.Common.{ap, sym, subst, ◌∙◌}
use Rattle.std.specs.Option.{option_or}
use Rattle.pipeline_manager.specs.Lives.{life_in}
use Rattle.pipeline_manager.specs.Sound.{AreRising}
use Rattle.pipeline_manager.proofs.GoneLemmas.{life-either, rising-rest}
use Rattle.pipeline_manager.proofs.query_lives.QueryLives.life.Goals as goal

pub life_of-requires : goal.life_of-requires
life_of-requires c =
    subst AreRising (sym c.as_slice.ensures)
    (rising-rest c.self.inside.gone.queries c.self.inside.rest (subst AreRising (sym c.self.view_is) c.requires))

pub returns : goal.returns
returns c =
    let rising = subst AreRising (sym c.self.view_is) c.requires in
    c.or.ensures
    ∙ ap (λ life. option_or life c.life.result) (c.life_of.ensures ∙ ap (λ list. life_in list c.args.query) c.as_slice.ensures)
    ∙ ap (option_or (life_in c.self.inside.rest c.args.query)) c.life.ensures
    ∙ life-either c.self.inside.gone.queries c.self.inside.rest c.args.query rising
    ∙ ap (λ list. life_in list c.args.query) c.self.view_is
