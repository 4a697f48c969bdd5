use Rattle.std.proofs.Common.{ap, sym, subst, ◌∙◌}
use Rattle.pipeline_manager.specs.Lives.{extent_in}
use Rattle.pipeline_manager.specs.LetGo.{IsOpenIn}
use Rattle.pipeline_manager.specs.Sound.{AreRising}
use Rattle.pipeline_manager.proofs.GoneLemmas.{extent-behind, rising-rest}
use Rattle.pipeline_manager.proofs.query_lives.QueryLives.extent.Goals as goal

pub extent_of-requires : goal.extent_of-requires
extent_of-requires c =
    subst AreRising (sym c.as_slice.ensures)
    (rising-rest c.self.inside.gone.queries c.self.inside.rest (subst AreRising (sym c.self.view_is) c.requires.rising))

pub returns : goal.returns
returns c =
    c.extent_of.ensures ∙ ap (λ list. extent_in list c.args.query) c.as_slice.ensures
    ∙ extent-behind c.self.inside.gone.queries c.self.inside.rest c.args.query c.self.invariant.over
    (subst (λ list. IsOpenIn list c.args.query) (sym c.self.view_is) c.requires.may)
    ∙ ap (λ list. extent_in list c.args.query) c.self.view_is
