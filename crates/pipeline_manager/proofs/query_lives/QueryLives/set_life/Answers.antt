use Rattle.std.proofs.Common.{ap, sym, subst, ◌∙◌, ◌++◌}
use Rattle.pipeline_manager.specs.Changes.{with_life}
use Rattle.pipeline_manager.specs.LetGo.{AreLetGo, IsOpenIn}
use Rattle.pipeline_manager.specs.Sound.{AreRising}
use Rattle.pipeline_manager.proofs.GoneLemmas.{rising-rest, written-behind}
use Rattle.pipeline_manager.proofs.KeptLemmas.{kept-written}
use Rattle.pipeline_manager.proofs.SoundLemmas.{rising-with_life}
use Rattle.pipeline_manager.proofs.query_lives.QueryLives.set_life.Goals as goal

pub set_life-requires : goal.set_life-requires
set_life-requires c =
    rising-rest c.self.inside.gone.queries c.self.inside.rest (subst AreRising (sym c.self.view_is) c.requires.rising)

pub settle-requires-clause-rising : goal.settle-requires-clause-rising
settle-requires-clause-rising c =
    let may = subst (λ list. IsOpenIn list c.args.query) (sym c.self.view_is) c.requires.may in
    subst (λ rest. AreRising (c.self.inside.gone.queries ++ rest)) (sym c.set_life.ensures)
    (subst AreRising (sym (written-behind c.args.query c.args.life c.self.inside.gone.queries c.self.inside.rest c.self.invariant.over may))
    (rising-with_life c.args.query c.args.life (c.self.inside.gone.queries ++ c.self.inside.rest)
    (subst AreRising (sym c.self.view_is) c.requires.rising)))

pub settle-requires-clause-kept : goal.settle-requires-clause-kept
settle-requires-clause-kept c =
    let may = subst (λ list. IsOpenIn list c.args.query) (sym c.self.view_is) c.requires.may in
    subst (λ rest. AreLetGo c.self.inside.gone rest c.self.inside.passed c.self.inside.closed) (sym c.set_life.ensures)
    (kept-written c.self.inside.gone c.self.inside.rest c.self.inside.passed c.self.inside.closed c.args.query c.args.life
    c.requires.passed may c.self.invariant)

pub returns : goal.returns
returns c =
    let may = subst (λ list. IsOpenIn list c.args.query) (sym c.self.view_is) c.requires.may in
    c.settle.ensures.same ∙ ap (λ rest. c.self.inside.gone.queries ++ rest) c.set_life.ensures
    ∙ written-behind c.args.query c.args.life c.self.inside.gone.queries c.self.inside.rest c.self.invariant.over may
    ∙ ap (with_life c.args.query c.args.life) c.self.view_is
