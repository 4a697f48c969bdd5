use Rattle.std.proofs.Common.{ap, sym, subst, ◌∙◌, ◌++◌}
use Rattle.pipeline_manager.specs.Changes.{with_answer}
use Rattle.pipeline_manager.specs.LetGo.{AreLetGo}
use Rattle.pipeline_manager.specs.Sound.{AreRising}
use Rattle.pipeline_manager.proofs.GoneLemmas.{answered-behind, rising-rest}
use Rattle.pipeline_manager.proofs.KeptLemmas.{kept-answered, rising-answered}
use Rattle.pipeline_manager.proofs.query_lives.QueryLives.answer.Goals as goal

pub answer-requires : goal.answer-requires
answer-requires c =
    rising-rest c.self.inside.gone.queries c.self.inside.rest (subst AreRising (sym c.self.view_is) c.requires)

pub settle-requires-clause-rising : goal.settle-requires-clause-rising
settle-requires-clause-rising c =
    let rising = subst AreRising (sym c.self.view_is) c.requires in
    subst (λ rest. AreRising (c.self.inside.gone.queries ++ rest)) (sym c.answer.ensures)
    (subst AreRising (sym (answered-behind c.args.query c.self.inside.gone.queries c.self.inside.rest rising c.self.invariant.over))
    (rising-answered c.args.query (c.self.inside.gone.queries ++ c.self.inside.rest) rising))

pub settle-requires-clause-kept : goal.settle-requires-clause-kept
settle-requires-clause-kept c =
    subst (λ rest. AreLetGo c.self.inside.gone rest c.self.inside.passed c.self.inside.closed) (sym c.answer.ensures)
    (kept-answered c.self.inside.gone c.self.inside.rest c.self.inside.passed c.self.inside.closed c.args.query c.self.invariant)

pub returns : goal.returns
returns c =
    let rising = subst AreRising (sym c.self.view_is) c.requires in
    c.settle.ensures.same ∙ ap (λ rest. c.self.inside.gone.queries ++ rest) c.answer.ensures
    ∙ answered-behind c.args.query c.self.inside.gone.queries c.self.inside.rest rising c.self.invariant.over
    ∙ ap (with_answer c.args.query) c.self.view_is
