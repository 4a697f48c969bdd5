use Rattle.std.proofs.Common.{ap, ◌∙◌, arith}
use Rattle.std.proofs.lemmas.List.{get_or_default}
use Rattle.star_values.proofs.RisingLemmas.{missing_past}
use Rattle.pipeline_manager.specs.declared.life.QueryLife.{QueryLife}
use Rattle.pipeline_manager.proofs.queries.place_by_search.Goals as goal
use Rattle.pipeline_manager.proofs.queries.place_by_search.Goals.{else-place-queries-via-then-place-queries+else-queries-place, else-place-queries-via-else-place-queries}

pub returns-else-place-queries : goal.returns-else-place-queries
returns-else-place-queries c =
    missing_past (λ (entry : QueryLife). entry.query) c.args.queries.now c.first_from-place.result c.args.query c.requires c.first_from-place.ensures.halves
    (λ d within same. elim c.else-place-queries.branch [
      | else-place-queries-via-then-place-queries+else-queries-place w ↦
          w.if-queries-place.false (ap (λ entry. entry.query) (get_or_default c.args.queries.now c.first_from-place.result _ d within) ∙ same)
      | else-place-queries-via-else-place-queries w ↦ omega arith
    ])
