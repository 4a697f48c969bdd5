use Rattle.std.proofs.Common.{sym}
use Rattle.pipeline_manager.specs.Changes.{cut_query}
use Rattle.star_values.proofs.RisingLemmas.{map-lent, map-missing}
use Rattle.pipeline_manager.specs.declared.life.QueryLife.{QueryLife}
use Rattle.pipeline_manager.proofs.queries.cut_query.Goals as goal

pub returns-in-Some : goal.returns-in-Some
returns-in-Some c =
    let found = rw c.as_slice.ensures at c.in-Some.ensures in
    rw (c.cut_life-entry.ensures, c.covered.ensures)
    (map-lent (λ (entry : QueryLife). entry.query) c.args.queries.now c.as_mut_slice.result.now c.in-Some.place c.args.query
    (cut_query c.args.first c.args.last) _ c.as_mut_slice.ensures.members c.requires found.0 (found.1 _))

pub returns-in_default : goal.returns-in_default
returns-in_default c =
    let missing = rw c.as_slice.ensures at c.in_default.ensures in
    sym (map-missing (λ (entry : QueryLife). entry.query) c.args.queries.now c.args.query (cut_query c.args.first c.args.last) missing)
