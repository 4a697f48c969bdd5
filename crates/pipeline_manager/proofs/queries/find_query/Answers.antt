use Rattle.std.proofs.Common.{sym}
use Rattle.pipeline_manager.proofs.QueryLemmas.{query_in-found, query_in-missing}
use Rattle.pipeline_manager.proofs.queries.find_query.Goals as goal

pub returns-in_err-place : goal.returns-in_err-place
returns-in_err-place c =
    rw c.from_residual.ensures (sym (query_in-missing c.args.queries.now c.args.query c.in_err-place.ensures))

pub returns : goal.returns
returns c =
    let found = c.in_ok-place.ensures in
    sym (query_in-found c.args.queries.now c.in_ok-place.place c.args.query _ c.requires found.0 (found.1 _))
