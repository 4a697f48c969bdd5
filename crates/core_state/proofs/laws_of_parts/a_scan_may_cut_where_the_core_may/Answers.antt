use Rattle.std.proofs.Common.{arith}
use Rattle.core_state.proofs.ScannedRunLemmas.{scanned-can-cut, scanned-in-step, some-scanned}
use Rattle.core_state.proofs.ScannedTestLemmas.{scanned-can-test}
use Rattle.core_state.proofs.laws_of_parts.a_scan_may_cut_where_the_core_may.Goals as goal

pub returns : goal.returns
returns c = record {
  may = λ state scan keyed sound same tables. (scanned-in-step state scan sound same, scanned-can-cut state scan keyed sound same tables);
  tests = scanned-can-test c.accepted_histories_are_settled.ensures.all c.rows_fit_by_their_kinds.ensures;
  room = λ state. omega arith;
  runs = some-scanned;
}
