use Rattle.core_state.proofs.ScannedAfterLemmas.{scanned-cut}
use Rattle.core_state.proofs.ScannedBatchLemmas.{same-batch}
use Rattle.core_state.proofs.ScannedRunLemmas.{same-first, same-last}
use Rattle.core_state.proofs.laws_of_parts.a_scan_cuts_what_the_core_cuts.Goals as goal

pub returns : goal.returns
returns c = record {
  range = λ state scan keyed sound same tables. (same-first state scan keyed same tables, same-last state scan keyed sound same tables);
  batch = same-batch c.key_numbers_are_found_by_keys.ensures;
  after = λ state scan keyed can sound same tables. scanned-cut state scan keyed can sound same tables;
}
