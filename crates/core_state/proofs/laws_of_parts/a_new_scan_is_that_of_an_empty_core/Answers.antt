use Rattle.core_state.proofs.ScannedEventLemmas.{scanned-empty}
use Rattle.core_state.proofs.laws_of_parts.a_new_scan_is_that_of_an_empty_core.Goals as goal

pub returns : goal.returns
returns c = scanned-empty
