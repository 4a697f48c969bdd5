use Rattle.core_state.proofs.ScannedStartLemmas.{scanned-can-start, scanned-start, scanned-start-none}
use Rattle.core_state.proofs.laws_of_parts.a_scan_starts_what_the_core_starts.Goals as goal

pub returns : goal.returns
returns c = record { may = scanned-can-start; some = scanned-start; none = scanned-start-none }
