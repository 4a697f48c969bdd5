use Rattle.core_state.proofs.ScannedEventLemmas.{scanned-event, scanned-taking, scanned-wants}
use Rattle.core_state.proofs.laws_of_parts.other_events_leave_a_scan.Goals as goal

pub returns : goal.returns
returns c = record { event = scanned-event; wants = scanned-wants; taken = scanned-taking }
