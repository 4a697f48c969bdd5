use Rattle.std.proofs.Common.{sym}
use Rattle.pipeline_manager.proofs.SlotLemmas.{none-free}
use Rattle.pipeline_manager.proofs.next_events.next_reservation.Goals as goal

pub returns-in_err-slot-clause-none : goal.returns-in_err-slot-clause-none
returns-in_err-slot-clause-none c =
    λ none query slot may. none-free c.args.manager.now slot (sym c.in_err-slot.ensures.least) may.there may.is_free
