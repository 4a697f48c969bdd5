use Rattle.std.proofs.Common.{◌≡◌, ℕ, ◌<◌, eqb, false}
use Rattle.std.specs.Int.{bit_at}
use Rattle.std.specs.List.{list_any}
use Rattle.pipeline_manager.specs.Conditions.{CanEnd}
use Rattle.core_parts.proofs.next_flights.next_finish.Given as goal

abbrev pub invariant-loop-slot : goal.invariant-loop-slot
invariant-loop-slot l = (k : ℕ) → k < l.slot
    → CanEnd k l.manager × (list_any (λ flight. eqb (bit_at flight.batch.roster k) 1) l.flights ≡ false) → ⊥
