-- The statements so far were submitted.
use Rattle.script_run.proofs.Words.{◌≡◌, ◌≤◌, length, state_of, take}
use Rattle.core_state.specs.Rows.{sight_of}
use Rattle.script_run.specs.SeatTurns.{KeepsHand, SendsAll}
use Rattle.script_run.proofs.seat_run.submit_all.Given as goal

abbrev pub invariant-statements : goal.invariant-statements
invariant-statements l = record {
  keeps : KeepsHand l.seat l.fn.core l.core;
  given : l.given ≡ l.statement-index;
  count : l.given ≤ length l.statements;
  submits : SendsAll l.seat (take l.given l.statements) (sight_of (state_of l.fn.core) l.seat) (sight_of (state_of l.core) l.seat);
}
