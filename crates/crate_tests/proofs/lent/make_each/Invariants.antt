-- The events so far moved no row but that of seat 0, and what is lent stays.
use Rattle.core_state.specs.Rows.{IsMindful}
use Rattle.event_core.specs.Seen.{state_of}
use Rattle.worker_gate.specs.Left.{LeavesAllLoans}
use Rattle.crate_tests.proofs.lent.make_each.Given as goal

abbrev pub invariant-kinds : goal.invariant-kinds
invariant-kinds l = record {
  mindful : IsMindful 0 (state_of l.fn.core) (state_of l.core);
  loans : LeavesAllLoans l.fn.core l.core;
}
