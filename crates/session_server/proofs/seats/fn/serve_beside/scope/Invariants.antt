-- A thread began for each front so far.
use Rattle.std.proofs.Common.{◌≡◌}
use Rattle.session_server.proofs.seats.fn.serve_beside.scope.Given as goal

abbrev pub invariant-loop-front : goal.invariant-loop-front
invariant-loop-front g l = l.began ≡ l.front-index
