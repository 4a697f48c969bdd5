-- The seat is at rest between two connections.
use Rattle.script_run.specs.Home.{IsAtRest}
use Rattle.session_server.proofs.seats.serve_links.Given as goal

abbrev pub invariant-links : goal.invariant-links
invariant-links g l = IsAtRest l.board l.front.seat
