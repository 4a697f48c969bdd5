use Rattle.std.proofs.Common.{◌≡◌, true}
use Rattle.script_run.specs.Home.{IsAtRest}
use Rattle.session_server.specs.Server.{HasGiven}
use Rattle.session_server.proofs.server.take_some.Given as goal

-- the own seat is at rest, the door listens, so many links were handed out, and no call on the door failed
abbrev pub invariant-links : goal.invariant-links
invariant-links g l = record {
  own : IsAtRest l.board l.reception.own.seat;
  listening : (g.D.Door.accepting l.door).listening ≡ true;
  asked : (g.D.Door.accepting l.door).asked ≡ (g.D.Door.accepting l.fn.door).asked;
  unfailed : (g.D.Door.accepting l.door).faults ≡ (g.D.Door.accepting l.fn.door).faults;
  given : HasGiven l._taken (g.D.Door.accepting l.fn.door).given (g.D.Door.accepting l.door).given;
}
