use Rattle.std.proofs.Common.{◌≡◌, true}
use Rattle.script_run.specs.Home.{IsAtRest}
use Rattle.session_server.proofs.server.take_all.Given as goal

-- the own seat is at rest, the door listens, and no call on it failed
abbrev pub invariant-links : goal.invariant-links
invariant-links g l = record {
  own : IsAtRest l.board l.reception.own.seat;
  listening : (g.D.Door.accepting l.door).listening ≡ true;
  asked : (g.D.Door.accepting l.door).asked ≡ (g.D.Door.accepting l.fn.door).asked;
  unfailed : (g.D.Door.accepting l.door).faults ≡ (g.D.Door.accepting l.fn.door).faults;
}
