-- A door of the system's network, as contracts see it.
use Rattle.std.specs.Prelude.{ℤ, Bool, false, is_some, Option, Some, None}
use Rattle.std.specs.List.{list_any}
use Rattle.std.specs.Ordering.{int_eq}
use Rattle.star_io.specs.Door.{DoorSide}
use Rattle.star_io.specs.declared.os_errors.TheConstants.{PASSING}
use Rattle.star_io.specs.declared.tcp_door.TcpDoor.{TcpDoor}

-- what it tells: it never ends
abbrev pub tcp_side : {N : Type 0} → TcpDoor N → DoorSide
tcp_side door = record {
  faults = door.faults;
  failed = door.failed;
  asked = door.asked;
  listening = is_some door.listener;
  given = door.given;
  ended = false;
}

-- an `accept` that failed with this error of the system, if it was one, may succeed later
abbrev pub may_pass : Option ℤ → Bool
may_pass None = false
may_pass (Some number) = list_any (λ passing. int_eq passing number) PASSING
