-- A door in memory, as contracts see it.
use Rattle.std.specs.Prelude.{◌≡◌, ◌↔◌, ℕ, List, [], ◌∷◌, Bool, true, false, drop, Contains, IfOk, IsErr, Option, Some, None, Result, Ok, Err}
use Rattle.star_io.specs.Door.{DoorSide}
use Rattle.star_io.specs.Faults.{next_count}
use Rattle.star_io.specs.PairLink.{PairState}
use Rattle.star_io.specs.declared.failed.Failed.{Failed}

-- the links still to be given out, the numbers of the calls of `accept` that fail, the number of
-- the next one, how many calls failed, whether the last one did, the port that was asked for,
-- whether the door listens, how many links were given out, and whether an `accept` answered `None`
pub record DoorState : Type 0 where
  pub links : List PairState
  pub fails : List ℕ
  pub calls : ℕ
  pub faults : ℕ
  pub failed : Bool
  pub asked : Option ℕ
  pub listening : Bool
  pub given : ℕ
  pub ended : Bool

-- what it tells
abbrev pub door_side : DoorState → DoorSide
door_side s = record {
  faults = s.faults;
  failed = s.failed;
  asked = s.asked;
  listening = s.listening;
  given = s.given;
  ended = s.ended;
}

-- the first link of a list, if there is one
abbrev pub next_link : List PairState → Option PairState
next_link [] = None
next_link (link ∷ _) = Some link

-- the door after a `listen`
abbrev pub after_listen : DoorState → ℕ → DoorState
after_listen s port = record s { asked = Some port; listening = true; failed = false }

-- the door after a `close`
abbrev pub after_close : DoorState → DoorState
after_close s = record s { listening = false }

-- the door after an `accept`: a link that was given out has left it, `None` is its end, and at
-- `Err` one more fault is counted
abbrev pub after_accept : DoorState → Result (Option PairState) Failed → DoorState
after_accept s (Ok (Some _)) =
    record s {
      links = drop 1 s.links;
      calls = next_count s.calls;
      failed = false;
      given = next_count s.given;
    }
after_accept s (Ok None) = record s { calls = next_count s.calls; failed = false; ended = true }
after_accept s (Err _) =
    record s { calls = next_count s.calls; faults = next_count s.faults; failed = true }

-- what an `accept` does: it fails where it is listed, and else gives out the next link or tells the
-- end
pub record GivesNext (old new : DoorState) (result : Result (Option PairState) Failed)
    : Type 0 where
  pub fails : IsErr result ↔ Contains old.fails old.calls
  pub next : IfOk result (λ link. link ≡ next_link old.links)
  pub state : new ≡ after_accept old result
