-- How the serving of connections ends, and the server by whose seats they are served.
use Rattle.std.specs.Prelude.{◌≡◌, ◌≢◌, ℕ, ◌+◌, ◌<◌, ◌⊎◌, true, false, List, length, slice_index_or, Option, Some, None, IfSome, IsNone}
use Rattle.star_io.specs.Door.{DoorSide}
use Rattle.star_io.specs.Faults.{FailedOnce, last_count, next_count}
use Rattle.star_io.specs.declared.serve_end.ServeEnd.{ServeEnd}
use Rattle.star_io.specs.declared.serve_end.ServeEnd.TheVariants.{Ended, DoorFault, NoMemory}
use Rattle.board_lock.specs.declared.seat.BoardLock.{BoardLock}
use Rattle.core_state.specs.declared.settings.RunSettings.{RunSettings}
use Rattle.event_core.specs.CoreParts.{CoreParts}
use Rattle.script_run.specs.BoardRun.{AreWorkers}
use Rattle.script_run.specs.Home.{IsAtRest}
use Rattle.script_run.specs.declared.seat_front.SeatFront.{SeatFront}
use Rattle.session_server.specs.declared.seats.Server.{Server}

-- so many links were given out, or the counter of links stands at its last value
abbrev pub HasGiven : ℕ → ℕ → ℕ → Type 0
HasGiven n old new = (new ≡ old + n) ⊎ (new ≡ last_count)

-- the calls on a door that failed over the serving: one, the last of all, if that is why the serving
-- ended, and else none
abbrev pub CountsDoor : ServeEnd → (old new : DoorSide) → Type 0
CountsDoor Ended old new = new.faults ≡ old.faults
CountsDoor DoorFault old new = FailedOnce old.faults new.faults new.failed
CountsDoor NoMemory old new = new.faults ≡ old.faults

-- the same of one connection, after which the serving goes on or ends
abbrev pub CountsNext : Option ServeEnd → (old new : DoorSide) → Type 0
CountsNext None old new = new.faults ≡ old.faults
CountsNext (Some end) old new = CountsDoor end old new

-- each of these fronts has a seat of the board by which a session may be served
abbrev pub AreAtRest : BoardLock CoreParts → List SeatFront → Type 0
AreAtRest board fronts =
    (place : ℕ) (other : SeatFront) → place < length fronts
    → IsAtRest board (slice_index_or fronts place other).seat

-- a server by whose seats connections may be served: a front that is the board's first seat, those
-- of workers, and those of sessions
pub record CanServe (server : Server) : Type 0 where
  pub own : IsAtRest server.board server.own.seat
  pub are_workers : AreWorkers server.board server.workers.items
  pub are_at_rest : AreAtRest server.board server.sessions.items

-- such a server over a core of these settings to which nothing was given, with a front of a session
-- for each seat that is neither the first one nor a worker's
pub record IsNewServer (settings : RunSettings) (server : Server) : Type 0 where
  pub serves : CanServe server
  pub count : settings.workers + (length server.sessions.items + 1) ≡ settings.seats

-- so many seats of a board are neither the first one nor those of the workers, as the settings say
pub record HasSeatsLeft (settings : RunSettings) (board : BoardLock CoreParts) (left : ℕ)
    : Type 0 where
  pub most : board.seats ≡ settings.seats
  pub count : settings.workers + (left + 1) ≡ settings.seats

-- what taking connections does to a door, after which the serving goes on or ends, but not for lack
-- of memory: the door was asked for what it was asked for before, and one call on it failed, the
-- last one, if that is why the serving ends
pub record TakesLinks (end : Option ServeEnd) (old new : DoorSide) : Type 0 where
  pub same : new.asked ≡ old.asked
  pub served : IfSome end (λ reason. reason ≢ NoMemory)
  pub counts : CountsNext end old new

-- what a door told of one connection: it was given out, if the serving goes on, and the door has
-- ended, if that is why the serving ends
pub record TellsNext (end : Option ServeEnd) (old new : DoorSide) : Type 0 where
  pub handed : IsNone end → new.given ≡ next_count old.given
  pub last : end ≡ Some Ended → new.ended ≡ true

-- why a serving ended: the door has ended, or as many links were given out as were to be taken, if
-- that number is not 0
abbrev pub HasCome : (accept : ℕ) → ServeEnd → (old new : DoorSide) → Type 0
HasCome accept end old new =
    end ≡ Ended → (new.ended ≡ true) ⊎ ((accept ≢ 0) × HasGiven accept old.given new.given)

-- what the serving of the connections of a door that listens does to the door: it is closed, and has
-- told why the serving ended
pub record HasServed (accept : ℕ) (end : ServeEnd) (old new : DoorSide) : Type 0 where
  pub ended : HasCome accept end old new
  pub takes : TakesLinks (Some end) old new
  pub closed : new.listening ≡ false

-- what a whole serving does to a door, unless there was no memory for it: the door was asked for the
-- port, it is closed, and it has told why the serving ended
pub record ServesPort (port accept : ℕ) (end : ServeEnd) (old new : DoorSide) : Type 0 where
  pub asked : new.asked ≡ Some port
  pub ended : HasCome accept end old new
  pub counts : CountsDoor end old new
  pub closed : new.listening ≡ false
