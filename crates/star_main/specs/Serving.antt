-- What the program tells in the mode `serve`.
use Rattle.std.specs.Prelude.{◌≡◌, ◌≢◌, ℕ}
use Rattle.star_io.specs.Door.{DoorSide}
use Rattle.star_io.specs.declared.serve_end.ServeEnd.{ServeEnd}
use Rattle.star_io.specs.declared.serve_end.ServeEnd.TheVariants.{Ended, DoorFault, NoMemory}
use Rattle.session_server.specs.Server.{ServesPort}

-- the status of the serving of connections
abbrev pub serve_status_of : ServeEnd → ℕ
serve_status_of Ended = 0
serve_status_of NoMemory = 5
serve_status_of DoorFault = 7

-- The serving has an end, which the status tells. Unless there was no memory for the words or the
-- core, the door was asked for the port and is closed; at `Ended` it has ended, or as many links were
-- given out as were to be taken, if that number is not 0; and one call of it failed, the last one, if
-- that is why the serving ended, and else none did.
pub record ServeHeadline (port accept status : ℕ) (old new : DoorSide) : Type 0 where
  pub end : ServeEnd
  pub told : status ≡ serve_status_of end
  pub serves : end ≢ NoMemory → ServesPort port accept end old new
  pub unserved : end ≡ NoMemory → new ≡ old
