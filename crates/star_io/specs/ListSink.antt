-- A sink in memory, as contracts see it.
use Rattle.std.specs.Prelude.{◌≡◌, ◌⊎◌, ◌<◌, ℕ, List, ◌++◌, length, min, take, Bool, true, false, Some, Contains, IfOk, IsErr, OnErr, Result, Ok, Err}
use Rattle.star_io.specs.Faults.{next_count}
use Rattle.star_io.specs.Link.{WritingSide}
use Rattle.star_io.specs.declared.failed.Failed.{Failed}

-- the bytes taken so far, how many one call takes at most, the numbers of the calls that fail, the
-- number of the next call, how many calls failed, whether the last one did, and how many more bytes
-- there is memory for
pub record ListState : Type 0 where
  pub taken : List ℕ
  pub piece : ℕ
  pub fails : List ℕ
  pub calls : ℕ
  pub faults : ℕ
  pub failed : Bool
  pub room : ℕ

-- what it tells
abbrev pub sink_side : ListState → WritingSide
sink_side s = record { taken = Some s.taken; faults = s.faults; failed = s.failed }

-- the sink after a write of `bytes`, with this room: at `Ok(n)` it took the first n, at `Err`
-- one more fault is counted
abbrev pub after_write : ListState → Result ℕ Failed → List ℕ → ℕ → ListState
after_write s (Ok n) bytes room =
    record s {
      taken = s.taken ++ take n bytes;
      calls = next_count s.calls;
      failed = false;
      room = room;
    }
after_write s (Err _) bytes room =
    record s {
      calls = next_count s.calls;
      faults = next_count s.faults;
      failed = true;
      room = room;
    }

-- what a write from these bytes does: it fails where it is listed, and else takes one piece or
-- finds no memory for it
pub record TakesOnePiece (old new : ListState) (bytes : List ℕ) (result : Result ℕ Failed)
    : Type 0 where
  pub listed : Contains old.fails old.calls → IsErr result
  pub cause : OnErr result (Contains old.fails old.calls
      ⊎ (old.room < min old.piece (length bytes)))
  pub count : IfOk result (λ n. n ≡ min old.piece (length bytes))
  pub state : new ≡ after_write old result bytes new.room
