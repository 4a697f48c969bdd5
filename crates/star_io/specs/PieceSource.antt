-- A source in memory, as contracts see it.
use Rattle.std.specs.Prelude.{◌≡◌, ◌↔◌, ℕ, List, Bool, true, false, ◌||◌, ◌==◌, Some, length, min, drop, Contains, IfOk, IsErr, Result, Ok, Err}
use Rattle.star_io.specs.Faults.{next_count}
use Rattle.star_io.specs.Link.{ReadingSide}
use Rattle.star_io.specs.declared.failed.Failed.{Failed}

-- the bytes still to come, how many one call gives at most, the numbers of the calls that fail, the
-- number of the next call, how many calls failed, whether the last one did, and
-- whether a call answered `Ok(0)`
pub record PieceState : Type 0 where
  pub left : List ℕ
  pub piece : ℕ
  pub fails : List ℕ
  pub calls : ℕ
  pub faults : ℕ
  pub failed : Bool
  pub ended : Bool

-- what it tells
abbrev pub source_side : PieceState → ReadingSide
source_side s = record { left = Some s.left; faults = s.faults; failed = s.failed; ended = s.ended }

-- the source after a read: at `Ok(n)` it lost its first n bytes, at `Err` one more fault is counted
abbrev pub after_read : PieceState → Result ℕ Failed → PieceState
after_read s (Ok n) =
    record s {
      left = drop n s.left;
      calls = next_count s.calls;
      failed = false;
      ended = n == 0 || s.ended;
    }
after_read s (Err _) =
    record s { calls = next_count s.calls; faults = next_count s.faults; failed = true }

-- what a read into so much room does: it fails where it is listed, and else gives one piece
pub record GivesOnePiece (old new : PieceState) (room : ℕ) (result : Result ℕ Failed)
    : Type 0 where
  pub fails : IsErr result ↔ Contains old.fails old.calls
  pub count : IfOk result (λ n. n ≡ min (min old.piece room) (length old.left))
  pub state : new ≡ after_read old result
