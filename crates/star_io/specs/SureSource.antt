-- A source in memory of which no read fails, as contracts see it.
use Rattle.std.specs.Prelude.{◌≡◌, ℕ, List, Bool, false, ◌||◌, ◌==◌, Some, length, min, drop, Result, Ok}
use Rattle.star_io.specs.Link.{ReadingSide}
use Rattle.star_io.specs.declared.failed.Failed.{Failed}

-- the bytes that are still to come, and whether a read found none
pub record SureState : Type 0 where
  pub left : List ℕ
  pub ended : Bool

-- what it reports: its count of faults is always 0
abbrev pub sure_side : SureState → ReadingSide
sure_side s = record { left = Some s.left; faults = 0; failed = false; ended = s.ended }

-- the source after a read that gave its first n bytes
abbrev pub after_sure_read : ℕ → SureState → SureState
after_sure_read n s = record { left = drop n s.left; ended = n == 0 || s.ended }

-- what a read into so much room does: it gives as many bytes as have room, and never fails
pub record GivesAllItCan (old new : SureState) (room : ℕ) (result : Result ℕ Failed) : Type 0 where
  pub count : result ≡ Ok (min room (length old.left))
  pub state : new ≡ after_sure_read (min room (length old.left)) old
