-- What a read does to what a source tells.
use Rattle.std.specs.Prelude.{◌≡◌, ℕ, List, Bool, ◌||◌, ◌==◌, MatchResult, Result}
use Rattle.std.specs.Io.KnownBytes.{ReadConsumes}
use Rattle.star_io.specs.Faults.{TellsFault}
use Rattle.star_io.specs.Link.{ReadingSide}

-- a source has ended exactly where it had before, or where this read answered `Ok(0)`
abbrev pub NotesEnd : {E : Type 0} → Bool → Bool → Result ℕ E → Type 0
NotesEnd old new result = MatchResult result (λ n. new ≡ (n == 0 || old)) (λ _. new ≡ old)

-- what a read into these bytes does to what a source tells: those that it gave are no longer to
-- come, or the end or a fault came
pub record GivesBytes {E : Type 0} (old new : ReadingSide) (into : List ℕ) (result : Result ℕ E)
    : Type 0 where
  pub bytes : ReadConsumes old.left new.left result into
  pub end : NotesEnd old.ended new.ended result
  pub fault : TellsFault old.faults new.faults new.failed result
