-- What a write does to what a sink tells.
use Rattle.std.specs.Prelude.{ℕ, List, Result}
use Rattle.std.specs.Io.KnownBytes.{WriteAppends}
use Rattle.star_io.specs.Faults.{TellsFault}
use Rattle.star_io.specs.Link.{WritingSide}

-- what a write from this text does to what a sink tells: the bytes that it took are behind those
-- before, or a fault came
pub record TakesBytes {E : Type 0} (old new : WritingSide) (text : List ℕ) (result : Result ℕ E)
    : Type 0 where
  pub bytes : WriteAppends old.taken new.taken result text
  pub fault : TellsFault old.faults new.faults new.failed result
