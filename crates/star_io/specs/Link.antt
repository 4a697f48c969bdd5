-- What the two sides of one connection tell, each as the other leaves it.
use Rattle.std.specs.Prelude.{ℕ, List, Option, Bool}

-- what a source tells: the bytes still to come, how many reads failed, whether the last one did,
-- and whether a read answered `Ok(0)`
pub record ReadingSide : Type 0 where
  pub left : Option (List ℕ)
  pub faults : ℕ
  pub failed : Bool
  pub ended : Bool

-- what a sink tells: the bytes taken, how many writes failed, and whether the last one did
pub record WritingSide : Type 0 where
  pub taken : Option (List ℕ)
  pub faults : ℕ
  pub failed : Bool
