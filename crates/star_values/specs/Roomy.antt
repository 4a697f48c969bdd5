-- A list together with the room that it has.
use Rattle.std.specs.Prelude.{ℕ, List}

-- the members in their order, and how many more can be pushed without fail
pub record Roomy (T : Type 0) : Type 0 where
  pub items : List T
  pub room : ℕ
