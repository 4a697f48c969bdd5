-- A list whose front was let go.
use Rattle.std.specs.Prelude.{ℕ, List, ◌++◌}

-- the members that were let go, those behind them, and how many more can be pushed without fail
pub record Faded (T : Type 0) : Type 0 where
  pub gone : List T
  pub rest : List T
  pub room : ℕ

-- all members
abbrev pub items_of : {T : Type 0} → Faded T → List T
items_of faded = faded.gone ++ faded.rest
