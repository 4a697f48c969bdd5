-- Accepted queries that are let go.
use Rattle.std.specs.Prelude.{◌≡◌, ℕ, ◌++◌, List, All, take, drop, None}
use Rattle.pipeline_manager.specs.Lives.{Lives}
use Rattle.star_values.specs.Faded.{Faded}
use Rattle.core_parts.specs.Asked.{AskedEntry, IsQueryOver}

-- a query is over, and nothing is kept beside it
pub record IsDone (lives : Lives) (entry : AskedEntry) : Type 0 where
  pub bare : entry.asked.kept ≡ None
  pub over : IsQueryOver lives entry.asked.number

-- so are all of these
abbrev pub AreDone : Lives → List AskedEntry → Type 0
AreDone lives entries = All (IsDone lives) entries

-- of the queries that stand the first ones are let go, which are done
pub record IsForgotten (lives : Lives) (old new : Faded AskedEntry) : Type 0 where
  pub count : ℕ
  pub gone : new.gone ≡ old.gone ++ take count old.rest
  pub rest : new.rest ≡ drop count old.rest
  pub done : AreDone lives (take count old.rest)
