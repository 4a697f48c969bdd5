-- What the other parts of a core have to know of the accepted queries.
use Rattle.std.specs.Prelude.{ℕ, ◌==◌, List, find, map, Option}
use Rattle.std.specs.Option.{option_map_or}
use Rattle.star_plan.specs.Test.{Query}
use Rattle.pipeline_manager.specs.declared.life.QueryLife.{QueryLife}

-- what is asked by a query of a number, and at which snapshot
pub record Known : Type 0 where
  pub number : ℕ
  pub query : Query
  pub snapshot : ℕ

-- what is asked by the query of this number
abbrev pub known_at : List Known → (number : ℕ) → Option Known
known_at known number = find (λ entry. entry.number == number) known

-- how far the query of a number goes
pub record Reach : Type 0 where
  pub number : ℕ
  pub extent : ℕ

-- how far the submitted queries go
abbrev pub reaches_in : List QueryLife → List Reach
reaches_in queries = map (λ entry. record { number = entry.query; extent = entry.extent }) queries

-- the extent of the query of this number, 0 where there is none
abbrev pub reach_at : List Reach → (number : ℕ) → ℕ
reach_at reaches number =
    option_map_or (λ reach. reach.extent) (find (λ reach. reach.number == number) reaches) 0
