-- The accepted queries as the code holds them.
use Rattle.std.specs.Prelude.{◌≡◌, ◌≢◌, ℕ, Bool, true, false, not, ◌==◌, ◌<◌, if◌then◌else◌, List, All, AllPairs, filter, find, map, Option, None, IsSome, IsSomeAnd}
use Rattle.star_plan.specs.declared.star_query.StarQuery.{StarQuery}
use Rattle.star_plan.specs.Test.{query_of}
use Rattle.pipeline_manager.specs.Conditions.{is_open}
use Rattle.pipeline_manager.specs.Lives.{Lives, life_of}
use Rattle.pipeline_manager.specs.declared.life.Life.{Life}
use Rattle.pipeline_manager.specs.declared.life.Life.TheVariants.{Waiting, Building}
use Rattle.aggregations.specs.Grouped.{Grouped}
use Rattle.core_parts.specs.Known.{Known}

-- an accepted query, and what is kept of its rows while nothing is attached for it at a slot
pub record AskedQuery : Type 0 where
  pub number : ℕ
  pub seat : ℕ
  pub query : StarQuery
  pub snapshot : ℕ
  pub kept : Option Grouped

-- each has a greater number than those before it
abbrev pub AreAskedRising : List AskedQuery → Type 0
AreAskedRising asked = AllPairs (λ entry later. entry.number < later.number) asked

-- the accepted query of a number
abbrev pub asked_at : List AskedQuery → (number : ℕ) → Option AskedQuery
asked_at asked number = find (λ entry. entry.number == number) asked

-- an accepted query with this kept beside, if it has this number
abbrev pub with_kept : (number : ℕ) → (kept : Option Grouped) → AskedQuery → AskedQuery
with_kept number kept asked = if asked.number == number then record asked { kept = kept } else asked

-- the accepted queries, of which that of a number has this kept beside
abbrev pub with_kept_at : (number : ℕ) → (kept : Option Grouped) → List AskedQuery → List AskedQuery
with_kept_at number kept asked = map (with_kept number kept) asked

-- what is known of the accepted queries
abbrev pub known_in : List AskedQuery → List Known
known_in asked =
    map (λ entry.
    record { number = entry.number; query = query_of entry.query; snapshot = entry.snapshot })
    asked

-- the same as it is held: while it was not handed on, it is whole
pub record AskedEntry : Type 0 where
  pub asked : AskedQuery
  pub whole : Bool

-- the queries
abbrev pub asked_in : List AskedEntry → List AskedQuery
asked_in entries = map (λ entry. entry.asked) entries

-- and the numbers of those that were handed on
abbrev pub handed_in : List AskedEntry → List ℕ
handed_in entries =
    map (λ (key : ℕ × Bool). key.0)
    (filter (λ key. not key.1) (map (λ entry. (entry.asked.number, entry.whole)) entries))

-- all accepted queries, those of them that were let go, the numbers of those that were handed on,
-- and how many more can be put behind them without fail
pub record AskedQueries : Type 0 where
  pub items : List AskedQuery
  pub gone : List AskedQuery
  pub handed : List ℕ
  pub room : ℕ

-- nothing is kept beside them
abbrev pub AreBare : List AskedQuery → Type 0
AreBare asked = All (λ entry. entry.kept ≡ None) asked

-- no query of this number is among these
abbrev pub IsNotAmong : List AskedQuery → (number : ℕ) → Type 0
IsNotAmong asked number = asked_at asked number ≡ None

-- nor among these numbers
abbrev pub IsNoneOf : List ℕ → (number : ℕ) → Type 0
IsNoneOf numbers number = All (λ other. other ≢ number) numbers

-- among accepted queries, each with a greater number than those before it, is that of this number,
-- and it was not handed on
pub record CanHandOn (number : ℕ) (asked : List AskedQuery) (handed : List ℕ) : Type 0 where
  pub rising : AreAskedRising asked
  pub there : IsSome (asked_at asked number)
  pub whole : IsNoneOf handed number

-- the query of this number was answered, spoiled or abandoned
abbrev pub IsQueryOver : Lives → (number : ℕ) → Type 0
IsQueryOver lives number = IsSomeAnd (life_of lives number) (λ life. is_open life ≡ false)

-- so were these
abbrev pub AreOver : Lives → List AskedQuery → Type 0
AreOver lives asked = All (λ entry. IsQueryOver lives entry.number) asked

-- whether a query is still to be given rows
abbrev pub is_to_start : Life → Bool
is_to_start Waiting = true
is_to_start Building = true
is_to_start other = false

-- the query of this number began to be given rows, or is over
abbrev pub HasBegun : Lives → (number : ℕ) → Type 0
HasBegun lives number = IsSomeAnd (life_of lives number) (λ life. is_to_start life ≡ false)

-- queries that were let go are over, and those that were handed on have begun
pub record AreFinished (lives : Lives) (asked : AskedQueries) : Type 0 where
  pub over : AreOver lives asked.gone
  pub begun : All (HasBegun lives) asked.handed
