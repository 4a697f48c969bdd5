-- How the lives of queries are kept that were let go, and of those behind them.
use Rattle.std.specs.Prelude.{◌≡◌, ℕ, ◌*◌, ◌/◌, ◌%◌, ◌<◌, ◌≤◌, ◌==◌, nat_lt, min, Bool, true, false, if◌then◌else◌, List, Option, Some, None, length, take, slice_index, All, IsTrue}
use Rattle.std.specs.Option.{option_map_or}
use Rattle.std.specs.Int.{bit_at}
use Rattle.pipeline_manager.specs.declared.life.Life.{Life}
use Rattle.pipeline_manager.specs.declared.life.Life.TheVariants.{Answered, Spoiled, Abandoned}
use Rattle.pipeline_manager.specs.declared.life.SlotState.{SlotState}
use Rattle.pipeline_manager.specs.declared.life.QueryLife.{QueryLife}
use Rattle.pipeline_manager.specs.Lives.{life_in}
use Rattle.pipeline_manager.specs.Conditions.{is_open}
use Rattle.pipeline_manager.specs.Changes.{cut_query}
use Rattle.pipeline_manager.specs.Sound.{slots_held}
use Rattle.pipeline_manager.specs.Inside.{ArePassed}

-- whether a number is in the set that these words hold, of 64 numbers each
abbrev pub is_in : (words : List ℕ) → (number : ℕ) → Bool
is_in words number = bit_at (slice_index words (number / 64)) (number % 64) == 1

-- whether a life that is over has the first of its two bits set
abbrev pub is_first : Life → Bool
is_first Answered = true
is_first Spoiled = true
is_first other = false

-- and the second
abbrev pub is_second : Life → Bool
is_second Abandoned = true
is_second Spoiled = true
is_second other = false

-- the life that two bits tell, none where neither is set
abbrev pub life_by : (first second : Bool) → Option Life
life_by false false = None
life_by false true = Some Abandoned
life_by true false = Some Answered
life_by true true = Some Spoiled

-- two sets tell the lives of these queries, and that no other number has one
abbrev pub AreTold : List QueryLife → (first second : List ℕ) → Type 0
AreTold queries first second =
    (query : ℕ) → life_in queries query ≡ life_by (is_in first query) (is_in second query)

-- the numbers below this have their two bits
abbrev pub room_in : (first second : List ℕ) → ℕ
room_in first second = min (64 * length first) (64 * length second)

-- the queries that were let go, and below which number there is room for the lives of more
pub record LetGo : Type 0 where
  pub queries : List QueryLife
  pub room : ℕ

-- the life of a query is over
abbrev pub IsClosed : QueryLife → Type 0
IsClosed entry = is_open entry.life ≡ false

-- a query may still be answered
abbrev pub IsOpenIn : List QueryLife → (query : ℕ) → Type 0
IsOpenIn queries query = IsTrue (option_map_or is_open (life_in queries query) false)

-- the lives of the first queries are over, of which there are so many
pub record AreClosed (count : ℕ) (queries : List QueryLife) : Type 0 where
  pub in_range : count ≤ length queries
  pub over : All IsClosed (take count queries)

-- the lives of the queries that were let go are over. Of those behind them so many at the front do
-- not wait, the lives of so many are over, and there is room for the lives of all
pub record AreLetGo (gone : LetGo) (rest : List QueryLife) (passed closed : ℕ) : Type 0 where
  pub over : All IsClosed gone.queries
  pub room : All (λ entry. entry.query < gone.room) rest
  pub not_waiting : ArePassed passed rest
  pub ready : AreClosed closed rest

-- the query, cut if it holds one of these slots
abbrev pub cut_held : (first last : ℕ) → List SlotState → QueryLife → QueryLife
cut_held first last slots entry =
    if nat_lt 0 (slots_held entry.query slots) then cut_query first last entry else entry
