-- What becomes of the lives and slots at each call.
use Rattle.std.specs.Prelude.{ℕ, ◌+◌, ◌-◌, ◌^◌, Bool, true, false, ◌==◌, nat_lt, if◌then◌else◌, List, [], ◌∷◌, ◌++◌, map, slice_set}
use Rattle.std.specs.Option.{option_map_or}
use Rattle.bit_words.specs.Sets.{with_number, without}
use Rattle.pipeline_manager.specs.declared.life.Life.{Life}
use Rattle.pipeline_manager.specs.declared.life.Life.TheVariants.{Waiting, Building, Running, Ending, Answered, Spoiled, Abandoned}
use Rattle.pipeline_manager.specs.declared.life.SlotState.{SlotState}
use Rattle.pipeline_manager.specs.declared.life.SlotState.TheVariants.{Free, Held, Clearing}
use Rattle.pipeline_manager.specs.declared.life.QueryLife.{QueryLife}
use Rattle.pipeline_manager.specs.Lives.{Lives, life_in, extent_in, oldest_waiting, slot_at, slot_of}

-- a query with another life, if it has this number
abbrev pub renewed : (query : ℕ) → Life → QueryLife → QueryLife
renewed query life entry = if entry.query == query then record entry { life = life } else entry

-- the queries, of which the one with this number has another life
abbrev pub with_life : (query : ℕ) → Life → List QueryLife → List QueryLife
with_life query life queries = map (renewed query life) queries

-- the lives and slots, of which this slot has another state
abbrev pub with_slot : (slot : ℕ) → SlotState → Lives → Lives
with_slot slot state lives = record lives { slots = slice_set lives.slots slot state }

-- `submit`: the query is behind all others, and is Waiting
abbrev pub after_submit : (query extent : ℕ) → Lives → Lives
after_submit query extent lives =
    record lives {
      queries = lives.queries ++ record { query = query; extent = extent; life = Waiting } ∷ [];
    }

-- `reserve`: the oldest Waiting query is Building, and holds the slot with nothing built
abbrev pub after_reserve : (slot : ℕ) → Lives → Lives
after_reserve slot lives = option_map_or
    (λ query. record lives {
      queries = with_life query Building lives.queries;
      slots = slice_set lives.slots slot (Held query 0);
    }) (oldest_waiting lives) lives

-- a slot with one dimension more that is built, if a query holds it
abbrev pub with_dimension : (dimension : ℕ) → SlotState → SlotState
with_dimension dimension Free = Free
with_dimension dimension (Held query built) = Held query (with_number built dimension)
with_dimension dimension (Clearing left) = Clearing left

-- `built`: the dimension's bit is set in the slot of the query
abbrev pub after_built : (query dimension : ℕ) → Lives → Lives
after_built query dimension lives = option_map_or
    (λ slot. with_slot slot (with_dimension dimension (slot_at lives slot)) lives)
    (slot_of lives query) lives

-- the life of a query that is to be given rows from `start` on
abbrev pub started : (start extent : ℕ) → Life
started start extent = if extent == 0 then Ending else Running start extent

-- `run`: the query is Running with its extent left, and Ending where that is 0
abbrev pub after_run : (query start : ℕ) → Lives → Lives
after_run query start lives =
    record lives {
      queries = with_life query (started start (extent_in lives.queries query)) lives.queries;
    }

-- how many of the positions from `first` to `last`, both included, are below an extent
abbrev pub covered : (first last extent : ℕ) → ℕ
covered first last extent = (if nat_lt last extent then last + 1 else extent) - first

-- the life of a query for which so many positions more were scanned
abbrev pub cut_life : (positions : ℕ) → Life → Life
cut_life positions Waiting = Waiting
cut_life positions Building = Building
cut_life positions (Running start left) = started start (left - positions)
cut_life positions Ending = Ending
cut_life positions Answered = Answered
cut_life positions Spoiled = Spoiled
cut_life positions Abandoned = Abandoned

-- a query for which the positions from `first` to `last` were scanned
abbrev pub cut_query : (first last : ℕ) → QueryLife → QueryLife
cut_query first last entry =
    record entry { life = cut_life (covered first last entry.extent) entry.life }

-- `cut`: what is left of each Running query falls, and with nothing left it is Ending
abbrev pub after_cut : (first last : ℕ) → Lives → Lives
after_cut first last lives = record lives { queries = map (cut_query first last) lives.queries }

-- whether a query is to be answered
abbrev pub is_ending : Life → Bool
is_ending Ending = true
is_ending other = false

-- the queries, of which this one is Answered if it was Ending
abbrev pub with_answer : (query : ℕ) → List QueryLife → List QueryLife
with_answer query queries =
    if option_map_or is_ending (life_in queries query) false then with_life query Answered queries
    else queries

-- what becomes of the lives where a slot in this state is given up
abbrev pub given_up : (slot : ℕ) → SlotState → Lives → Lives
given_up slot Free lives = lives
given_up slot (Held query built) lives = record lives {
  queries = with_answer query lives.queries;
  slots = slice_set lives.slots slot (Clearing built);
}
given_up slot (Clearing left) lives = lives

-- `end`: the slot's holder is Answered if it was Ending, and what was built is to be cleared
abbrev pub after_end : (slot : ℕ) → Lives → Lives
after_end slot lives = given_up slot (slot_at lives slot) lives

-- a slot with one dimension less to be cleared
abbrev pub without_dimension : (dimension : ℕ) → SlotState → SlotState
without_dimension dimension Free = Free
without_dimension dimension (Held query built) = Held query built
without_dimension dimension (Clearing left) = Clearing (without left (2 ^ dimension))

-- `cleared`: the dimension's bit is no longer set in the slot
abbrev pub after_cleared : (slot dimension : ℕ) → Lives → Lives
after_cleared slot dimension lives =
    with_slot slot (without_dimension dimension (slot_at lives slot)) lives

-- `free`: nothing uses the slot
abbrev pub after_free : (slot : ℕ) → Lives → Lives
after_free slot lives = with_slot slot Free lives

-- `spoil`: the query has no answer
abbrev pub after_spoil : (query : ℕ) → Lives → Lives
after_spoil query lives = record lives { queries = with_life query Spoiled lives.queries }

-- `abandon`: nobody wants the query's answer; its slot stays Held
abbrev pub after_abandon : (query : ℕ) → Lives → Lives
after_abandon query lives = record lives { queries = with_life query Abandoned lives.queries }
