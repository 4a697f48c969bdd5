-- What a run by several threads over a board writes, and what is known of the seats
-- of the board on the way.
use Rattle.std.specs.Prelude.{◌≡◌, ℕ, ◌+◌, ◌<◌, List, [], ◌∷◌, All, length, slice_index_or, Option, Some, None, IfSome, IsSomeAnd}
use mathlib.Core.List.{IsPrefix}
use Rattle.star_io.specs.Link.{ReadingSide, WritingSide}
use Rattle.star_io.specs.declared.run_end.RunEnd.{RunEnd}
use Rattle.core_state.specs.Rows.{made_by, sight_of}
use Rattle.core_state.specs.declared.settings.RunSettings.{RunSettings}
use Rattle.board_lock.specs.Seats.{IsOf, IsOutside, view_of}
use Rattle.board_lock.specs.Views.{fixed_in, list_in, row_in}
use Rattle.board_lock.specs.declared.seat.BoardLock.{BoardLock}
use Rattle.board_lock.specs.declared.seat.BoardSeat.{BoardSeat}
use Rattle.board_lock.specs.declared.view.Parted.{Parted}
use Rattle.board_lock.specs.declared.view.View.{View}
use Rattle.event_core.specs.Board.{core_entries, core_row, core_settings, first_row}
use Rattle.event_core.specs.CoreParts.{CoreParts}
use Rattle.event_core.specs.Seen.{state_of}
use Rattle.worker_gate.specs.Turns.{IsReady, own_row, sight_in}
use Rattle.script_run.specs.Run.{AnswersScript, CountsFaults}
use Rattle.script_run.specs.Shared.{AnswersSent, TellsSent, UnlessWanting, nothing}
use Rattle.script_run.specs.declared.board_run.Crew.{Crew}

-- a run answered a script, and the core that it hands back, if there is one, tells of the
-- statements that the run sent as its seat 0
abbrev pub AnswersBoard : Option CoreParts → (end : RunEnd) → (from from' : ReadingSide)
    → (to to' : WritingSide) → Type 0
AnswersBoard core end from from' to to' = (answers : AnswersScript end from from' to to')
    × IfSome core (λ parts.
    UnlessWanting end
    (TellsSent end from'.ended answers.wanted answers.given (sight_of (state_of parts) 0)))

-- Seats of workers.

-- a worker may take turns by this seat of the board, which has this number and made no entry
pub record IsWorker (board : BoardLock CoreParts) (number : ℕ)
    (seat : BoardSeat CoreParts) : Type 0 where
  pub ready : IsReady board None seat
  pub numbered : (view_of seat).number ≡ number
  pub made : (sight_in (view_of seat)).row.made ≡ []

-- they are the seats of workers, with the numbers from 1 on
abbrev pub AreWorkers : BoardLock CoreParts → List (BoardSeat CoreParts) → Type 0
AreWorkers board seats = (place : ℕ) (other : BoardSeat CoreParts) → place < length seats
    → IsWorker board (place + 1) (slice_index_or seats place other)

-- the seat of a worker is still that
abbrev pub StaysWorker : BoardLock CoreParts → (old new : BoardSeat CoreParts) → Type 0
StaysWorker board old new = (number : ℕ) → IsWorker board number old → IsWorker board number new

-- The first seat, which is the front's.

-- the first seat of the board, which does not have the core, made so many
-- others, and joined none of them
pub record IsLeader (board : BoardLock CoreParts) (others : ℕ)
    (seat : BoardSeat CoreParts) : Type 0 where
  pub own : IsOf board seat
  pub outside : IsOutside seat
  pub first : (view_of seat).number ≡ 0
  pub made : (view_of seat).made ≡ others + 1
  pub unjoined : (view_of seat).joined ≡ []

-- it is still that
abbrev pub StaysLeader : BoardLock CoreParts → (old new : BoardSeat CoreParts) → Type 0
StaysLeader board old new = (others : ℕ) → IsLeader board others old → IsLeader board others new

-- there is room for so many other seats: on the board, and by the settings that the first one knows
pub record HasRoomFor (board : BoardLock CoreParts) (others : ℕ)
    (first : View CoreParts) : Type 0 where
  pub room : others < board.seats
  pub seated : IsSomeAnd (fixed_in core_settings first.last) (λ settings. others < settings.seats)

-- a seat knows a core of these settings to which nothing was given, and of
-- which nothing is lent to it
pub record KnowsNew (settings : RunSettings) (view : View CoreParts) : Type 0 where
  pub settled : fixed_in core_settings view.last ≡ Some settings
  pub sight : sight_in view ≡ nothing
  pub loan : (own_row view).loan ≡ None

-- a seat knows what it knew: its row, what it has seen, and the settings
pub record KnowsSame (old new : View CoreParts) : Type 0 where
  pub number : new.number ≡ old.number
  pub last : new.last ≡ old.last
  pub seen : new.seen ≡ old.seen

-- a board over a core of these settings to which nothing was given, with as many seats at most as
-- the settings say, and its first seat
pub record IsNewBoard (settings : RunSettings) (board : BoardLock CoreParts)
    (first : BoardSeat CoreParts) : Type 0 where
  pub leader : IsLeader board 0 first
  pub knows : KnowsNew settings (view_of first)
  pub most : board.seats ≡ settings.seats

-- such a board with its first seat and one for each worker
pub record IsNewCrew (settings : RunSettings) (crew : Crew) : Type 0 where
  pub most : crew.board.seats ≡ settings.seats
  pub leader : IsLeader crew.board settings.workers crew.first
  pub knows : KnowsNew settings (view_of crew.first)
  pub are_workers : AreWorkers crew.board crew.workers.items
  pub count : length crew.workers.items ≡ settings.workers

-- the front's seat at its start: it may take a turn, and nothing was given to the core
pub record IsAtStart (board : BoardLock CoreParts) (seat : BoardSeat CoreParts) : Type 0 where
  pub ready : IsReady board None seat
  pub first : (view_of seat).number ≡ 0
  pub sight : sight_in (view_of seat) ≡ nothing

-- the front read a script and wrote the replies to it by its seat, which is still the first one,
-- and has all entries in its row that it has seen of itself
pub record HasRun (board : BoardLock CoreParts) (end : RunEnd) (old new : BoardSeat CoreParts)
    (from from' : ReadingSide) (to to' : WritingSide) :
    Type 0 where
  pub leader : StaysLeader board old new
  pub answers : AnswersSent end (sight_in (view_of new)) from from' to to'
  pub made : (sight_in (view_of new)).row.made ≡ made_by 0 (sight_in (view_of new)).seen
  pub faults : CountsFaults end from from' to to'

-- The end of a board.

-- these are seats that were joined, with the numbers from this one on, and made no entry
abbrev pub AreJoined : (from : ℕ) → List (Parted CoreParts) → Type 0
AreJoined from [] = Unit {0}
AreJoined from (parted ∷ others) =
    (parted.number ≡ from) × ((row_in core_row first_row parted.last parted.number).row.made ≡ [])
    × AreJoined (from + 1) others

-- the first seat of the board, which does not have the core, made so many others, of which
-- only the first ones, so many, are not joined; its row is as it was, and it has seen all
-- that it had, and maybe more
pub record HasJoined (board : BoardLock CoreParts) (others left : ℕ) (old : View CoreParts)
    (seat : BoardSeat CoreParts) : Type 0 where
  pub own : IsOf board seat
  pub outside : IsOutside seat
  pub first : (view_of seat).number ≡ 0
  pub made : (view_of seat).made ≡ others + 1
  pub count : left + length (view_of seat).joined ≡ others
  pub joined : AreJoined (left + 1) (view_of seat).joined
  pub last : (view_of seat).last ≡ old.last
  pub goes_on : IsPrefix (list_in core_entries old.seen) (list_in core_entries (view_of seat).seen)

-- of a core that the front's seat left: what stands in it for the front is as the seat knows it,
-- the entries begin with those that it has seen, and every entry is of the front
pub record IsLeftBy (view : View CoreParts) (core : CoreParts) : Type 0 where
  pub row : core_row core 0 ≡ own_row view
  pub goes_on : IsPrefix (sight_in view).seen (core_entries core)
  pub own : All (λ entry. entry.seat ≡ 0) (core_entries core)
