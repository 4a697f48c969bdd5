-- What the front of a run counts: the queries that are open, and how far the scan goes for them.
use Rattle.std.specs.Prelude.{◌≡◌, ℕ, ◌+◌, ◌*◌, ◌/◌, ◌<◌, ◌≤◌, Bool, true, false, List, [], ◌∷◌, ◌++◌, All, Some, None, count_by, if◌then◌else◌}
use Rattle.core_state.specs.Sound.{empty_core}
use Rattle.core_state.specs.State.{Asked, Awaited, Replied, State}
use Rattle.core_state.specs.Submitting.{awaited_by, seat_at}
use Rattle.core_state.specs.Tables.{tables_of, versions_in}
use Rattle.script_reader.specs.declared.statement.Statement.{Statement}
use Rattle.reply_text.specs.declared.reply.Reply.{Reply}
use Rattle.star_store.specs.Outcome.{Told, outcome_of}
use Rattle.pipeline_manager.specs.Lives.{life_of}
use Rattle.pipeline_manager.specs.Conditions.{is_open}
use Rattle.pipeline_manager.specs.declared.life.Life.{Life}
use Rattle.pipeline_manager.specs.declared.life.Life.TheVariants.{Waiting, Building, Running, Ending}
use Rattle.event_core.specs.Chosen.{AreIdle}
use Rattle.core_state.specs.declared.settings.RunSettings.{RunSettings}
use Rattle.event_core.specs.CoreParts.{CoreParts}
use Rattle.event_core.specs.Seen.{state_of}
use Rattle.script_run.specs.Laps.{places_of}

-- a seat waits for a query
abbrev pub is_query : Awaited → Bool
is_query (Replied reply) = false
is_query (Asked query snapshot) = true

-- how many queries the front waits for
abbrev pub queries_awaited : State → ℕ
queries_awaited state = count_by (λ pending. is_query pending.awaited) (seat_at state 0).pending

-- the scan goes round once at most, and not at all where the front waits for no query
pub record GoesRound (old new : State) : Type 0 where
  pub settings : new.settings ≡ old.settings
  pub versions : versions_in new ≡ versions_in old
  pub none : queries_awaited old ≡ 0 → new.scan.cut ≡ old.scan.cut
  pub once : new.scan.cut ≤ old.scan.cut + versions_in old

-- where no more was cut than a lap for each full row of the replies before, no more is
-- cut with these behind them
pub record LapsOn (old new : State) (replies : List Reply) : Type 0 where
  pub settings : new.settings ≡ old.settings
  pub cut : (places : ℕ) → old.scan.cut ≤ versions_in old * (places / old.settings.slots)
      → new.scan.cut
      ≤ versions_in new * (places_of old.settings.slots places replies / old.settings.slots)

-- whether a query with this life is over, or waits
abbrev pub IsOverOrWaits : Life → Type 0
IsOverOrWaits Building = ⊥
IsOverOrWaits (Running start left) = ⊥
IsOverOrWaits Ending = ⊥
IsOverOrWaits other = Unit {0}

-- how many queries of a core are open
abbrev pub open_in : State → ℕ
open_in state = count_by (λ entry. is_open entry.life) state.lives.queries

-- a core between two statements: no batch is in a hand, and so many queries are open, each of which
-- waits for a slot and is waited for
pub record IsCalm (count : ℕ) (state : State) : Type 0 where
  pub idle : AreIdle state
  pub waits : All (λ entry. IsOverOrWaits entry.life) state.lives.queries
  pub unfinished : open_in state ≡ count
  pub awaited : queries_awaited state ≡ count

-- a front: its core, and how many queries of the core have not come to their end
pub record FrontParts : Type 0 where
  pub core : CoreParts
  pub unfinished : ℕ

-- what a front knows of its core, also where it was halted: that it has these settings, by which
-- there are slots, and so many statements, and that no batch is in a hand
pub record KnowsCore (known : RunSettings) (count : ℕ) (core : State) : Type 0 where
  pub some : 0 < known.slots
  pub settings : core.settings ≡ known
  pub submitted : core.numbers.statement ≡ count
  pub hands : AreIdle core

-- a front between two statements: it counted the queries that are open, which are no
-- more than there are slots
pub record IsCounted (front : FrontParts) : Type 0 where
  pub calm : IsCalm front.unfinished (state_of front.core)
  pub few : front.unfinished ≤ (state_of front.core).settings.slots

-- a front to which a statement may be given: fewer queries are open than there are slots
pub record HasFreeSlot (front : FrontParts) : Type 0 where
  pub counted : IsCounted front
  pub free : front.unfinished < (state_of front.core).settings.slots

-- a front whose core has these settings, and to which nothing was given
pub record IsNewFront (settings : RunSettings) (front : FrontParts) : Type 0 where
  pub empty : state_of front.core ≡ empty_core settings
  pub counted : IsCounted front
  pub none : front.unfinished ≡ 0

-- the open queries of a core may share one lap: there are some, each waits, and there is a slot for
-- each
pub record MayShareLap (core : State) : Type 0 where
  pub calm : IsCalm (open_in core) core
  pub some : 0 < open_in core
  pub few : open_in core ≤ core.settings.slots

-- all queries of a front came to their end: it waits for nothing, none is open, and the scan went
-- round once at most
pub record CameToEnd (old new : FrontParts) : Type 0 where
  pub all : (seat_at (state_of new.core) 0).pending ≡ []
  pub none : new.unfinished ≡ 0
  pub round : GoesRound (state_of old.core) (state_of new.core)

-- what the front is told of a statement that it gives to a core
abbrev pub told_of : State → Statement → Told
told_of state statement = (outcome_of (tables_of state) statement).told

-- one, if it holds
abbrev pub one_if : Bool → ℕ
one_if test = if test then 1 else 0

-- a statement was given to a core: the front waits for it too, and a query waits and is open
pub record CountsOne (statement : Statement) (old new : State) : Type 0 where
  pub settings : new.settings ≡ old.settings
  pub scan : new.scan ≡ old.scan
  pub versions : versions_in old ≤ versions_in new
  pub number : new.numbers.statement ≡ old.numbers.statement + 1
  pub pending : (seat_at new 0).pending ≡ (seat_at old 0).pending
      ++ record {
        statement = old.numbers.statement + 1;
        awaited = awaited_by (told_of old statement);
      } ∷ []
  pub unfinished : open_in new
      ≡ open_in old + one_if (is_query (awaited_by (told_of old statement)))
  pub waits : All (λ entry. IsOverOrWaits entry.life) old.lives.queries
      → All (λ entry. IsOverOrWaits entry.life) new.lives.queries
  pub life : life_of new.lives (old.numbers.statement + 1)
      ≡ (if is_query (awaited_by (told_of old statement)) then Some Waiting else None)

-- replies were taken from a core: nothing has changed but the seats and what is kept for them
pub record OnlyTakesReplies (old new : State) : Type 0 where
  pub settings : new.settings ≡ old.settings
  pub entries : new.entries ≡ old.entries
  pub lives : new.lives ≡ old.lives
  pub scan : new.scan ≡ old.scan
  pub numbers : new.numbers ≡ old.numbers
