-- The parts after a statement are those of a core.
use Rattle.event_core.proofs.Words.{◌*◌, ◌++◌, ◌+◌, ◌<◌, ◌∙◌, ◌∷◌, ◌≡◌, [], Accepted, after_outcome, after_step, after_submitting, All, ap, AreTablesOf, arith, attached_for, attached_to, Becomes, CoreParts, Done, Event, frames_of, IsCore, IsEnabled, IsNew, IsScannedAs, IsSome, IsSound, known_in, LeavesAttached, LeavesScan, length, length-map, List, map, MayStep, None, of-numbers, Outcome, outcome_of, QueryLife, refl, Reply, RunSettings, Scanning, Seat, seat_as, State, state_of, Statement, statements_at, Step, Submit, submitted, subst, sym, tables_of, Waits, ℕ}
use Rattle.star_store.specs.Outcome as outcome
use Rattle.core_state.specs.Events.{after_event}
use Rattle.event_core.proofs.SubmittedSeatLemmas.{seats-one, statement_of}

-- what the laws of the core say of steps and events
pub record Laws : Type 0 where
  pub step : (step : Step) (state : State) → MayStep state step → IsSound state → IsSound (after_step step state)
  pub scan : (state : State) (scan : Scanning) (event : Event) → IsSound state → IsEnabled state event → LeavesScan event
      → IsScannedAs state scan → IsScannedAs (after_event event state) scan
  pub attached : (state : State) (event : Event) → IsSound state → IsEnabled state event → LeavesAttached event
      → attached_to (after_event event state) ≡ attached_to state

-- what a statement leaves as it was
pub record Stays (old new : CoreParts) : Type 0 where
  pub scan : new.scan ≡ old.scan
  pub attached : new.attached ≡ old.attached
  pub settings : new.settings ≡ old.settings
  pub made : new.pool.made ≡ old.pool.made
  pub words : new.pool.words ≡ old.pool.words

-- what a statement has to keep of a core
pub record Keeps (new : CoreParts) : Type 0 where
  pub tables : AreTablesOf (state_of new) new.tables
  pub beside : All (λ asked. IsSome (attached_for new.lives new.attached asked.number) → asked.kept ≡ None) new.asked

-- the parts whose state is that after a statement
pub becomes-after : Laws → (old new : CoreParts) (seat : ℕ) (statement : Statement) → IsCore old → seat < length old.seats
    → state_of new ≡ after_submitting seat statement (state_of old) → Stays old new → Keeps new
    → Becomes new (after_submitting seat statement (state_of old))
unfolding after_event
becomes-after laws old new seat statement core there same stays keeps = record {
  state = same;
  core = record {
    sound = subst IsSound (sym same) (laws.step (Done (Submit seat statement)) (state_of old) may core.sound);
    tables = keeps.tables;
    scanned = subst (IsScannedAs (state_of new)) (sym stays.scan)
        (subst (λ state. IsScannedAs state old.scan) (sym same)
        (laws.scan (state_of old) old.scan (Submit seat statement) core.sound may tt core.scanned));
    attached = stays.attached ∙ core.attached
        ∙ sym (ap attached_to same ∙ laws.attached (state_of old) (Submit seat statement) core.sound may tt);
    beside = keeps.beside;
    frames = stays.made ∙ core.frames ∙ sym (ap frames_of stays.settings);
    words = stays.words ∙ core.words ∙ sym (ap (λ (settings : RunSettings). 16 + settings.batch * 16) stays.settings);
  };
}
  where
    may : seat < length (map (seat_as (known_in old.asked)) old.seats)
    may = let many = length-map old.seats (seat_as (known_in old.asked)) in omega arith

-- the next number is greater than those of all queries
pub new-number : (parts : CoreParts) → IsSound (state_of parts) → IsNew (parts.numbers.statement + 1) parts.lives
new-number parts sound = of-numbers (λ number. number < parts.numbers.statement + 1) (λ (a : Accepted). a.number)
    (λ (entry : QueryLife). entry.query) (state_of parts).accepted parts.lives.queries sound.queries.same
    (λ k d low. let query = sound.queries.each k d low in let given = query.number in omega arith)

-- a statement that is told a reply
pub becomes-replied : Laws → (parts : CoreParts) (seat : ℕ) (statement : Statement) (reply : Reply) → IsCore parts → seat < length parts.seats
    → outcome_of (tables_of (state_of parts)) statement ≡ outcome.only_tells (outcome.Replied reply)
    → Becomes (submitted seat (parts.numbers.statement + 1)
    (statements_at parts.seats seat ++ statement_of (parts.numbers.statement + 1) (Waits reply) ∷ []) parts)
    (after_submitting seat statement (state_of parts))
becomes-replied laws parts seat statement reply core there tells =
    becomes-after laws parts new seat statement core there
    (ap (λ (seats : List Seat). record (state_of parts) { seats = seats; numbers = record parts.numbers { statement = number } })
    (seats-one (known_in parts.asked) (known_in parts.asked) parts.seats seat number (Waits reply) (outcome.Replied reply) there refl refl refl)
    ∙ sym (ap (λ (found : Outcome). after_outcome seat found (state_of parts)) tells))
    (record { scan = refl; attached = refl; settings = refl; made = refl; words = refl })
    (record {
      tables = record { same = core.tables.same; keyed = core.tables.keyed };
      beside = core.beside;
    })
  where
    number : ℕ
    number = parts.numbers.statement + 1

    new : CoreParts
    new = submitted seat number (statements_at parts.seats seat ++ statement_of number (Waits reply) ∷ []) parts
