-- What a look tells, by what it found.
use Rattle.std.proofs.Common.{◌≡◌, ℕ, ◌<◌, Bool, true, false, cond, length, Option, Some, None, refl, sym, ap, ◌∙◌, subst, arith, eqb, ⊎_elim}
use Rattle.std.proofs.lemmas.Bool.{false≢true}
use Rattle.std.specs.Prelude.{◌↔◌, IfSome, IsSome, IsSomeAnd, IsTrue, is_some}
use Rattle.std.proofs.lemmas.Option.{get_or_from_slice_get, slice_get_within}
use Rattle.core_state.proofs.AcceptedLemmas.{find-holds}
use Rattle.core_parts.specs.Asked.{known_in}
use Rattle.core_parts.specs.Known.{reaches_in}
use Rattle.core_parts.specs.Lent.{lent_to}
use Rattle.core_state.specs.Cutting.{after_carry, frame_words}
use Rattle.core_state.specs.Events.{IsWanting, MayCarry, after_event}
use Rattle.core_state.specs.Flown.{IsSoundBatch, IsSoundHand}
use Rattle.core_state.specs.Found.{flight_at, held_by}
use Rattle.core_state.specs.Rows.{SeatRow, row_of}
use Rattle.core_state.specs.Sound.{IsSound}
use Rattle.core_state.specs.State.{Flight, Hand, State}
use Rattle.core_state.specs.Tables.{tables_of}
use Rattle.core_state.specs.declared.event.Event.{Event}
use Rattle.core_state.specs.declared.event.Event.TheVariants.{Carry}
use Rattle.event_core.specs.Board.{CoreRow, core_row}
use Rattle.event_core.specs.Chosen.{NoneMayCome}
use Rattle.event_core.specs.Lent.{IsNotLent, IsWorkOf}
use Rattle.event_core.specs.CoreParts.{Beside, CoreParts, beside_of, loan_of}
use Rattle.event_core.specs.Seen.{state_of}
use Rattle.event_core.specs.Took.{Took}
use Rattle.event_core.specs.declared.choosing.EventKind.{EventKind}
use Rattle.event_core.specs.declared.marks.Marks.{Marks}
use Rattle.event_core.specs.declared.work.Work.{Work}
use Rattle.worker_gate.specs.Hands.{HasNothing, HasWork, Holds, IsCarriedOf}
use Rattle.worker_gate.specs.Left.{LeavesAllLoans, LeavesRows}
use Rattle.worker_gate.specs.Looks.{HasLooked, IsIdle, IsStuck, TakesWork, TellsLook}
use Rattle.worker_gate.specs.Managed.{IsFirstOf, managed_kinds}
use Rattle.worker_gate.specs.Turns.{LooksLast}
use Rattle.worker_gate.specs.declared.carried.Carried.{Carried}
use Rattle.worker_gate.specs.declared.carried.Carried.TheVariants as carried
use Rattle.worker_gate.specs.declared.looking.Look.{Look}
use Rattle.worker_gate.specs.declared.looking.Look.TheVariants as look
use Rattle.worker_gate.proofs.HandLemmas.{carried-held, holds-found}
use Rattle.worker_gate.proofs.LentLemmas.{home-empty}
use Rattle.worker_gate.proofs.ManagedLemmas.{marks-stay}
use Rattle.worker_gate.proofs.WorkLemmas.{carried-fresh}

-- A batch that is taken.

-- a batch that wants a filter may be carried
pub may-carry : (state : State) (worker batch : ℕ) → IsSound state → worker < state.settings.seats → held_by state.scan.flights worker ≡ None
    → IsSomeAnd (flight_at state.scan.flights batch) (IsWanting state.filters) → MayCarry worker batch state
may-carry state worker batch sound low empty wants = record {
  seat = (let count = sound.seats.count in omega arith);
  empty = empty;
  there = by_found (flight_at state.scan.flights batch) wants;
  idle = by_wants (flight_at state.scan.flights batch) wants;
}
  where
    by_found : (o : Option Flight) → IsSomeAnd o (IsWanting state.filters) → IsSome o
    by_found None never = absurd never
    by_found (Some flight) is = refl

    by_wants : (o : Option Flight) → IsSomeAnd o (IsWanting state.filters) → IfSome o (λ (flight : Flight). flight.hand ≡ None)
    by_wants None never = absurd never
    by_wants (Some flight) is = is.idle

-- what a Carry makes of a core
after-carried : (worker batch : ℕ) (old new : State) → Took (Carry worker batch) old new → new ≡ after_carry worker batch old
unfolding after_event
after-carried worker batch old new took = ⊎_elim (λ done. done) (λ never. absurd never) took.after

-- the batch is in the worker's hand
pub held-took : (worker batch : ℕ) (old new : State) → Took (Carry worker batch) old new → IsSome (held_by new.scan.flights worker)
held-took worker batch old new took =
    subst (λ (state : State). IsSome (held_by state.scan.flights worker)) (sym (after-carried worker batch old new took))
    (carried-held worker batch old took.enabled)

-- and nothing is lent to it
pub home-took : (worker batch : ℕ) (old new : CoreParts) → Took (Carry worker batch) (state_of old) (state_of new) → beside_of new ≡ beside_of old
    → IsNotLent worker (lent_to new.flights)
home-took worker batch old new took beside =
    subst (IsNotLent worker) (sym (ap (λ (b : Beside). b.lent) beside))
    (home-empty (known_in old.asked) (reaches_in old.lives.queries) old.flights worker took.enabled.empty)

-- what is in the hands of a sound core is sound
abbrev pub IsRight : Type 0
IsRight = (state : State) (seat : ℕ) (flight : Flight) (hand : Hand) → IsSound state → (row_of state seat).hand ≡ Some flight
    → flight.hand ≡ Some hand → IsSoundBatch (frame_words state) (tables_of state) state.lives state.accepted flight
    × IsSoundHand (length state.seats) state.lives.filters (tables_of state) flight hand

-- what is carried of the batch that is in a hand is fresh
pub has-work : IsRight → (work : Carried) (worker : ℕ) (core : CoreParts) → IsSound (state_of core)
    → Holds (IsCarriedOf work) (core_row core worker) → HasWork work (core_row core worker)
has-work right work worker core sound holds = record {
  holds = holds;
  fresh = carried-fresh work (state_of core) (loan_of core worker) holds.flight holds.hand holds.is_so
      (right (state_of core) worker holds.flight holds.hand sound holds.has holds.is_in).1;
}

-- a batch was taken, and then lent
pub takes-by : IsRight → (work : Work) (worker batch : ℕ) (old between new : CoreParts) → Took (Carry worker batch) (state_of old) (state_of between)
    → beside_of between ≡ beside_of old → state_of new ≡ state_of between → new.marks ≡ between.marks
    → IfSome (held_by (state_of between).scan.flights worker) (λ flight. IfSome flight.hand (IsWorkOf work (loan_of new worker) flight))
    → (IsTrue between.marks.waiting → work.folding ≡ None) → IsSound (state_of new) → TakesWork work worker old new
takes-by right work worker batch old between new took beside same marks is waits sound = record {
  batch = batch;
  took = subst (λ (state : State). Took (Carry worker batch) (state_of old) state) (sym same) took;
  has = has-work right (carried.Written work) worker new sound
      (holds-found (IsWorkOf work) (core_row new worker) (state_of between).scan.flights worker
      (ap (λ (state : State). held_by state.scan.flights worker) same)
      (held-took worker batch (state_of old) (state_of between) took) is);
  waits = λ waiting. waits (subst (λ (m : Marks). IsTrue m.waiting) (sym (marks-stay old between beside)) waiting);
  marks = marks ∙ marks-stay old between beside;
}

-- Nothing is taken.

-- a hand stays empty where rows and loans stay
pub empty-still : (worker : ℕ) (old new : CoreParts) → LeavesRows (state_of old) (state_of new) → LeavesAllLoans old new
    → HasNothing (core_row old worker) → HasNothing (core_row new worker)
empty-still worker old new leaves loans empty = record {
  hand = ap (λ (row : SeatRow). row.hand) (leaves.rows worker) ∙ empty.hand;
  loan = loans worker ∙ empty.loan;
}

-- where there is nothing to do, the mark tells whether a worker rests or ends
pub tells-idle : (closing : Bool) (worker : ℕ) (old new : CoreParts) → new ≡ old → IsIdle (state_of old) → closing ≡ new.marks.closing
    → TellsLook (cond {A = Look} closing look.Closed look.Rest) worker old new
tells-idle true worker old new same idle is = (same, (idle, sym (is ∙ ap (λ (parts : CoreParts). parts.marks.closing) same)))
tells-idle false worker old new same idle is = (same, (idle, sym (is ∙ ap (λ (parts : CoreParts). parts.marks.closing) same)))

pub looked-idle : (closing : Bool) (row : CoreRow) → HasNothing row → HasLooked (cond {A = Look} closing look.Closed look.Rest) row
looked-idle true row none = none
looked-idle false row none = none

-- how a worker ends where it is told to
pub last-looked : (found : Look) (worker : ℕ) (old new : CoreParts) → TellsLook found worker old new → LooksLast found (Some new)
last-looked look.Closed worker old new tells =
    subst (λ (parts : CoreParts). IsIdle (state_of parts) × (parts.marks.closing ≡ true)) (sym tells.0) tells.1
last-looked look.Memory worker old new tells = subst (λ (parts : CoreParts). IsStuck (state_of parts)) (sym tells.0) tells.1
last-looked other worker old new tells = tt

-- Whether there is more to do.

-- a batch that wants a filter is something to do
pub wants-not_idle : (state : State) (batch : ℕ) → IsSomeAnd (flight_at state.scan.flights batch) (IsWanting state.filters)
    → IsIdle state → ⊥
wants-not_idle state batch wants idle = by_found (flight_at state.scan.flights batch) refl wants
  where
    by_found : (o : Option Flight) → flight_at state.scan.flights batch ≡ o → IsSomeAnd o (IsWanting state.filters) → ⊥
    by_found None is never = never
    by_found (Some flight) is some =
        find-holds (λ one. IsWanting state.filters one → ⊥) (λ (one : Flight). eqb one.rows.number batch) state.scan.flights flight is
        idle.wants some

-- so is an event that may come
pub first-not_idle : (state : State) (of_kind : EventKind) (event : Event) → IsFirstOf managed_kinds state of_kind event
    → IsIdle state → ⊥
first-not_idle state of_kind event first idle =
    subst (λ each. NoneMayCome each state) (get_or_from_slice_get managed_kinds first.place of_kind of_kind first.stands)
    (idle.left first.place of_kind (slice_get_within managed_kinds first.place of_kind first.stands)) event first.is_of first.enabled

-- what is found is something to do, and if nothing is found, there is nothing
pub more-by : {X : Type 0} (P : X → Type 0) (state : State) (found : Option X) (test : Bool) → ((x : X) → P x → IsIdle state → ⊥)
    → IfSome found P → (found ≡ None → IsIdle state) → test ≡ is_some found → IsTrue test ↔ (IsIdle state → ⊥)
more-by P state None test busy some none is = ((λ yes. absurd (false≢true (sym is ∙ yes))), (λ more. absurd (more (none refl))))
more-by P state (Some x) test busy some none is = ((λ yes. busy x some), (λ more. is))
