-- A scan where queries have no answer any more, and where a batch is distributed.
use Rattle.core_state.proofs.Words.{◌+◌, ◌∙◌, ◌∷◌, ◌≡◌, [], Accepted, accepted_at, after_abandoning, after_distribute, after_spoil, ap, CanAbandon, entry_of, eqb, fed, filter, Flight, flight_at, fold, forgotten, get_or, holder_of, is_open, is_some, IsScannedAs, IsSome, IsSound, Life, life_at, life_of, List, Lives, map, None, not, Option, option_map, option_map_or, query_in, refl, Running, RunsAs, Scanning, slot_at, slot_of, Some, start_at, start_in, State, subst, sym, tables_of, unkept, with_seat, without_pending, ℕ}
use Rattle.pipeline_manager.specs.declared.life.Life.TheVariants as life
use Rattle.continuous_scan.specs.Range.{after_stop}
use Rattle.core_state.specs.Scanned.{stopped_for}
use Rattle.core_state.proofs.AcceptedLemmas.{accepted-lives}
use Rattle.core_state.proofs.AnewLemmas.{KeepsAsked, by-change, found-anew}
use Rattle.core_state.proofs.FoundLemmas.{life-entry, some-of, some-passes}
use Rattle.core_state.proofs.LandedLemmas.{feeds}
use Rattle.core_state.proofs.ScannedCutLemmas.{RunsBy}
use Rattle.core_state.proofs.ScannedLifeLemmas.{HoldsOnce, holds-once, lives_with, start-written, state_with}
use Rattle.core_state.proofs.ScannedRunLemmas.{found_by, runs-none}
use Rattle.core_state.proofs.ScannedSlotLemmas.{run_in}
use Rattle.core_state.proofs.ViewLemmas.{Views, scanned-set, scanned-stays, scanned-views}
use Rattle.core_state.proofs.ViewEventLemmas.{OthersStay, others-without, others-written, views-written}
use Rattle.core_state.proofs.WholeFrameLemmas.{unkeeps}

-- a life with which a query does not run leaves nothing in its slot
scanned-over : (state later : State) (scan : Scanning) (query : ℕ) (new : Life) → later.scan.position ≡ state.scan.position
    → later.lives ≡ lives_with query new state.lives → OthersStay state later query → HoldsOnce state.lives → start_in new ≡ None
    → IsScannedAs state scan → IsScannedAs later (stopped_for state.lives query scan)
scanned-over state later scan query new position lives others once rests same = by_slot (slot_of state.lives query) refl
    (views-written state later query position (ap (λ (l : Lives). l.slots) lives) others once)
  where
    by_slot : (o : Option ℕ) → slot_of state.lives query ≡ o → Views state later o
        → IsScannedAs later (option_map_or (λ slot. after_stop slot scan) o scan)
    by_slot None place views = scanned-views state later scan views same
    by_slot (Some slot) place views = scanned-set state later scan slot None views
        ((runs-none later slot None (ap (λ (l : Lives). start_at l slot) lives ∙ start-written state.lives query slot new place rests)).1 refl) same

scanned-stopped : (state : State) (scan : Scanning) (query : ℕ) (new : Life) → HoldsOnce state.lives → start_in new ≡ None
    → IsScannedAs state scan → IsScannedAs (state_with query new state) (stopped_for state.lives query scan)
scanned-stopped state scan query new = scanned-over state (state_with query new state) scan query new refl refl (others-written state query new)

-- the same by the slot that it holds, or holds none
pub scanned-at : (state : State) (scan : Scanning) (query : ℕ) (place : Option ℕ) (new : Life) → IsSound state → IsScannedAs state scan
    → slot_of state.lives query ≡ place → start_in new ≡ None
    → IsScannedAs (state_with query new state) (option_map_or (λ slot. after_stop slot scan) place scan)
scanned-at state scan query place new sound same is rests =
    subst (λ o. IsScannedAs (state_with query new state) (option_map_or (λ slot. after_stop slot scan) o scan)) is
    (scanned-stopped state scan query new (holds-once state sound) rests same)

-- who has a life was accepted
pub life-accepted : (state : State) (query : ℕ) → IsSound state → IsSome (query_in state.lives.queries query) → IsSome (accepted_at state.accepted query)
life-accepted state query sound there = accepted-lives state query sound.queries ∙ there

pub open-accepted : (state : State) (query : ℕ) → IsSound state → CanAbandon query state.lives
    → (accepted : Accepted) × (accepted_at state.accepted query ≡ Some accepted)
open-accepted state query sound can =
    let now = some-passes is_open (life_of state.lives query) can in
    let entry = life-entry state.lives.queries query now.0 now.1 in
    some-of (accepted_at state.accepted query) (life-accepted state query sound (ap is_some entry.1))

-- a query that is abandoned, which was accepted as this one
abbrev pub without_answer : (query : ℕ) → Accepted → State → State
without_answer query accepted state = with_seat accepted.seat (without_pending query) (record state {
  accepted = map (forgotten query) state.accepted;
  lives = lives_with query life.Abandoned state.lives;
})

-- it stops
pub scanned-abandon : (state : State) (scan : Scanning) (query : ℕ) → IsSound state → CanAbandon query state.lives → IsScannedAs state scan
    → IsScannedAs (after_abandoning query state) (stopped_for state.lives query scan)
scanned-abandon state scan query sound can same =
    let asked = open-accepted state query sound can in
    subst (λ o. IsScannedAs (option_map_or (λ accepted. without_answer query accepted state) o state) (stopped_for state.lives query scan)) (sym asked.1)
    (scanned-over state (without_answer query asked.0 state) scan query life.Abandoned refl refl
    (others-without state query life.Abandoned) (holds-once state sound) refl same)

-- queries that find no memory stop one after the other
scanned-spoiled : (spoiled : List ℕ) (state : State) (scan : Scanning) → HoldsOnce state.lives → IsScannedAs state scan
    → IsScannedAs (record state { lives = fold (λ lives query. after_spoil query lives) state.lives spoiled })
    (fold (λ now query. stopped_for state.lives query now) scan spoiled)
scanned-spoiled [] state scan once same = record { position = same.position; count = same.count; slots = same.slots }
scanned-spoiled (query ∷ spoiled) state scan once same =
    scanned-spoiled spoiled (state_with query life.Spoiled state) (stopped_for state.lives query scan) once
    (scanned-stopped state scan query life.Spoiled once refl same)

-- what is kept of accepted queries changes, and nothing else
pub found-kept : (change : Accepted → Accepted) → KeepsAsked change → (accepted : List Accepted) (lives : Lives) (slot : ℕ) (holder : Option ℕ)
    → found_by (map change accepted) lives slot holder ≡ found_by accepted lives slot holder
found-kept change keeps accepted lives slot None = refl
found-kept change keeps accepted lives slot (Some query) =
    ap (option_map (entry_of lives slot)) (found-anew change keeps query accepted) ∙ by_accepted (accepted_at accepted query)
  where
    by_accepted : (o : Option Accepted) → option_map (entry_of lives slot) (option_map change o) ≡ option_map (entry_of lives slot) o
    by_accepted None = refl
    by_accepted (Some a) =
        by-change (λ b. Some (entry_of lives slot b) ≡ Some (entry_of lives slot a)) change keeps a (λ groups. refl)

-- then the scan has in a slot what runs there
pub asked-stays : (lives : Lives) (accepted others : List Accepted) (slot : ℕ) (running : List (Option Running))
    → found_by others lives slot (holder_of (slot_at lives slot)) ≡ found_by accepted lives slot (holder_of (slot_at lives slot))
    → RunsBy accepted lives slot (holder_of (slot_at lives slot)) (get_or running slot None)
    → RunsBy others lives slot (holder_of (slot_at lives slot)) (get_or running slot None)
asked-stays lives accepted others slot running is = subst
    (λ found. RunsAs (life_at lives slot) (run_in (life_at lives slot) found) (get_or running slot None)) (sym is)

-- a batch that is distributed, where these queries find no memory
pub scanned-distribute : (state : State) (scan : Scanning) (batch : ℕ) (spoiled : List ℕ) → IsSound state → IsSome (flight_at state.scan.flights batch)
    → IsScannedAs state scan
    → IsScannedAs (after_distribute batch spoiled state) (fold (λ now query. stopped_for state.lives query now) scan spoiled)
scanned-distribute state scan batch spoiled sound there same =
    let flight = some-of (flight_at state.scan.flights batch) there in
    subst (λ o. IsScannedAs (option_map_or landed o state) later) (sym flight.1)
    (scanned-stays (record state { lives = over }) (landed flight.0) later refl refl
    (λ at low. asked-stays over state.accepted (landed flight.0).accepted at later.running
    (found-kept (unkept spoiled) (unkeeps spoiled) (map (feeding flight.0) state.accepted) over at (holder_of (slot_at over at))
    ∙ found-kept (feeding flight.0) (feeds state flight.0) state.accepted over at (holder_of (slot_at over at))))
    (scanned-spoiled spoiled state scan (holds-once state sound) same))
  where
    feeding : Flight → Accepted → Accepted
    feeding flight = fed (tables_of state) state.lives flight.rows flight.roster

    over : Lives
    over = fold (λ lives query. after_spoil query lives) state.lives spoiled

    landed : Flight → State
    landed flight = record state {
      accepted = map (unkept spoiled) (map (feeding flight) state.accepted);
      lives = over;
      scan = record state.scan {
        flights = filter (λ other. not (eqb other.rows.number batch)) state.scan.flights;
        free = state.scan.free + 1;
      };
    }

    later : Scanning
    later = fold (λ now query. stopped_for state.lives query now) scan spoiled
