-- What an event that was taken makes of the parts of a core.
use Rattle.core_driver.proofs.Words.{◌+◌, ◌≡◌, ◌⊎◌, [], Abandon, after_spoil, Build, Distribute, Event, false, Flight, flight_at, fold, IsDriven, IsLed, IsOfAdmission, IsSome, IsStill, List, lives_by, map, None, Option, option_map_or, refl, Reserve, Some, Spoils, Start, State, Submit, subst, sym, tables_of, Took, true, without_flight, ℕ, ⊎_elim}
use Rattle.core_state.specs.Cutting.{after_distribute, fed, unkept}
use Rattle.core_state.specs.Events.{LeavesSeats, after_event, after_want}
use Rattle.core_state.proofs.WholeFrameLemmas.{Frame, Makes}
use Rattle.event_core.proofs.MadeLemmas.{frame-led, makes-taken}

-- an event of the driver leaves the seats
pub driven-leaves : (event : Event) → IsDriven event → LeavesSeats event
driven-leaves (Submit seat statement) driven = ⊎_elim (λ never. never) (λ never. never) driven
driven-leaves (Abandon query) driven = ⊎_elim (λ never. never) (λ never. never) driven
driven-leaves other driven = tt

-- what events of the driver leave
pub frame-driven : (old new : State) → IsLed IsDriven old new → Frame old new
frame-driven = frame-led IsDriven driven-leaves

-- what one makes of the lives and slots, where all find memory, and where some do not
pub taken-lives : (event : Event) (old new : State) → IsDriven event → Took event old new
    → (new.lives ≡ lives_by event old) ⊎ Spoils event old.lives new.lives
taken-lives event old new driven took = (makes-taken event old new (driven-leaves event driven) took).lives

-- one that moves no batch leaves the seats
still-seats : (event : Event) → IsStill event → LeavesSeats event
still-seats (Submit seat statement) still = still
still-seats (Abandon query) still = still
still-seats other still = tt

-- and the history with the scan
pub record LeavesBatches (old new : State) : Type 0 where
  pub entries : new.entries ≡ old.entries
  pub scan : new.scan ≡ old.scan

pub still-leaves : (event : Event) (old new : State) → IsStill event → Took event old new → LeavesBatches old new
still-leaves event old new still took =
    let makes : Makes event old new = makes-taken event old new (still-seats event still) took in
    record { entries = makes.frame.entries; scan = makes.scan still }

-- as an admission does
pub still-admission : (event : Event) → IsOfAdmission event → IsStill event
still-admission (Reserve query slot) one = tt
still-admission (Build query dimension) one = tt
still-admission (Start query) one = tt
still-admission event one = absurd one

-- the core after a batch that is found is distributed
abbrev distributed_by : (batch : ℕ) (spoiled : List ℕ) → State → Flight → State
distributed_by batch spoiled state flight = record state {
  accepted = map (unkept spoiled) (map (fed (tables_of state) state.lives flight.rows flight.roster) state.accepted);
  lives = fold (λ lives query. after_spoil query lives) state.lives spoiled;
  scan = record state.scan { flights = without_flight batch state.scan.flights; free = state.scan.free + 1 };
}

-- a distribution leaves the filters, and the other batches in flight
pub record Distributes (batch : ℕ) (old new : State) : Type 0 where
  pub entries : new.entries ≡ old.entries
  pub filters : new.filters ≡ old.filters
  pub spoiled : List ℕ
  pub lives : new.lives ≡ fold (λ now query. after_spoil query now) old.lives spoiled
  pub scan : new.scan ≡ record old.scan { flights = without_flight batch old.scan.flights; free = old.scan.free + 1 }

-- of a batch that is found
after-found : (batch : ℕ) (spoiled : List ℕ) (old new : State) → IsSome (flight_at old.scan.flights batch)
    → new ≡ after_distribute batch spoiled old → Distributes batch old new
after-found batch spoiled old new there after = subst (Distributes batch old) (sym after) (by_flight (flight_at old.scan.flights batch) there)
  where
    by_flight : (o : Option Flight) → IsSome o → Distributes batch old (option_map_or (distributed_by batch spoiled old) o old)
    by_flight None some = absurd (let both : false ≡ true = some in cc)
    by_flight (Some flight) some = record { entries = refl; filters = refl; spoiled = spoiled; lives = refl; scan = refl }

-- of one that was taken
pub distributes : (batch : ℕ) (old new : State) → Took (Distribute batch) old new → Distributes batch old new
unfolding after_event after_want
distributes batch old new took = ⊎_elim
    (λ done. after-found batch [] old new took.enabled.there done)
    (λ spoilt. after-found batch spoilt.0 old new took.enabled.there spoilt.2)
    took.after
