-- Batches that passed all filters are distributed until none is in flight.
use Rattle.core_driver.proofs.Words.{◌∙◌, ◌∷◌, ◌≡◌, [], All, All-filter, All-head, ap, Build, Clear, cond, Cut, Distribute, eq-eqb, eqb, Event, EventKind, Finish, Flight, flight_at, IfSome, is_some, IsLed, IsOfKind, IsStill, IsThrough, kind_of, List, None, NoneMayCome, not, Option, refl, Release, Reserve, ScanState, Some, Start, State, subst, sym, Took, ℕ}
use Rattle.core_state.specs.State.{Filters}
use Rattle.event_core.specs.declared.choosing.EventKind.TheVariants as kind
use Rattle.core_driver.proofs.LedLemmas.{led-holds}
use Rattle.core_driver.proofs.TakenLemmas.{Distributes, distributes, still-leaves}

-- all batches in flight are through
abbrev pub AreThrough : State → Type 0
AreThrough state = All (IsThrough state.filters) state.scan.flights

-- those that are left are through
through-distributed : (batch : ℕ) (old new : State) → Took (Distribute batch) old new → AreThrough old → AreThrough new
through-distributed batch old new took through =
    let after : Distributes batch old new = distributes batch old new took in
    subst (λ (filters : Filters). All (IsThrough filters) new.scan.flights) (sym after.filters)
    (subst (λ (scan : ScanState). All (IsThrough old.filters) scan.flights) (sym after.scan)
    (All-filter (λ (flight : Flight). not (eqb flight.rows.number batch)) (IsThrough old.filters) old.scan.flights through))

-- the kind of a distribution
abbrev IsDistributeKind : EventKind → Type 0
IsDistributeKind kind.Distribute = Unit {0}
IsDistributeKind other = ⊥

-- each distribution leaves the others through
through-kind : (event : Event) (old new : State) → IsDistributeKind (kind_of event) → Took event old new → AreThrough old → AreThrough new
through-kind (Distribute batch) old new is took through = through-distributed batch old new took through
through-kind other old new is took through = absurd is

through-one : (event : Event) (old new : State) → IsOfKind kind.Distribute event → Took event old new → AreThrough old → AreThrough new
through-one event old new is = through-kind event old new (subst IsDistributeKind (sym is) tt)

-- distributions leave the others through
pub through-led : (old new : State) → IsLed (IsOfKind kind.Distribute) old new → AreThrough old → AreThrough new
through-led old new = led-holds (IsOfKind kind.Distribute) AreThrough through-one old new

-- where none may be distributed, none that is through is in flight
pub none-in-flight : (state : State) → AreThrough state → NoneMayCome kind.Distribute state → state.scan.flights ≡ []
none-in-flight state through none = by_list state.scan.flights refl through
  where
    by_list : (flights : List Flight) → state.scan.flights ≡ flights → All (IsThrough state.filters) flights → state.scan.flights ≡ []
    by_list [] is all = is
    by_list (flight ∷ flights) is all =
        let found : flight_at state.scan.flights flight.rows.number ≡ Some flight =
        ap (λ list. flight_at list flight.rows.number) is
        ∙ ap (λ t. cond {A = Option Flight} t (Some flight) (flight_at flights flight.rows.number)) (eq-eqb flight.rows.number flight.rows.number refl) in
        absurd (none (Distribute flight.rows.number) refl (record {
          there = ap is_some found;
          through = subst (λ o. IfSome o (IsThrough state.filters)) (sym found) (All-head (IsThrough state.filters) flight flights all);
        }))

-- all batches that are through land
pub landed-led : (old new : State) → AreThrough old → IsLed (IsOfKind kind.Distribute) old new → NoneMayCome kind.Distribute new
    → new.scan.flights ≡ []
landed-led old new through led none = none-in-flight new (through-led old new led through) none

-- they stay so through events that move no batch
pub landed-stays : (event : Event) (old new : State) → IsStill event → Took event old new → old.scan.flights ≡ [] → new.scan.flights ≡ []
landed-stays event old new still took landed = ap (λ (scan : ScanState). scan.flights) (still-leaves event old new still took).scan ∙ landed
