-- What a worker with an empty hand is lent: nothing.
use Rattle.std.proofs.Common.{◌≡◌, ◌≢◌, ℕ, Bool, true, false, cond, eqb, List, [], ◌∷◌, Option, Some, None, option_map, refl}
use Rattle.std.proofs.lemmas.Bool.{eqb-false}
use Rattle.std.proofs.lemmas.List.Elements.{All-cons, All-nil}
use Rattle.std.specs.List.{cons_option}
use Rattle.std.specs.Option.{option_map_or}
use Rattle.core_parts.specs.Flights.{flight_as, flights_as}
use Rattle.core_parts.specs.InFlight as state
use Rattle.core_parts.specs.Known.{Known, Reach}
use Rattle.core_parts.specs.Lent.{Flight, lent_to}
use Rattle.core_state.specs.Found.{held_by}
use Rattle.event_core.specs.Lent.{IsNotLent}

-- where no batch is in the hand of a worker, none is lent to it
pub home-empty : (known : List Known) (reaches : List Reach) (flights : List Flight) (worker : ℕ)
    → held_by (flights_as known reaches flights) worker ≡ None → IsNotLent worker (lent_to flights)
home-empty known reaches [] worker none = All-nil (λ other. other ≢ worker)
home-empty known reaches (flight ∷ flights) worker none =
    by_hand flight.lent flight.hand none (home-empty known reaches flights worker)
  where
    by_test : (lent test : Bool) (hand : state.Hand) → eqb hand.worker worker ≡ test
        → cond {A = Option state.Flight} test (Some (flight_as known reaches flight)) (held_by (flights_as known reaches flights) worker) ≡ None
        → (held_by (flights_as known reaches flights) worker ≡ None → IsNotLent worker (lent_to flights))
        → IsNotLent worker (cons_option (cond {A = Option ℕ} lent (Some hand.worker) None) (lent_to flights))
    by_test lent true hand is found rest = absurd (let both : Some (flight_as known reaches flight) ≡ None = found in cc)
    by_test true false hand is found rest =
        All-cons (λ other. other ≢ worker) hand.worker (lent_to flights) (eqb-false hand.worker worker is) (rest found)
    by_test false false hand is found rest = rest found

    by_hand : (lent : Bool) (hand : Option state.Hand)
        → cond {A = Option state.Flight} (option_map_or (λ h. eqb h.worker worker) hand false) (Some (flight_as known reaches flight))
        (held_by (flights_as known reaches flights) worker) ≡ None
        → (held_by (flights_as known reaches flights) worker ≡ None → IsNotLent worker (lent_to flights))
        → IsNotLent worker (cons_option (cond {A = Option ℕ} lent (option_map (λ h. h.worker) hand) None) (lent_to flights))
    by_hand true None found rest = rest found
    by_hand false None found rest = rest found
    by_hand lent (Some hand) found rest = by_test lent (eqb hand.worker worker) hand refl found rest
