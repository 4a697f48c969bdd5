-- A seat takes its replies in the order of its statements.
use Rattle.core_state.proofs.Words.{◌++◌, ◌<◌, ◌∙◌, ◌∷◌, ◌≡◌, [], after_taking, AllPairs, ap, arith, cases_lt, drop, empty_seat, get_or, get_or-set_same, get_or_past, IsSome, IsSound, length, map, next_ready, Pending, Seat, seat_at, set, slice_get, Some, State, subst, sym, take, taken_by, with_taken, ℕ, ⊎_elim}
use Rattle.core_state.proofs.FrameLemmas.{numbers_of}
use Rattle.core_state.proofs.SeatLemmas.{pending-there}
use Rattle.core_state.proofs.TakingLemmas.{ready-first}

-- the numbers that a seat took and waits for rise
pub in-order : (state : State) (seat : ℕ) → IsSound state → AllPairs (λ statement later. statement < later) (numbers_of (seat_at state seat))
in-order state seat sound = ⊎_elim
    (λ low. (sound.seats.each seat empty_seat low).in_order)
    (λ past. subst (λ (s : Seat). AllPairs (λ statement later. statement < later) (numbers_of s)) (sym (get_or_past state.seats seat empty_seat past))
    (λ i j d before low. omega arith))
    (cases_lt seat (length state.seats))

-- what a seat may take next is the reply to its first statement
pub next-first : (state : State) (seat : ℕ) → IsSound state → IsSome (next_ready state seat)
    → (first : Pending) × (slice_get (seat_at state seat).pending 0 ≡ Some first)
    × ((seat_at (after_taking seat state) seat).taken ≡ (seat_at state seat).taken ++ taken_by first ∷ [])
    × ((seat_at (after_taking seat state) seat).pending ≡ drop 1 (seat_at state seat).pending)
next-first state seat sound ready =
    let here : Seat = seat_at state seat in
    let first = ready-first state seat sound ready in
    let at : get_or (set state.seats seat (with_taken here)) seat empty_seat ≡ with_taken here =
    get_or-set_same state.seats seat (with_taken here) empty_seat (pending-there state.seats seat first.0 first.1 first.2) in (
      first.0,
      ap (λ ps. slice_get ps 0) first.2,
      ap (λ (s : Seat). s.taken) at ∙ ap (λ ps. here.taken ++ map taken_by (take 1 ps)) first.2,
      ap (λ (s : Seat). s.pending) at,
    )
