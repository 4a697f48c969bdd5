-- A seat among the seats: what is read there, and what is written over it.
use Rattle.event_core.proofs.Words.{◌<◌, ◌∙◌, ◌≡◌, [], ap, arith, CoreParts, get_or, get_or-set_same, Known, known_in, length, length-set, List, map, map-set, refill, refill-all, Roomy, seat_as, set, state_of, statements_at, Submitted, subst, sym, with_taken, ℕ}
use Rattle.std.proofs.Math.ListN as lists
use Rattle.std.proofs.lemmas.List.{get_or_default}

-- the statements of seats that have room for more
abbrev pub statements_in : List (Roomy Submitted) → List (List Submitted)
statements_in seats = map (λ (seat : Roomy Submitted). seat.items) seats

-- the statements of the seat at a place
at-place : (seats : List (Roomy Submitted)) (seat : ℕ) → statements_at (statements_in seats) seat ≡ (get_or seats seat (record { items = []; room = 0 })).items
at-place seats seat = lists.get_or-map (λ (s : Roomy Submitted). s.items) seats seat (record { items = []; room = 0 })

-- the seat that was read is that of the place
pub seat-read : (seats members : List (Roomy Submitted)) (seat : ℕ) (got : Roomy Submitted) → members ≡ seats → seat < length seats
    → got ≡ get_or members seat got → got.items ≡ statements_at (statements_in seats) seat
seat-read seats members seat got same there is =
    ap (λ (s : Roomy Submitted). s.items)
    (is ∙ ap (λ list. get_or list seat got) same ∙ get_or_default seats seat got (record { items = []; room = 0 }) there)
    ∙ sym (at-place seats seat)

-- a seat of the state is one of the seats
pub seat-there : (parts now : CoreParts) (seats : List (Roomy Submitted)) (seat : ℕ) → parts ≡ now → parts.seats ≡ statements_in seats
    → seat < length (state_of now).seats → seat < length seats
seat-there parts now seats seat same are low =
    let inside : seat < length (state_of parts).seats = subst (λ seen. seat < length (state_of seen).seats) (sym same) low in
    let many : length (state_of parts).seats ≡ length seats =
    lists.length-map parts.seats (seat_as (known_in parts.asked)) ∙ ap length are
    ∙ lists.length-map seats (λ (s : Roomy Submitted). s.items) in
    omega arith

-- seats of which one was lent to be written
seats-lent : (seats members : List (Roomy Submitted)) (seat : ℕ) (written : Roomy Submitted) → members ≡ seats
    → refill (length seats) seats (set members seat written) ≡ set seats seat written
seats-lent seats members seat written same =
    ap (λ list. refill (length seats) seats (set list seat written)) same
    ∙ refill-all seats (set seats seat written) (length-set seats seat written)

-- have these statements there
lent-there : (seats members : List (Roomy Submitted)) (seat : ℕ) (written : Roomy Submitted) → members ≡ seats → seat < length seats
    → statements_at (statements_in (refill (length seats) seats (set members seat written))) seat ≡ written.items
lent-there seats members seat written same there =
    ap (λ list. statements_at (statements_in list) seat) (seats-lent seats members seat written same)
    ∙ at-place (set seats seat written) seat
    ∙ ap (λ (s : Roomy Submitted). s.items) (get_or-set_same seats seat written (record { items = []; room = 0 }) there)

-- a seat that takes a reply has taken it among the seats
pub lent-taken : (seats members : List (Roomy Submitted)) (seat : ℕ) (got written : Roomy Submitted) (known : List Known) → members ≡ seats
    → seat < length seats → got ≡ get_or members seat got
    → seat_as known written.items ≡ with_taken (seat_as known (get_or members seat got).items)
    → seat_as known (statements_at (statements_in (refill (length seats) seats (set members seat written))) seat)
    ≡ with_taken (seat_as known (statements_at (statements_in seats) seat))
lent-taken seats members seat got written known same there is taken =
    ap (seat_as known) (lent-there seats members seat written same there)
    ∙ taken
    ∙ ap (λ (s : Roomy Submitted). with_taken (seat_as known s.items)) (sym is)
    ∙ ap (λ statements. with_taken (seat_as known statements)) (seat-read seats members seat got same there is)

-- the others are as they were
pub lent-others : (seats members : List (Roomy Submitted)) (seat : ℕ) (written : Roomy Submitted) → members ≡ seats → seat < length seats
    → statements_in (refill (length seats) seats (set members seat written))
    ≡ set (statements_in seats) seat (statements_at (statements_in (refill (length seats) seats (set members seat written))) seat)
lent-others seats members seat written same there =
    ap statements_in (seats-lent seats members seat written same)
    ∙ map-set (λ (s : Roomy Submitted). s.items) seats seat written
    ∙ ap (set (statements_in seats) seat) (sym (lent-there seats members seat written same there))
