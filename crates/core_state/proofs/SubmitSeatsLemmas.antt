-- The seats are sound after one of them submits a statement.
use Rattle.core_state.proofs.Words.{◌<◌, ◌∙◌, ◌∷◌, ◌≡◌, ◌≢◌, ◌≤◌, ◌⊎◌, [], All, All-contains, All-weaker, AllPairs, ap, AreSoundSeats, arith, awaited_by, cases_eq, cases_lt, Contains, Contains-append_left, Contains-push, Contains-push_cases, empty_seat, get_or, get_or-set_other, get_or-set_same, get_or_default, get_or_past, inl, inr, IsAwaited, IsSoundSeat, length, length-set, List, refl, Seat, set, State, subst, sym, Told, with_statement, ℕ, ⊎_elim}
use Rattle.core_state.proofs.FrameLemmas.{at-set}
use Rattle.core_state.proofs.SubmitSeatLemmas.{Still, seat-later, seat-with}

-- the seats, of which one has a statement more
abbrev pub seats_by : State → (seat statement : ℕ) → Told → List Seat
seats_by state seat statement told =
    set state.seats seat (with_statement statement told (get_or state.seats seat empty_seat))

-- what a submission has to give
pub record Submits (old new : State) (seat statement : ℕ) (told : Told) : Type 0 where
  pub there : seat < length old.seats
  pub above : old.numbers.statement < statement
  pub number : new.numbers.statement ≡ statement
  pub settings : new.settings.seats ≡ old.settings.seats
  pub still : Still old new
  pub awaited : IsAwaited new.accepted new.lives.queries statement (awaited_by told)
  pub rising : AllPairs (λ entry later. entry.statement < later.statement) new.entries
  pub entries : All (λ entry. Contains (get_or (seats_by old seat statement told) entry.seat empty_seat).submitted entry.statement) new.entries
  pub queries : All (λ accepted. Contains (get_or (seats_by old seat statement told) accepted.seat empty_seat).submitted accepted.number) new.accepted

-- the seat that submits, where it is found
at-same : (old : State) (seat statement : ℕ) (told : Told) → seat < length old.seats → (k : ℕ) (d : Seat) → k ≡ seat
    → get_or (seats_by old seat statement told) k d ≡ with_statement statement told (get_or old.seats k d)
at-same old seat statement told there k d same =
    ap (λ n. get_or (seats_by old seat statement told) n d) same
    ∙ get_or-set_same old.seats seat (with_statement statement told (get_or old.seats seat empty_seat)) d there
    ∙ ap (with_statement statement told) (get_or_default old.seats seat empty_seat d there ∙ ap (λ n. get_or old.seats n d) (sym same))

at-other : (old : State) (seat statement : ℕ) (told : Told) (k : ℕ) (d : Seat) → k ≢ seat
    → get_or (seats_by old seat statement told) k d ≡ get_or old.seats k d
at-other old seat statement told k d apart =
    get_or-set_other old.seats seat k (with_statement statement told (get_or old.seats seat empty_seat)) d apart

-- what a seat submitted stands in it
pub stands : (old : State) (seat statement : ℕ) (told : Told) → seat < length old.seats → (other number : ℕ)
    → Contains (get_or old.seats other empty_seat).submitted number
    → Contains (get_or (seats_by old seat statement told) other empty_seat).submitted number
stands old seat statement told there other number has = ⊎_elim
    (λ same. subst (λ (s : Seat). Contains s.submitted number) (sym (at-same old seat statement told there other empty_seat same))
    (Contains-append_left (get_or old.seats other empty_seat).submitted (statement ∷ []) number has))
    (λ apart. subst (λ (s : Seat). Contains s.submitted number) (sym (at-other old seat statement told other empty_seat apart)) has)
    (cases_eq other seat)

pub stands-new : (old : State) (seat statement : ℕ) (told : Told) → seat < length old.seats
    → Contains (get_or (seats_by old seat statement told) seat empty_seat).submitted statement
stands-new old seat statement told there =
    subst (λ (s : Seat). Contains s.submitted statement) (sym (at-same old seat statement told there seat empty_seat refl))
    (Contains-push (get_or old.seats seat empty_seat).submitted statement)

-- a number that stands in a seat was given
pub stands-low : (old : State) → All (IsSoundSeat old.numbers.statement old.accepted old.lives.queries) old.seats → (seat number : ℕ) → Contains (get_or old.seats seat empty_seat).submitted number
    → number ≤ old.numbers.statement
stands-low old each seat number has = ⊎_elim
    (λ low. All-contains (λ s. s ≤ old.numbers.statement) (get_or old.seats seat empty_seat).submitted number (each seat empty_seat low).given has)
    (λ past.
    let none : Contains {X = ℕ} [] number =
    subst (λ (s : Seat). Contains s.submitted number) (get_or_past old.seats seat empty_seat past) has in
    let low = none.1 in absurd (omega arith))
    (cases_lt seat (length old.seats))

-- a number that stands in a seat stood there, or is the new one in the seat that submits it
stands-cases : (old : State) (seat statement : ℕ) (told : Told) → seat < length old.seats → (k : ℕ) (d : Seat) (number : ℕ)
    → Contains (get_or (seats_by old seat statement told) k d).submitted number
    → Contains (get_or old.seats k d).submitted number ⊎ ((number ≡ statement) × (k ≡ seat))
stands-cases old seat statement told there k d number has = ⊎_elim
    (λ same. ⊎_elim (λ before. inl before) (λ is. inr (sym is, same))
    (Contains-push_cases (get_or old.seats k d).submitted statement number
    (subst (λ (s : Seat). Contains s.submitted number) (at-same old seat statement told there k d same) has)))
    (λ apart. inl (subst (λ (s : Seat). Contains s.submitted number) (at-other old seat statement told k d apart) has))
    (cases_eq k seat)

pub seats-submitted : (old new : State) (seat statement : ℕ) (told : Told)
    → Submits old (record new { seats = seats_by old seat statement told }) seat statement told
    → AreSoundSeats old → AreSoundSeats (record new { seats = seats_by old seat statement told })
seats-submitted old new seat statement told gives is = record {
  count = length-set old.seats seat (with_statement statement told (get_or old.seats seat empty_seat)) ∙ is.count ∙ sym gives.settings;
  each = λ k d low. each k d (subst (λ n. k < n) many low);
  apart = λ i j d before low number has other.
      let later : j < length old.seats = subst (λ n. j < n) many low in
      let earlier : i < length old.seats = omega arith in
      apart i j d before earlier later number (stands-cases old seat statement told gives.there i d number has)
      (stands-cases old seat statement told gives.there j d number other);
  rising = gives.rising;
  entries = gives.entries;
  queries = gives.queries;
}
  where
    now : State
    now = record new { seats = seats_by old seat statement told }

    many : length (seats_by old seat statement told) ≡ length old.seats
    many = length-set old.seats seat (with_statement statement told (get_or old.seats seat empty_seat))

    later : old.numbers.statement ≤ new.numbers.statement
    later = let above = gives.above in let number = gives.number in omega arith

    each : (k : ℕ) (d : Seat) → k < length old.seats
        → IsSoundSeat now.numbers.statement now.accepted now.lives.queries (get_or (seats_by old seat statement told) k d)
    each k d low = at-set (IsSoundSeat now.numbers.statement now.accepted now.lives.queries) old.seats seat k
        (with_statement statement told (get_or old.seats seat empty_seat)) d low
        (λ same.
        let was = is.each seat empty_seat gives.there in
        let above = gives.above in
        let number = gives.number in
        seat-with now statement told (get_or old.seats seat empty_seat)
        (All-weaker (λ s. s ≤ old.numbers.statement) (λ s. s < statement) (λ s given. omega arith) (get_or old.seats seat empty_seat).submitted was.given)
        (omega arith) gives.awaited
        (seat-later old now gives.still later (get_or old.seats seat empty_seat) was))
        (λ apart. seat-later old now gives.still later (get_or old.seats k d) (is.each k d low))

    below : (k : ℕ) (d : Seat) → k < length old.seats → (number : ℕ) → Contains (get_or old.seats k d).submitted number
        → number ≤ old.numbers.statement
    below k d low number has =
        All-contains (λ s. s ≤ old.numbers.statement) (get_or old.seats k d).submitted number (is.each k d low).given has

    apart : (i j : ℕ) (d : Seat) → i < j → i < length old.seats → j < length old.seats → (number : ℕ)
        → Contains (get_or old.seats i d).submitted number ⊎ ((number ≡ statement) × (i ≡ seat))
        → Contains (get_or old.seats j d).submitted number ⊎ ((number ≡ statement) × (j ≡ seat)) → ⊥
    apart i j d before earlier later number (inl has) (inl other) = is.apart i j d before later number has other
    apart i j d before earlier later number (inl has) (inr same) =
        let low = below i d earlier number has in let above = gives.above in let at = same.0 in omega arith
    apart i j d before earlier later number (inr same) (inl other) =
        let low = below j d later number other in let above = gives.above in let at = same.0 in omega arith
    apart i j d before earlier later number (inr same) (inr other) =
        let first = same.1 in let second = other.1 in omega arith
