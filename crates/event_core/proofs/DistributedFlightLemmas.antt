-- A batch in flight is found at its place, and the others are left without it.
use Rattle.event_core.proofs.Words.{◌++◌, ◌+◌, ◌<◌, ◌∙◌, ◌∷◌, ◌≡◌, ◌≢◌, [], AllPairs, ap, arith, Bool, cases_lt, cond, Contains, Contains-get_or, drop, eqb, eqb-true, false, find, find_position, Flight, flight_as, flight_at, flights_as, get_or, get_or-map, get_or_from_slice_get, Known, length, length-map, List, map, ne_eqb, not, Option, option_map, position, position-Some, Reach, refl, slice_get, Some, subst, suc, sym, take, true, zero, ℕ, ⊎_elim}
use Rattle.std.specs.List.{filter}
use Rattle.event_core.specs.Changes.{without_place}

-- what stands at the place of the first that passes is found
pub found-there : {X : Type 0} (p : X → Bool) (xs : List X) (place : ℕ) (x : X) → position p xs ≡ Some place → slice_get xs place ≡ Some x
    → find p xs ≡ Some x
found-there p xs place x is there = find_position p xs place x is ∙ ap Some (get_or_from_slice_get xs place x x there)

-- what is made of the one that passes is found among what is made of all
pub found-map : {X Y : Type 0} (p : Y → Bool) (f : X → Y) (xs : List X) → find p (map f xs) ≡ option_map f (find (λ x. p (f x)) xs)
found-map p f [] = refl
found-map {X = X} {Y = Y} p f (x ∷ xs) = by_test (p (f x)) (found-map p f xs)
  where
    by_test : (t : Bool) → find p (map f xs) ≡ option_map f (find (λ y. p (f y)) xs)
        → cond {A = Option Y} t (Some (f x)) (find p (map f xs)) ≡ option_map f (cond {A = Option X} t (Some x) (find (λ y. p (f y)) xs))
    by_test true rest = refl
    by_test false rest = rest

-- the batch of a number in the code is that of the number in the state
pub flight-there : (known : List Known) (reaches : List Reach) (flights : List Flight) (batch place : ℕ) (flight : Flight)
    → position (λ f. eqb f.batch.number batch) flights ≡ Some place → slice_get flights place ≡ Some flight
    → flight_at (flights_as known reaches flights) batch ≡ Some (flight_as known reaches flight)
flight-there known reaches flights batch place flight is there =
    found-map (λ f. eqb f.rows.number batch) (flight_as known reaches) flights
    ∙ ap (option_map (flight_as known reaches)) (found-there (λ f. eqb f.batch.number batch) flights place flight is there)

-- there is a place in a list where something stands
pub place-low : {X : Type 0} (xs : List X) (place : ℕ) (x : X) → slice_get xs place ≡ Some x → place < length xs
place-low [] place x is = cc
place-low (y ∷ xs) zero x is = omega arith
place-low (y ∷ xs) (suc place) x is = let low = place-low xs place x is in omega arith

-- a batch in the code is one of those in the state
pub flight-among : (known : List Known) (reaches : List Reach) (flights : List Flight) (place : ℕ) (flight : Flight)
    → slice_get flights place ≡ Some flight → Contains (flights_as known reaches flights) (flight_as known reaches flight)
flight-among known reaches flights place flight is =
    let low = place-low flights place flight is in
    let many = length-map flights (flight_as known reaches) in
    subst (Contains (flights_as known reaches flights))
    (get_or-map (flight_as known reaches) flights place flight (flight_as known reaches flight) low
    ∙ ap (flight_as known reaches) (get_or_from_slice_get flights place flight flight is))
    (Contains-get_or (flights_as known reaches flights) place (flight_as known reaches flight) (omega arith))

-- where all fail, all are left
none-left-out : {X : Type 0} (p : X → Bool) (xs : List X) → ((k : ℕ) (d : X) → k < length xs → p (get_or xs k d) ≡ false)
    → filter (λ x. not (p x)) xs ≡ xs
none-left-out p [] fail = refl
none-left-out {X = X} p (x ∷ xs) fail =
    ap (λ t. cond {A = List X} (not t) (x ∷ filter (λ y. not (p y)) xs) (filter (λ y. not (p y)) xs)) (fail 0 x (omega arith))
    ∙ ap (λ rest. x ∷ rest) (none-left-out p xs (λ k d low. fail (suc k) d (omega arith)))

-- where one passes, the others are left
one-left-out : {X : Type 0} (p : X → Bool) (xs : List X) (place : ℕ) (x : X) → place < length xs → p (get_or xs place x) ≡ true
    → ((k : ℕ) (d : X) → k < length xs → k ≢ place → p (get_or xs k d) ≡ false)
    → filter (λ y. not (p y)) xs ≡ take place xs ++ drop (suc place) xs
one-left-out p [] place x low passes fail = absurd (omega arith)
one-left-out {X = X} p (y ∷ xs) zero x low passes fail =
    ap (λ t. cond {A = List X} (not t) (y ∷ filter (λ z. not (p z)) xs) (filter (λ z. not (p z)) xs)) passes
    ∙ none-left-out p xs (λ k d inside. fail (suc k) d (omega arith) (λ same. absurd (omega arith)))
one-left-out {X = X} p (y ∷ xs) (suc place) x low passes fail =
    ap (λ t. cond {A = List X} (not t) (y ∷ filter (λ z. not (p z)) xs) (filter (λ z. not (p z)) xs))
    (fail 0 y (omega arith) (λ same. absurd (omega arith)))
    ∙ ap (λ rest. y ∷ rest) (one-left-out p xs place x (omega arith) passes
    (λ k d inside apart. fail (suc k) d (omega arith) (λ same. apart (omega arith))))

-- what is left of what is made of all is made of what is left
left-map : {X Y : Type 0} (p : Y → Bool) (f : X → Y) (xs : List X) → filter p (map f xs) ≡ map f (filter (λ x. p (f x)) xs)
left-map p f [] = refl
left-map {X = X} {Y = Y} p f (x ∷ xs) = by_test (p (f x)) (left-map p f xs)
  where
    by_test : (t : Bool) → filter p (map f xs) ≡ map f (filter (λ y. p (f y)) xs)
        → cond {A = List Y} t (f x ∷ filter p (map f xs)) (filter p (map f xs))
        ≡ map f (cond {A = List X} t (x ∷ filter (λ y. p (f y)) xs) (filter (λ y. p (f y)) xs))
    by_test true rest = ap (λ ys. f x ∷ ys) rest
    by_test false rest = rest

-- the batches that are left without that of a place, in the code and in the state
pub flights-left : (known : List Known) (reaches : List Reach) (flights : List Flight) (batch place : ℕ) (flight : Flight)
    → AllPairs (λ f other. f.rows.number ≢ other.rows.number) (flights_as known reaches flights)
    → position (λ f. eqb f.batch.number batch) flights ≡ Some place
    → flights_as known reaches (without_place place flights)
    ≡ filter (λ other. not (eqb other.rows.number batch)) (flights_as known reaches flights)
flights-left known reaches flights batch place flight apart is =
    let next : place + 1 ≡ suc place = omega arith in
    let first = position-Some (λ f. eqb f.batch.number batch) flights place flight is in
    ap (λ n. flights_as known reaches (take place flights ++ drop n flights)) next
    ∙ sym (left-map (λ f. not (eqb f.rows.number batch)) (flight_as known reaches) flights
    ∙ ap (flights_as known reaches) (one-left-out (λ f. eqb f.batch.number batch) flights place flight first.0 first.1 others))
  where
    number_at : (d : Flight) (k : ℕ) → k < length flights
        → (get_or (flights_as known reaches flights) k (flight_as known reaches d)).rows.number ≡ (get_or flights k d).batch.number
    number_at d k low = ap (λ f. f.rows.number) (get_or-map (flight_as known reaches) flights k d (flight_as known reaches d) low)

    others : (k : ℕ) (d : Flight) → k < length flights → k ≢ place → eqb (get_or flights k d).batch.number batch ≡ false
    others k d low other =
        let first = position-Some (λ f. eqb f.batch.number batch) flights place d is in
        let here : (get_or flights place d).batch.number ≡ batch = eqb-true (get_or flights place d).batch.number batch first.1 in
        let many = length-map flights (flight_as known reaches) in
        let inside = first.0 in
        ⊎_elim (λ before. first.2 k before)
        (λ behind. ne_eqb (get_or flights k d).batch.number batch (λ same.
        let after : place < k = omega arith in
        apart place k (flight_as known reaches d) after (omega arith)
        (number_at d place inside ∙ here ∙ sym same ∙ sym (number_at d k low))))
        (cases_lt k place)
