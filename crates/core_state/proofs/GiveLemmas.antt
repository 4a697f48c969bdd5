-- What becomes of the bits of a row, and of what a query keeps so far, where a batch passes a filter.
use Rattle.core_state.proofs.Words.{◌&&◌, ◌<◌, ◌↔◌, ◌∙◌, ◌≡◌, ap, arith, bit_at, bits_left_at, Bool, cond, Contains, eq-eqb, eqb, eqb-true, false, filter, Filter, filtered, Flight, get_or, get_or-map-range_with_len, Has, Has-with, inl, inr, is_visible, IsSoundRow, IsTrue, joined, keeps_so_far, key_number, key_place, length, List, list_all, OnRoster, passed_by, passes, PlainVersion, range_with_len, refl, State, subst, sym, tables_of, takes_at, true, vector_of, with_number, ℕ, ⊎_elim}
use Rattle.std.proofs.lemmas.List.Sums.{AllPass-from_list_all, list_all-from_AllPass}
use Rattle.bit_words.proofs.SetLemmas.{Has-both}
use Rattle.core_state.proofs.CutFoundLemmas.{all-below, at-below}

-- a row keeps those of its bits that are in the vector of its key
pub given-bits : (filter : Filter) (keys bits : List ℕ) (row slot : ℕ) → row < length bits
    → Has (get_or (filtered filter keys bits) row 0) slot
    ↔ (Has (get_or bits row 0) slot × Has (vector_of filter (get_or keys (key_place row filter.dimension) 0)) slot)
given-bits filter keys bits row slot low =
    subst (λ word. Has word slot ↔ (Has (get_or bits row 0) slot × Has (vector_of filter (get_or keys (key_place row filter.dimension) 0)) slot))
    (sym (get_or-map-range_with_len (bits_left_at filter keys bits) 0 (length bits) row row 0 low (omega arith)))
    (Has-both (get_or bits row 0) (vector_of filter (get_or keys (key_place row filter.dimension) 0)) slot)

-- what is asked of a dimension that a batch may have passed
abbrev pub asked : (takes : ℕ → Bool) (passed : ℕ) → ℕ → Bool
asked takes passed dimension = cond {A = Bool} (eqb (bit_at passed dimension) 1) (takes dimension) true

asked-fact : (takes : ℕ → Bool) (passed dimension : ℕ) → (IsTrue (asked takes passed dimension)) ↔ (Has passed dimension → IsTrue (takes dimension))
asked-fact takes passed dimension = by_test (eqb (bit_at passed dimension) 1) refl
  where
    by_test : (t : Bool) → eqb (bit_at passed dimension) 1 ≡ t
        → IsTrue (cond {A = Bool} t (takes dimension) true) ↔ (Has passed dimension → IsTrue (takes dimension))
    by_test true is = ((λ holds has. holds), (λ says. says (eqb-true (bit_at passed dimension) 1 is)))
    by_test false is =
        ((λ holds has. absurd (let both : true ≡ false = sym (eq-eqb (bit_at passed dimension) 1 has) ∙ is in cc)), (λ says. refl))

-- a test of all numbers below one is a test of each
pub at-each : (p : ℕ → Bool) (count : ℕ) → list_all p (range_with_len 0 count) ≡ true → (n : ℕ) → n < count → p n ≡ true
at-each p count holds = at-below (λ n. p n ≡ true) count (AllPass-from_list_all p (range_with_len 0 count) holds)

pub each-at : (p : ℕ → Bool) (count : ℕ) → ((n : ℕ) → n < count → p n ≡ true) → list_all p (range_with_len 0 count) ≡ true
each-at p count holds = list_all-from_AllPass p (range_with_len 0 count) (all-below (λ n. p n ≡ true) count holds)

pub all-asked : (takes : ℕ → Bool) (passed count : ℕ) → IsTrue (list_all (asked takes passed) (range_with_len 0 count))
    ↔ ((dimension : ℕ) → dimension < count → Has passed dimension → IsTrue (takes dimension))
all-asked takes passed count = (
  λ holds dimension low. (asked-fact takes passed dimension).0 (at-each (asked takes passed) count holds dimension low),
  λ says. each-at (asked takes passed) count (λ dimension low. (asked-fact takes passed dimension).1 (says dimension low)),
)

-- one dimension more that is passed is one more whose row the query has to take
pub asked-more : (takes : ℕ → Bool) (passed dimension count : ℕ) → dimension < count
    → IsTrue (list_all (asked takes (with_number passed dimension)) (range_with_len 0 count))
    ↔ (IsTrue (list_all (asked takes passed) (range_with_len 0 count)) × IsTrue (takes dimension))
asked-more takes passed dimension count low =
    let before = all-asked takes passed count in
    let after = all-asked takes (with_number passed dimension) count in (
      (λ holds. (
        before.1 (λ other inside has. after.0 holds other inside ((Has-with passed dimension other).1 (inl has))),
        after.0 holds dimension low ((Has-with passed dimension dimension).1 (inr refl)),
      )),
      (λ both. after.1 (λ other inside has. ⊎_elim (λ old. before.0 both.0 other inside old)
          (λ same. subst (λ d. IsTrue (takes d)) (sym same) both.1) ((Has-with passed dimension other).0 has))),
    )

pub all-three : (a b c : Bool) → IsTrue (a && (b && c)) → IsTrue a × IsTrue b × IsTrue c
all-three true true true h = (refl, refl, refl)
all-three true true false h = absurd (let both : false ≡ true = h in cc)
all-three true false c h = absurd (let both : false ≡ true = h in cc)
all-three false b c h = absurd (let both : false ≡ true = h in cc)

pub three-all : (a b c : Bool) → IsTrue a → IsTrue b → IsTrue c → IsTrue (a && (b && c))
three-all a b c h i j = ap (λ t. t && (b && c)) h ∙ ap (λ t. t && c) i ∙ j

-- the vector of a row's key says whether a query takes the row that is joined
abbrev pub SaysByKey : State → Filter → OnRoster → PlainVersion → Type 0
SaysByKey state filter entry version = IsTrue (is_visible version.begin version.end entry.snapshot)
    → Has (vector_of filter (key_number (tables_of state) version.row filter.dimension)) entry.slot
    ↔ IsTrue (takes_at entry.query (joined (tables_of state) entry.query entry.snapshot version.row) filter.dimension)

-- where it says so, the bits of a row after a pass are those of what is kept with one dimension more that is passed
pub bits-given : (state : State) (flight : Flight) (filter : Filter) (row : ℕ) (version : PlainVersion) (entry : OnRoster)
    → row < length flight.rows.bits → filter.dimension < length (tables_of state).schema.dimensions
    → Has state.lives.filters filter.dimension → Contains flight.roster entry → SaysByKey state filter entry version
    → IsSoundRow state.lives.filters (tables_of state) flight row version
    → Has (get_or (passed_by filter flight.rows).bits row 0) entry.slot
    ↔ IsTrue (keeps_so_far (tables_of state) (record flight { rows = passed_by filter flight.rows }) entry version)
bits-given state flight filter row version entry low inside is_filter on says sound = (
  (λ has.
      let both = bits.0 has in
      let parts = all-three seen fact (all flight.rows.passed) ((sound.bits entry on).0 both.0) in
      three-all seen fact (all (with_number flight.rows.passed filter.dimension)) parts.0 parts.1
      (more.1 (parts.2, (says parts.0).0 (subst (λ key. Has (vector_of filter key) entry.slot) keyed both.1)))),
  (λ keeps.
      let parts = all-three seen fact (all (with_number flight.rows.passed filter.dimension)) keeps in
      let both = more.0 parts.2 in
      bits.1 (
        (sound.bits entry on).1 (three-all seen fact (all flight.rows.passed) parts.0 parts.1 both.0),
        subst (λ key. Has (vector_of filter key) entry.slot) (sym keyed) ((says parts.0).1 both.1),
      )),
)
  where
    takes : ℕ → Bool
    takes = takes_at entry.query (joined (tables_of state) entry.query entry.snapshot version.row)

    seen : Bool
    seen = is_visible version.begin version.end entry.snapshot

    fact : Bool
    fact = passes entry.query.fact version.row

    all : ℕ → Bool
    all passed = list_all (asked takes passed) (range_with_len 0 (length (tables_of state).schema.dimensions))

    bits : Has (get_or (filtered filter flight.rows.keys flight.rows.bits) row 0) entry.slot
        ↔ (Has (get_or flight.rows.bits row 0) entry.slot
        × Has (vector_of filter (get_or flight.rows.keys (key_place row filter.dimension) 0)) entry.slot)
    bits = given-bits filter flight.rows.keys flight.rows.bits row entry.slot low

    keyed : get_or flight.rows.keys (key_place row filter.dimension) 0 ≡ key_number (tables_of state) version.row filter.dimension
    keyed = sound.keys filter.dimension is_filter

    more : IsTrue (all (with_number flight.rows.passed filter.dimension)) ↔ (IsTrue (all flight.rows.passed) × IsTrue (takes filter.dimension))
    more = asked-more takes flight.rows.passed filter.dimension (length (tables_of state).schema.dimensions) inside
