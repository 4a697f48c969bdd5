-- Which rows of a batch a query keeps, position by position.
use Rattle.core_state.proofs.Words.{◌&&◌, ◌+◌, ◌<◌, ◌∙◌, ◌∷◌, ◌≡◌, ap, arith, bit_at, Bool, cond, cons_option, eqb, false, filter, filter_map, Flight, get_or, is_kept, is_visible, Joined, joined, kept_at, length, List, map, nat_lt, None, OnRoster, Option, PlainVersion, range_with_len, refl, rows_for, slice_get, Some, Store, subst, suc, sym, true, zero, ℕ}
use Rattle.star_plan.specs.Joined.{kept_of}

-- a position below the extent has what is kept of its version, where the test of its row says so
module _ (version_at : ℕ → Option PlainVersion) (row_of : PlainVersion → Joined) (seen : PlainVersion → Bool) (kept : Joined → Bool)
    (has : ℕ → Bool) (extent first : ℕ) where
  -- the test of a row says whether its version is seen and kept
  abbrev Agrees : (row : ℕ) → Type 0
  Agrees row = (version : PlainVersion) → version_at (first + row) ≡ Some version
      → has row ≡ (nat_lt (first + row) extent && (seen version && kept (row_of version)))

  abbrev by_bits : List ℕ → List PlainVersion
  by_bits rows = filter_map (λ row. cond {A = Option PlainVersion} (has row) (version_at (first + row)) None) rows

  abbrev by_query : List ℕ → List PlainVersion
  by_query positions = filter seen (filter_map version_at (filter (λ position. nat_lt position extent) positions))

  kept-or-not : (version : PlainVersion) (left right : List PlainVersion) (s k : Bool) → kept (row_of version) ≡ k
      → map row_of left ≡ filter kept (map row_of right)
      → map row_of (cons_option (cond {A = Option PlainVersion} (s && k) (Some version) None) left)
      ≡ filter kept (map row_of (cond {A = List PlainVersion} s (version ∷ right) right))
  kept-or-not version left right false k is rest = rest
  kept-or-not version left right true true is rest =
      ap (λ rows. row_of version ∷ rows) rest
      ∙ sym (ap (λ t. cond {A = List Joined} t (row_of version ∷ filter kept (map row_of right)) (filter kept (map row_of right))) is)
  kept-or-not version left right true false is rest =
      rest ∙ sym (ap (λ t. cond {A = List Joined} t (row_of version ∷ filter kept (map row_of right)) (filter kept (map row_of right))) is)

  one-row : (position : ℕ) (left : List PlainVersion) (right : List ℕ) (o : Option PlainVersion) → version_at position ≡ o → (t a : Bool)
      → ((version : PlainVersion) → o ≡ Some version → t ≡ (a && (seen version && kept (row_of version))))
      → map row_of left ≡ filter kept (map row_of (filter seen (filter_map version_at right)))
      → map row_of (cons_option (cond {A = Option PlainVersion} t (version_at position) None) left)
      ≡ filter kept (map row_of (filter seen (filter_map version_at (cond {A = List ℕ} a (position ∷ right) right))))
  one-row position left right None is true true agree rest =
      ap (λ o. map row_of (cons_option o left)) is ∙ rest
      ∙ sym (ap (λ o. filter kept (map row_of (filter seen (cons_option o (filter_map version_at right))))) is)
  one-row position left right None is true false agree rest = ap (λ o. map row_of (cons_option o left)) is ∙ rest
  one-row position left right None is false true agree rest =
      rest ∙ sym (ap (λ o. filter kept (map row_of (filter seen (cons_option o (filter_map version_at right))))) is)
  one-row position left right None is false false agree rest = rest
  one-row position left right (Some version) is t false agree rest =
      ap (λ b. map row_of (cons_option (cond {A = Option PlainVersion} b (version_at position) None) left)) (agree version refl) ∙ rest
  one-row position left right (Some version) is t true agree rest =
      ap (λ b. map row_of (cons_option (cond {A = Option PlainVersion} b (version_at position) None) left)) (agree version refl)
      ∙ ap (λ o. map row_of (cons_option (cond {A = Option PlainVersion} (seen version && kept (row_of version)) o None) left)) is
      ∙ kept-or-not version left (filter seen (filter_map version_at right)) (seen version) (kept (row_of version)) refl rest
      ∙ sym (ap (λ o. filter kept (map row_of (filter seen (cons_option o (filter_map version_at right))))) is)

  pub rows-agree : (start count : ℕ) → ((row : ℕ) → row < count → Agrees (start + row))
      → map row_of (by_bits (range_with_len start count)) ≡ filter kept (map row_of (by_query (range_with_len (first + start) count)))
  rows-agree start zero agree = refl
  rows-agree start (suc count) agree =
      one-row (first + start) (by_bits (range_with_len (start + 1) count))
      (filter (λ position. nat_lt position extent) (range_with_len (first + start + 1) count))
      (version_at (first + start)) refl (has start) (nat_lt (first + start) extent)
      (subst Agrees (let same : start + 0 ≡ start = omega arith in same) (agree zero (omega arith)))
      (subst (λ next. map row_of (by_bits (range_with_len (start + 1) count)) ≡ filter kept (map row_of (by_query (range_with_len next count))))
      (let same : first + (start + 1) ≡ first + start + 1 = omega arith in same)
      (rows-agree (start + 1) count (λ row low.
      let same : start + (row + 1) ≡ start + 1 + row = omega arith in
      subst Agrees same (agree (row + 1) (omega arith)))))

-- what a batch brings a query is what the query keeps at the batch's positions, where the bits say so
pub landed-rows : (store : Store) (flight : Flight) (entry : OnRoster) (extent : ℕ) → length flight.rows.bits ≡ flight.rows.count
    → ((row : ℕ) → row < flight.rows.count → (version : PlainVersion) → slice_get store.versions (flight.rows.first + row) ≡ Some version
    → eqb (bit_at (get_or flight.rows.bits row 0) entry.slot) 1
    ≡ (nat_lt (flight.rows.first + row) extent && (is_visible version.begin version.end entry.snapshot
    && is_kept entry.query (joined store entry.query entry.snapshot version.row))))
    → rows_for store flight.rows entry
    ≡ kept_at store entry.query entry.snapshot
    (filter (λ position. nat_lt position extent) (range_with_len flight.rows.first flight.rows.count))
unfolding kept_of
landed-rows store flight entry extent count agree =
    ap (λ n. map row_of (filter_map (λ row. cond {A = Option PlainVersion} (has row) (slice_get store.versions (flight.rows.first + row)) None) (range_with_len 0 n))) count
    ∙ rows-agree (slice_get store.versions) row_of seen (is_kept entry.query) has extent flight.rows.first 0 flight.rows.count
    (λ row low. subst (λ n. (version : PlainVersion) → slice_get store.versions (flight.rows.first + n) ≡ Some version
    → has n ≡ (nat_lt (flight.rows.first + n) extent && (seen version && is_kept entry.query (row_of version))))
    (let none : row ≡ 0 + row = omega arith in none) (agree row low))
    ∙ ap (λ n. kept_at store entry.query entry.snapshot (filter (λ position. nat_lt position extent) (range_with_len n flight.rows.count)))
    (let none : flight.rows.first + 0 ≡ flight.rows.first = omega arith in none)
  where
    row_of : PlainVersion → Joined
    row_of version = joined store entry.query entry.snapshot version.row

    seen : PlainVersion → Bool
    seen version = is_visible version.begin version.end entry.snapshot

    has : ℕ → Bool
    has row = eqb (bit_at (get_or flight.rows.bits row 0) entry.slot) 1
