-- What a batch that is given back makes of the tallies.
use Rattle.core_state.proofs.Words.{◌&&◌, ◌+◌, ◌∷◌, ◌≡◌, ◌≤◌, [], All, All-cons, All-head, All-tail, ap, arith, Bool, cond, counted, eqb, false, Filter, FilterVersion, Flight, Hand, length, List, None, Option, option_map_or, range_with_len, Rows, slice_index_or, Some, suc, tallies_after, DropTally, true, ℕ}
use Rattle.std.specs.Prelude.{fold}
use Rattle.dimension_filter.specs.Pass.{bits_left, drops_below, is_asked_at, key_in, probes_below}
use Rattle.core_state.specs.Cutting.{passed_by, tallies_through, with_batch, with_tally}

-- of those that pass a test no more pass another one, too
fewer-from : (p q : ℕ → Bool) (few many : ℕ) (xs : List ℕ) → few ≤ many
    → fold (λ n x. n + cond {A = ℕ} (p x && q x) 1 0) few xs ≤ fold (λ n x. n + cond {A = ℕ} (p x) 1 0) many xs
fewer-from p q few many [] le = le
fewer-from p q few many (x ∷ xs) le =
    fewer-from p q (few + cond {A = ℕ} (p x && q x) 1 0) (many + cond {A = ℕ} (p x) 1 0) xs (by_tests (p x) (q x))
  where
    by_tests : (a b : Bool) → few + cond {A = ℕ} (a && b) 1 0 ≤ many + cond {A = ℕ} a 1 0
    by_tests true true = omega arith
    by_tests true false = omega arith
    by_tests false b = omega arith

counted-more : (drops probes dropped probed : ℕ) → drops ≤ probes → dropped ≤ probed → counted drops dropped ≤ counted probes probed
counted-more drops probes dropped probed few more = omega arith

-- a batch drops no more rows than those for which the filter is asked
tally-batch : (filter : Filter) (rows : Rows) (tally : DropTally) → tally.drops ≤ tally.probes
    → (with_batch filter rows tally).drops ≤ (with_batch filter rows tally).probes
tally-batch filter rows tally few =
    counted-more tally.drops tally.probes (drops_below filter rows.keys rows.bits (length rows.bits)) (probes_below filter rows.bits (length rows.bits)) few
    (fewer-from (is_asked_at filter rows.bits)
    (λ row. eqb (bits_left filter (key_in filter rows.keys row) (slice_index_or rows.bits row 0)) 0) 0 0
    (range_with_len 0 (length rows.bits)) (omega arith))

-- each tally has at most as many drops as probes where that of one dimension has
tallied : (dimension : ℕ) (change : DropTally → DropTally) → ((tally : DropTally) → tally.drops ≤ tally.probes → (change tally).drops ≤ (change tally).probes)
    → (versions : List FilterVersion) (tallies : List DropTally) → length tallies ≡ length versions → All (λ tally. tally.drops ≤ tally.probes) tallies
    → (length (with_tally dimension change versions tallies) ≡ length versions)
    × All (λ tally. tally.drops ≤ tally.probes) (with_tally dimension change versions tallies)
tallied dimension change keeps [] tallies count all = (count, all)
tallied dimension change keeps (version ∷ versions) [] count all = absurd (omega arith)
tallied dimension change keeps (version ∷ versions) (tally ∷ tallies) count all =
    let few : DropTally → Type 0 = λ t. t.drops ≤ t.probes in
    let rest = tallied dimension change keeps versions tallies (omega arith) (All-tail few tally tallies all) in (
      ap suc rest.0,
      All-cons few (cond {A = DropTally} (eqb version.filter.dimension dimension) (change tally) tally) (with_tally dimension change versions tallies)
          (by_test (eqb version.filter.dimension dimension) (All-head few tally tallies all)) rest.1,
    )
  where
    by_test : (t : Bool) → tally.drops ≤ tally.probes
        → (cond {A = DropTally} t (change tally) tally).drops ≤ (cond {A = DropTally} t (change tally) tally).probes
    by_test true few = keeps tally few
    by_test false few = few

-- each tally has at most as many drops as probes after a batch passed some versions, one after the other
tallied-through : (passed : List FilterVersion) (rows : Rows) (versions : List FilterVersion) (tallies : List DropTally) → length tallies ≡ length versions
    → All (λ tally. tally.drops ≤ tally.probes) tallies
    → (length (tallies_through passed rows versions tallies) ≡ length versions)
    × All (λ tally. tally.drops ≤ tally.probes) (tallies_through passed rows versions tallies)
tallied-through [] rows versions tallies count all = (count, all)
tallied-through (version ∷ passed) rows versions tallies count all =
    let change : DropTally → DropTally = with_batch version.filter rows in
    let after = tallied version.filter.dimension change (tally-batch version.filter rows) versions tallies count all in
    tallied-through passed (passed_by version.filter rows) versions (with_tally version.filter.dimension change versions tallies) after.0 after.1

-- the tallies after a batch is given back
pub tallied-after : (flight : Flight) (versions : List FilterVersion) (tallies : List DropTally) → length tallies ≡ length versions
    → All (λ tally. tally.drops ≤ tally.probes) tallies
    → (length (tallies_after flight versions tallies) ≡ length versions)
    × All (λ tally. tally.drops ≤ tally.probes) (tallies_after flight versions tallies)
tallied-after flight versions tallies count all = by_hand flight.hand
  where
    After : Option Hand → List DropTally
    After o = option_map_or (λ hand. tallies_through hand.versions flight.rows versions tallies) o tallies

    by_hand : (o : Option Hand) → (length (After o) ≡ length versions) × All (λ tally. tally.drops ≤ tally.probes) (After o)
    by_hand None = (count, all)
    by_hand (Some hand) = tallied-through hand.versions flight.rows versions tallies count all
