-- What becomes of positions and of what is kept where a batch is distributed.
use Rattle.core_state.proofs.Words.{◌++◌, ◌+◌, ◌∙◌, ◌∷◌, ◌≡◌, ◌≢◌, [], All, All-head, All-tail, all_pairs_head, all_pairs_tail, AllPairs, ap, append-nil, append_assoc, arith, Bool, cond, eqb, eqb-true, false, filter, filter-append, filter_map-append, flat_map, Flight, flight_at, grouped_of, is_kept, is_visible, IsPermutation, IsPermutation-append_left, IsPermutation-append_right, IsPermutation-refl, IsPermutation-trans, Joined, joined, kept_at, length, length-map, List, map, map-append, ne_eqb, not, Option, PlainVersion, Query, refl, Some, Store, subst, sym, true, versions_at, with_row, with_rows, ℕ}
use Rattle.std.specs.Prelude.{slice_get}
use Rattle.std.proofs.lemmas.List.Concat.{flat_map_single}
use Rattle.std.proofs.lemmas.List.Sorted.{IsPermutation-append_comm, length_permutation}
use Rattle.star_plan.specs.Joined.{kept_of, value_at}

-- the groups of rows, with one row more, are the groups of the rows and the one
abbrev pub FoldsOne : Type 0
FoldsOne = (query : Query) (rows : List Joined) (row : Joined)
    → with_row (λ place. value_at place row) (grouped_of query rows) ≡ grouped_of query (rows ++ row ∷ [])

-- and so with some rows more
pub rows-folded : FoldsOne → (query : Query) (rows more : List Joined) → with_rows more (grouped_of query rows) ≡ grouped_of query (rows ++ more)
rows-folded folds query rows [] = ap (grouped_of query) (sym (append-nil rows))
rows-folded folds query rows (row ∷ more) =
    ap (with_rows more) (folds query rows row)
    ∙ rows-folded folds query (rows ++ row ∷ []) more
    ∙ ap (grouped_of query) (append_assoc rows (row ∷ []) more)

kept-append : (query : Query) (rows more : List Joined) → kept_of query (rows ++ more) ≡ kept_of query rows ++ kept_of query more
unfolding kept_of
kept-append query rows more = filter-append (is_kept query) rows more

-- what some positions and others give is what the ones give and what the others give
pub kept_at-append : (store : Store) (query : Query) (snapshot : ℕ) (positions more : List ℕ)
    → kept_at store query snapshot (positions ++ more) ≡ kept_at store query snapshot positions ++ kept_at store query snapshot more
kept_at-append store query snapshot positions more =
    ap (λ versions. kept_of query (map row (filter seen versions))) (filter_map-append (λ position. slice_get store.versions position) positions more)
    ∙ ap (λ versions. kept_of query (map row versions)) (filter-append seen (versions_at positions store.versions) (versions_at more store.versions))
    ∙ ap (kept_of query) (map-append row (filter seen (versions_at positions store.versions)) (filter seen (versions_at more store.versions)))
    ∙ kept-append query (map row (filter seen (versions_at positions store.versions))) (map row (filter seen (versions_at more store.versions)))
  where
    seen : PlainVersion → Bool
    seen version = is_visible version.begin version.end snapshot

    row : PlainVersion → Joined
    row version = joined store query snapshot version.row

-- the batches in flight without that of a number
abbrev pub without_flight : (batch : ℕ) → List Flight → List Flight
without_flight batch flights = filter (λ other. not (eqb other.rows.number batch)) flights

others-fly : (batch : ℕ) (flights : List Flight) → All (λ flight. flight.rows.number ≢ batch) flights → without_flight batch flights ≡ flights
others-fly batch [] apart = refl
others-fly batch (flight ∷ flights) apart =
    ap (λ t. cond {A = List Flight} (not t) (flight ∷ without_flight batch flights) (without_flight batch flights))
    (ne_eqb flight.rows.number batch (All-head (λ f. f.rows.number ≢ batch) flight flights apart))
    ∙ ap (λ rest. flight ∷ rest) (others-fly batch flights (All-tail (λ f. f.rows.number ≢ batch) flight flights apart))

to-front : (first second rest : List ℕ) (all : List ℕ) → IsPermutation all (second ++ rest) → IsPermutation (first ++ all) (second ++ (first ++ rest))
to-front first second rest all same =
    IsPermutation-trans (first ++ all) (first ++ (second ++ rest)) (second ++ (first ++ rest))
    (IsPermutation-append_right first all (second ++ rest) same)
    (subst (λ xs. IsPermutation xs (second ++ (first ++ rest))) (append_assoc first second rest)
    (subst (IsPermutation ((first ++ second) ++ rest)) (append_assoc second first rest)
    (IsPermutation-append_left rest (first ++ second) (second ++ first) (IsPermutation-append_comm first second))))

-- what the batches in flight give is what one gives, and the others
pub landed-permutes : (positions_of : Flight → List ℕ) (batch : ℕ) (landed : Flight) (flights : List Flight) → flight_at flights batch ≡ Some landed
    → AllPairs (λ flight other. flight.rows.number ≢ other.rows.number) flights
    → IsPermutation (flat_map positions_of flights) (positions_of landed ++ flat_map positions_of (without_flight batch flights))
landed-permutes positions_of batch landed [] is apart = cc
landed-permutes positions_of batch landed (flight ∷ flights) is apart =
    by_test (eqb flight.rows.number batch) refl is
    (λ rest. landed-permutes positions_of batch landed flights rest
    (all_pairs_tail (λ f other. f.rows.number ≢ other.rows.number) flight flights apart))
  where
    Goal : Bool → Type 0
    Goal t = IsPermutation (positions_of flight ++ flat_map positions_of flights)
        (positions_of landed ++ flat_map positions_of (cond {A = List Flight} (not t) (flight ∷ without_flight batch flights) (without_flight batch flights)))

    by_test : (t : Bool) → eqb flight.rows.number batch ≡ t → cond {A = Option Flight} t (Some flight) (flight_at flights batch) ≡ Some landed
        → (flight_at flights batch ≡ Some landed
        → IsPermutation (flat_map positions_of flights) (positions_of landed ++ flat_map positions_of (without_flight batch flights)))
        → Goal t
    by_test true at found rest =
        let same : flight ≡ landed = cc in
        let here : flight.rows.number ≡ batch = eqb-true flight.rows.number batch at in
        let others : without_flight batch flights ≡ flights = others-fly batch flights (λ k d low number.
        all_pairs_head (λ f other. f.rows.number ≢ other.rows.number) flight flights apart k d low (here ∙ sym number)) in
        subst (λ f. IsPermutation (positions_of flight ++ flat_map positions_of flights) (positions_of f ++ flat_map positions_of (without_flight batch flights))) same
        (subst (λ fs. IsPermutation (positions_of flight ++ flat_map positions_of flights) (positions_of flight ++ flat_map positions_of fs)) (sym others)
        (IsPermutation-refl (positions_of flight ++ flat_map positions_of flights)))
    by_test false at found rest =
        to-front (positions_of flight) (positions_of landed) (flat_map positions_of (without_flight batch flights)) (flat_map positions_of flights) (rest found)

-- one batch less is in flight
pub length-landed : (batch : ℕ) (landed : Flight) (flights : List Flight) → flight_at flights batch ≡ Some landed
    → AllPairs (λ flight other. flight.rows.number ≢ other.rows.number) flights
    → length flights ≡ length (without_flight batch flights) + 1
length-landed batch landed flights is apart =
    let others : List Flight = without_flight batch flights in
    let one : Flight → List ℕ = λ flight. flight.rows.number ∷ [] in
    let each : (fs : List Flight) → length (flat_map one fs) ≡ length fs = λ fs.
    ap (λ (ns : List ℕ). length ns) (flat_map_single (λ (f : Flight). f.rows.number) fs) ∙ length-map fs (λ (f : Flight). f.rows.number) in
    let same = length_permutation (flat_map one flights) (one landed ++ flat_map one others) (landed-permutes one batch landed flights is apart) in
    let all = each flights in
    let left = each others in
    omega arith
