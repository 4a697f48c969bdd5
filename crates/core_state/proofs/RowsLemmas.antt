-- What the positions of a whole extent give is what a query keeps.
use Rattle.core_state.proofs.Words.{◌&&◌, ◌+◌, ◌<◌, ◌||◌, ◌↔◌, ◌∙◌, ◌∷◌, ◌≡◌, ◌≤◌, [], add-one, ap, arith, Bool, cond, cons_option, eqb, false, filter, IfSome, is_kept, is_visible, IsPermutation, Joined, joined, kept, kept_at, length, List, ltb, map, None, Option, PlainVersion, Query, range_with_len, refl, slice_get, Some, Store, subst, suc, sym, take, true, versions_at, zero, ℕ}
use Rattle.std.proofs.Common.{leb}
use Rattle.std.proofs.lemmas.Bool.{leb-true}
use Rattle.std.proofs.lemmas.Simd.{map-map}
use Rattle.std.proofs.lemmas.List.Sorted.{IsPermutation-map}
use Rattle.star_plan.specs.Joined.{kept_of}
use Rattle.core_state.proofs.PermutedLemmas.{filter_map-IsPermutation}
use Rattle.star_plan.proofs.PermutationLemmas.{filter-IsPermutation}

-- the kept rows come in the order of the rows
kept-IsPermutation : (query : Query) (rows others : List Joined) → IsPermutation rows others → IsPermutation (kept_of query rows) (kept_of query others)
unfolding kept_of
kept-IsPermutation query rows others h = filter-IsPermutation (is_kept query) rows others h

-- the same positions in another order give the same joined rows in another order
kept_at-permutes : (store : Store) (query : Query) (snapshot : ℕ) (positions others : List ℕ) → IsPermutation positions others
    → IsPermutation (kept_at store query snapshot positions) (kept_at store query snapshot others)
kept_at-permutes store query snapshot positions others same =
    let seen : PlainVersion → Bool = λ version. is_visible version.begin version.end snapshot in
    let row : PlainVersion → Joined = λ version. joined store query snapshot version.row in
    let at : List ℕ → List PlainVersion = λ list. versions_at list store.versions in
    kept-IsPermutation query (map row (filter seen (at positions))) (map row (filter seen (at others)))
    (IsPermutation-map row (filter seen (at positions)) (filter seen (at others))
    (filter-IsPermutation seen (at positions) (at others)
    (filter_map-IsPermutation (λ position. slice_get store.versions position) positions others same)))

-- behind the first version
at-shifted : (version : PlainVersion) (versions : List PlainVersion) (count first : ℕ)
    → versions_at (range_with_len (first + 1) count) (version ∷ versions) ≡ versions_at (range_with_len first count) versions
at-shifted version versions zero first = refl
at-shifted version versions (suc count) first =
    ap (λ o. cons_option o (versions_at (range_with_len (first + 1 + 1) count) (version ∷ versions)))
    (ap (slice_get (version ∷ versions)) (add-one first))
    ∙ ap (cons_option (slice_get versions first)) (at-shifted version versions count (first + 1))

at-range : (versions : List PlainVersion) (count : ℕ) → count ≤ length versions → versions_at (range_with_len 0 count) versions ≡ take count versions
at-range versions zero within = refl
at-range [] (suc count) within = absurd (omega arith)
at-range (version ∷ versions) (suc count) within =
    ap (λ rest. version ∷ rest) (at-shifted version versions count 0 ∙ at-range versions count (omega arith))

-- what passes a test, where nothing does behind the first
none-behind : (p : PlainVersion → Bool) (xs : List PlainVersion) → ((k : ℕ) → IfSome (slice_get xs k) (λ x. p x ≡ false)) → filter p xs ≡ []
none-behind p [] none = refl
none-behind p (x ∷ xs) none =
    ap (λ t. cond {A = List PlainVersion} t (x ∷ filter p xs) (filter p xs)) (none zero) ∙ none-behind p xs (λ k. none (suc k))

all-in-front : (p : PlainVersion → Bool) (xs : List PlainVersion) (count : ℕ)
    → ((k : ℕ) → count ≤ k → IfSome (slice_get xs k) (λ x. p x ≡ false)) → filter p (take count xs) ≡ filter p xs
all-in-front p xs zero none = sym (none-behind p xs (λ k. none k (omega arith)))
all-in-front p [] (suc count) none = refl
all-in-front p (x ∷ xs) (suc count) none =
    ap (λ rest. cond {A = List PlainVersion} (p x) (x ∷ rest) rest) (all-in-front p xs count (λ k past. none (suc k) (omega arith)))

-- a version that came after a snapshot is not seen
not-seen : (begin end snapshot : ℕ) → (begin ≤ snapshot → ⊥) → is_visible begin end snapshot ≡ false
not-seen begin end snapshot late = by_test (leb begin snapshot) refl
  where
    by_test : (t : Bool) → leb begin snapshot ≡ t → (t && (eqb end 0 || ltb snapshot end)) ≡ false
    by_test true is = absurd (late (leb-true begin snapshot is))
    by_test false is = refl

pub whole-extent : (store : Store) (query : Query) (snapshot extent : ℕ) → extent ≤ length store.versions
    → ((position : ℕ) → IfSome (slice_get store.versions position) (λ version. (version.begin ≤ snapshot) ↔ (position < extent)))
    → (folded : List ℕ) → IsPermutation folded (range_with_len 0 extent)
    → IsPermutation (kept_at store query snapshot folded) (kept store query snapshot)
whole-extent store query snapshot extent within came folded all =
    subst (IsPermutation (kept_at store query snapshot folded)) whole
    (kept_at-permutes store query snapshot folded (range_with_len 0 extent) all)
  where
    seen : PlainVersion → Bool
    seen version = is_visible version.begin version.end snapshot

    late : (k : ℕ) → extent ≤ k → IfSome (slice_get store.versions k) (λ version. seen version ≡ false)
    late k past = by_version (slice_get store.versions k) (came k)
      where
        by_version : (o : Option PlainVersion) → IfSome o (λ version. (version.begin ≤ snapshot) ↔ (k < extent)) → IfSome o (λ version. seen version ≡ false)
        by_version None fact = tt
        by_version (Some version) fact = not-seen version.begin version.end snapshot (λ early. let low = fact.0 early in absurd (omega arith))

    whole : kept_at store query snapshot (range_with_len 0 extent) ≡ kept store query snapshot
    whole =
        ap (λ versions. kept_of query (map (λ version. joined store query snapshot version.row) versions))
        (ap (filter seen) (at-range store.versions extent within) ∙ all-in-front seen store.versions extent late)
        ∙ ap (kept_of query) (sym (map-map (joined store query snapshot) (λ version. version.row) (filter seen store.versions)))
