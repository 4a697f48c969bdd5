-- What is kept of the accepted queries stays sound where the tables grow.
use Rattle.core_state.proofs.Words.{◌++◌, ◌<◌, ◌↔◌, ◌∙◌, ◌∷◌, ◌≡◌, ◌≤◌, [], Accepted, All, All-head, All-permutation, All-tail, ap, append_assoc, AreSoundQueries, arith, Bool, cases_lt, cond, cons_option, Entry, false, filter, flat_map, get_or, get_or-range_with_len, grouped_of, IfSome, IfSome_then, inl, inr, is_open, is_visible, IsAnswer, IsCovered, IsKept, IsOver, IsPermutation, IsPermutation-sym, IsSoundQuery, IsTrue, Joined, joined, kept, kept_at, length, length-range_with_len, Life, List, map, None, Option, PlainVersion, positions_for, Query, query_in, range_with_len, refl, slice_get, Some, State, Store, subst, sym, tables_by, tables_of, to_come, true, versions_at, versions_in, ℕ, ⊎_elim}
use Rattle.star_plan.specs.Joined.{kept_of}
use Rattle.pipeline_manager.specs.declared.life.Life.TheVariants as life
use Rattle.query_meaning.proofs.LoadedLemmas.{all_front}
use Rattle.core_state.proofs.FoundLemmas.{both-some}
use Rattle.core_state.proofs.GrownFilterLemmas.{entered}
use Rattle.core_state.proofs.GrownKeyLemmas.{version-joined}
use Rattle.core_state.proofs.GrownRowsLemmas.{Grows, StaysThere}

-- What positions give.

-- the joined rows of versions that a snapshot sees
abbrev rows_seen : Store → Query → (snapshot : ℕ) → List PlainVersion → List Joined
rows_seen store query snapshot versions =
    map (λ version. joined store query snapshot version.row) (filter (λ version. is_visible version.begin version.end snapshot) versions)

-- one version more, which stays, is seen or is not, and joins the same row
seen-more : (before after : Store) (query : Query) (snapshot : ℕ) → Grows before after → snapshot ≤ before.commits
    → (old new : Option PlainVersion) (versions others : List PlainVersion) → StaysThere before.commits old new
    → rows_seen after query snapshot others ≡ rows_seen before query snapshot versions
    → rows_seen after query snapshot (cons_option new others) ≡ rows_seen before query snapshot (cons_option old versions)
seen-more before after query snapshot grows low None None versions others stays rest = rest
seen-more before after query snapshot grows low None (Some now) versions others stays rest = absurd stays
seen-more before after query snapshot grows low (Some version) None versions others stays rest = absurd stays
seen-more before after query snapshot grows low (Some version) (Some now) versions others stays rest =
    ap (λ t. map (λ v. joined after query snapshot v.row) (cond {A = List PlainVersion} t (now ∷ filter seen others) (filter seen others)))
    (stays.seen snapshot low)
    ∙ by_test (seen version)
  where
    seen : PlainVersion → Bool
    seen v = is_visible v.begin v.end snapshot

    by_test : (t : Bool)
        → map (λ v. joined after query snapshot v.row) (cond {A = List PlainVersion} t (now ∷ filter seen others) (filter seen others))
        ≡ map (λ v. joined before query snapshot v.row) (cond {A = List PlainVersion} t (version ∷ filter seen versions) (filter seen versions))
    by_test true = λ i. version-joined before after query snapshot version now grows low stays i ∷ rest i
    by_test false = rest

positions-seen : (before after : Store) (query : Query) (snapshot : ℕ) → Grows before after → snapshot ≤ before.commits → (positions : List ℕ)
    → All (λ position. position < length before.versions) positions
    → rows_seen after query snapshot (versions_at positions after.versions) ≡ rows_seen before query snapshot (versions_at positions before.versions)
positions-seen before after query snapshot grows low [] all = refl
positions-seen before after query snapshot grows low (position ∷ positions) all =
    seen-more before after query snapshot grows low (slice_get before.versions position) (slice_get after.versions position)
    (versions_at positions before.versions) (versions_at positions after.versions)
    (grows.old position (All-head (λ p. p < length before.versions) position positions all))
    (positions-seen before after query snapshot grows low positions (All-tail (λ p. p < length before.versions) position positions all))

-- positions of the table as it was give at a snapshot so far what they gave
pub kept_at-stays : (before after : Store) (query : Query) (snapshot : ℕ) → Grows before after → snapshot ≤ before.commits → (positions : List ℕ)
    → All (λ position. position < length before.versions) positions
    → kept_at after query snapshot positions ≡ kept_at before query snapshot positions
kept_at-stays before after query snapshot grows low positions all =
    ap (kept_of query) (positions-seen before after query snapshot grows low positions all)

-- Accepted queries.

-- the positions below an extent are below it
range-low : (extent count : ℕ) → extent ≤ count → All (λ position. position < count) (range_with_len 0 extent)
range-low extent count low = λ k d within.
    let inside : k < extent = omega (arith, length-range_with_len 0 extent) in
    let at = get_or-range_with_len 0 extent k d inside in
    omega arith

folded-low : (folded rest : List ℕ) (extent count : ℕ) → extent ≤ count → IsPermutation (folded ++ rest) (range_with_len 0 extent)
    → All (λ position. position < count) folded
folded-low folded rest extent count low same =
    all_front (λ position. position < count) folded rest
    (All-permutation (λ position. position < count) (range_with_len 0 extent) (folded ++ rest)
    (IsPermutation-sym (folded ++ rest) (range_with_len 0 extent) same) (range-low extent count low))

-- what is kept at the snapshot of an accepted query is kept where the tables grow
abbrev pub KeepsKept : Store → Store → Type 0
KeepsKept before after = (query : Query) (snapshot : ℕ) → snapshot ≤ before.commits → kept after query snapshot ≡ kept before query snapshot

covered-grown : (state : State) (entries : List Entry) → Grows (tables_of state) (tables_by entries) → (accepted : Accepted) (extent : ℕ) (now : Life)
    → accepted.snapshot ≤ (tables_of state).commits → extent ≤ versions_in state → IsCovered (tables_of state) state.scan accepted extent now
    → IsCovered (tables_by entries) state.scan accepted extent now
covered-grown state entries grows accepted extent now low within old = record {
  folded = old.folded;
  each_once = old.each_once;
  next = old.next;
  groups = old.groups ∙ ap (λ rows. Some (grouped_of accepted.query rows))
      (sym (kept_at-stays (tables_of state) (tables_by entries) accepted.query accepted.snapshot grows low old.folded
      (folded-low old.folded (flat_map (positions_for accepted.number extent) state.scan.flights ++ to_come extent now) extent
      (versions_in state) within (subst (λ all. IsPermutation all (range_with_len 0 extent)) bracket old.each_once))));
}
  where
    bracket : (old.folded ++ flat_map (positions_for accepted.number extent) state.scan.flights) ++ to_come extent now
        ≡ old.folded ++ (flat_map (positions_for accepted.number extent) state.scan.flights ++ to_come extent now)
    bracket = append_assoc old.folded (flat_map (positions_for accepted.number extent) state.scan.flights) (to_come extent now)

answer-grown : (state : State) (entries : List Entry) → KeepsKept (tables_of state) (tables_by entries) → (accepted : Accepted)
    → accepted.snapshot ≤ (tables_of state).commits → IsAnswer (tables_of state) accepted → IsAnswer (tables_by entries) accepted
answer-grown state entries keeps accepted low old = record {
  rows = old.rows;
  all = subst (IsPermutation old.rows) (sym (keeps accepted.query accepted.snapshot low)) old.all;
  groups = old.groups;
}

kept-grown : (state : State) (entries : List Entry) → Grows (tables_of state) (tables_by entries) → KeepsKept (tables_of state) (tables_by entries)
    → (accepted : Accepted) (extent : ℕ) (now : Life) → accepted.snapshot ≤ (tables_of state).commits → extent ≤ versions_in state
    → IsKept (tables_of state) state.seats state.scan accepted extent now → IsKept (tables_by entries) state.seats state.scan accepted extent now
kept-grown state entries grows keeps accepted extent (life.Running start left) low within old =
    covered-grown state entries grows accepted extent (life.Running start left) low within old
kept-grown state entries grows keeps accepted extent life.Ending low within old =
    covered-grown state entries grows accepted extent life.Ending low within old
kept-grown state entries grows keeps accepted extent life.Answered low within old =
    ⊎_elim (λ none. inl none) (λ answer. inr (answer-grown state entries keeps accepted low answer)) old
kept-grown state entries grows keeps accepted extent other low within old = old

-- a version came by a snapshot where it stands in the extent
abbrev CameBy : (snapshot extent position : ℕ) → PlainVersion → Type 0
CameBy snapshot extent position version = (version.begin ≤ snapshot) ↔ (position < extent)

came-there : (commits snapshot extent position : ℕ) (old new : Option PlainVersion) → StaysThere commits old new
    → IfSome old (CameBy snapshot extent position) → IfSome new (CameBy snapshot extent position)
came-there commits snapshot extent position None None stays came = tt
came-there commits snapshot extent position None (Some now) stays came = absurd stays
came-there commits snapshot extent position (Some version) None stays came = tt
came-there commits snapshot extent position (Some version) (Some now) stays came =
    subst (λ begin. (begin ≤ snapshot) ↔ (position < extent)) (sym stays.begin) came

came-grown : (before after : Store) (snapshot extent : ℕ) → Grows before after → snapshot ≤ before.commits → extent ≤ length before.versions
    → ((position : ℕ) → IfSome (slice_get before.versions position) (CameBy snapshot extent position))
    → (position : ℕ) → IfSome (slice_get after.versions position) (CameBy snapshot extent position)
came-grown before after snapshot extent grows low within came position = ⊎_elim
    (λ inside. came-there before.commits snapshot extent position (slice_get before.versions position) (slice_get after.versions position)
    (grows.old position inside) (came position))
    (λ past. IfSome_then (slice_get after.versions position) (grows.new position past)
    (λ version later. (λ early. absurd (omega arith), λ inside. absurd (omega arith))))
    (cases_lt position (length before.versions))

query-grown : (state : State) (entries : List Entry) → Grows (tables_of state) (tables_by entries) → KeepsKept (tables_of state) (tables_by entries)
    → (accepted : Accepted) → IsSoundQuery state accepted → IsSoundQuery (entered state entries) accepted
query-grown state entries grows keeps accepted old = record {
  number = old.number;
  over = subst (λ schema. IsOver schema accepted.query) (sym grows.schema) old.over;
  snapshot = let low = old.snapshot in let more = grows.commits in omega arith;
  within = IfSome_then (query_in state.lives.queries accepted.number) old.within
      (λ entry within. let longer = grows.longer in omega arith);
  kept = both-some (λ entry. entry.extent ≤ versions_in state) (λ entry. IsKept (tables_of state) state.seats state.scan accepted entry.extent entry.life)
      (λ entry. IsKept (tables_by entries) state.seats state.scan accepted entry.extent entry.life) (query_in state.lives.queries accepted.number)
      (λ entry. kept-grown state entries grows keeps accepted entry.extent entry.life old.snapshot) old.within old.kept;
  extent = both-some (λ entry. entry.extent ≤ versions_in state)
      (λ entry. IsTrue (is_open entry.life) → (position : ℕ)
      → IfSome (slice_get (tables_of state).versions position) (CameBy accepted.snapshot entry.extent position))
      (λ entry. IsTrue (is_open entry.life) → (position : ℕ)
      → IfSome (slice_get (tables_by entries).versions position) (CameBy accepted.snapshot entry.extent position))
      (query_in state.lives.queries accepted.number)
      (λ entry within came open_now.
      came-grown (tables_of state) (tables_by entries) accepted.snapshot entry.extent grows old.snapshot within (came open_now))
      old.within old.extent;
}

pub queries-grown : (state : State) (entries : List Entry) → Grows (tables_of state) (tables_by entries)
    → KeepsKept (tables_of state) (tables_by entries) → AreSoundQueries state → AreSoundQueries (entered state entries)
queries-grown state entries grows keeps old = record {
  same = old.same;
  each = λ k d low. query-grown state entries grows keeps (get_or state.accepted k d) (old.each k d low);
}
