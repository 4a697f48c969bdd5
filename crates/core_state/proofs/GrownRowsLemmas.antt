-- How the tables grow: rows come behind those of their dimension, versions behind the others, and versions are ended.
use Rattle.core_state.proofs.Words.{◌++◌, ◌+◌, ◌<◌, ◌∙◌, ◌∷◌, ◌≡◌, ◌≢◌, ◌≤◌, [], Accepts, after_change, All, All-head, All-map, All-nil, all_at, all_pairs_tail, AllPairs, ap, append-nil, arith, Change, Dimension, DimensionDeclared, DimensionRow, Ended, Fact, FactDeclared, IfSome, in_grown, is_visible, IsOfRows, length, length-append, List, Loaded, nat_tests, None, Option, PlainVersion, refl, rows_by, rows_in, slice_get, Some, still_live, Store, suc, sym, versions_by, with_end, with_ends, zero, ℕ}
use Rattle.star_values.specs.declared.value.Value as cell

-- a version keeps its row and the commit that began it, and is seen as before by the snapshots so far
pub record Stays (commits : ℕ) (before after : PlainVersion) : Type 0 where
  pub row : after.row ≡ before.row
  pub begin : after.begin ≡ before.begin
  pub seen : (snapshot : ℕ) → snapshot ≤ commits
      → is_visible after.begin after.end snapshot ≡ is_visible before.begin before.end snapshot

-- what stands at a position stays there
abbrev pub StaysThere : (commits : ℕ) → (before after : Option PlainVersion) → Type 0
StaysThere commits None None = Unit {0}
StaysThere commits None (Some after) = ⊥
StaysThere commits (Some before) None = ⊥
StaysThere commits (Some before) (Some after) = Stays commits before after

-- rows of a dimension that no snapshot so far sees, behind some rows
abbrev pub Behind : (commits : ℕ) → (before after : List DimensionRow) → Type 0
Behind commits before after =
    (more : List DimensionRow) × (after ≡ before ++ more) × All (λ entry. commits < entry.commit) more

-- tables that have grown: the schema is the same, versions stay where they are, and what is new came by a later commit
pub record Grows (before after : Store) : Type 0 where
  pub schema : after.schema ≡ before.schema
  pub commits : before.commits ≤ after.commits
  pub longer : length before.versions ≤ length after.versions
  pub old : (position : ℕ) → position < length before.versions
      → StaysThere before.commits (slice_get before.versions position) (slice_get after.versions position)
  pub new : (position : ℕ) → length before.versions ≤ position
      → IfSome (slice_get after.versions position) (λ version. before.commits < version.begin)
  pub rows : (dimension : ℕ) → Behind before.commits (rows_in before.dimensions dimension) (rows_in after.dimensions dimension)

stays : (commits : ℕ) (version : PlainVersion) → Stays commits version version
stays commits version = record { row = refl; begin = refl; seen = λ snapshot low. refl }

pub stays-there : (commits : ℕ) (o : Option PlainVersion) → StaysThere commits o o
stays-there commits None = tt
stays-there commits (Some version) = stays commits version

pub stays-next : (commits : ℕ) (first second third : Option PlainVersion) → StaysThere commits first second → StaysThere commits second third
    → StaysThere commits first third
stays-next commits None None None one other = tt
stays-next commits None None (Some version) one other = absurd other
stays-next commits None (Some version) third one other = absurd one
stays-next commits (Some version) None third one other = absurd one
stays-next commits (Some version) (Some next) None one other = absurd other
stays-next commits (Some version) (Some next) (Some last) one other = record {
  row = other.row ∙ one.row;
  begin = other.begin ∙ one.begin;
  seen = λ snapshot low. other.seen snapshot low ∙ one.seen snapshot low;
}

-- Versions that are ended.

ended-later : (begin end commit snapshot : ℕ) → snapshot < commit → end ≡ 0 → is_visible begin commit snapshot ≡ is_visible begin end snapshot
ended-later begin end commit snapshot later live = grind (arith, nat_tests)

abbrev IsLiveAt : List PlainVersion → ℕ → Type 0
IsLiveAt versions position = IfSome (slice_get versions position) (λ version. version.end ≡ 0)

end-stays : (commits commit : ℕ) (versions : List PlainVersion) (position : ℕ) → commits < commit → IsLiveAt versions position → (other : ℕ)
    → StaysThere commits (slice_get versions other) (slice_get (with_end commit versions position) other)
end-stays commits commit [] position later live other = tt
end-stays commits commit (version ∷ versions) zero later live zero = record {
  row = refl;
  begin = refl;
  seen = λ snapshot low. ended-later version.begin version.end commit snapshot (omega arith) live;
}
end-stays commits commit (version ∷ versions) zero later live (suc other) = stays-there commits (slice_get versions other)
end-stays commits commit (version ∷ versions) (suc position) later live zero = stays commits version
end-stays commits commit (version ∷ versions) (suc position) later live (suc other) =
    end-stays commits commit versions position later live other

ends-stay : (commits commit : ℕ) (versions : List PlainVersion) (positions : List ℕ) → commits < commit → All (IsLiveAt versions) positions
    → AllPairs (λ position other. position ≢ other) positions → (other : ℕ)
    → StaysThere commits (slice_get versions other) (slice_get (with_ends commit versions positions) other)
ends-stay commits commit versions [] later live apart other = stays-there commits (slice_get versions other)
ends-stay commits commit versions (position ∷ positions) later live apart other =
    stays-next commits (slice_get versions other) (slice_get (with_end commit versions position) other)
    (slice_get (with_ends commit versions (position ∷ positions)) other)
    (end-stays commits commit versions position later (All-head (IsLiveAt versions) position positions live) other)
    (ends-stay commits commit (with_end commit versions position) positions later
    (still_live commit versions position positions apart live)
    (all_pairs_tail (λ p q. p ≢ q) position positions apart) other)

length-with_end : (commit : ℕ) (versions : List PlainVersion) (position : ℕ) → length (with_end commit versions position) ≡ length versions
length-with_end commit [] position = refl
length-with_end commit (version ∷ versions) zero = refl
length-with_end commit (version ∷ versions) (suc position) = ap suc (length-with_end commit versions position)

length-with_ends : (commit : ℕ) (versions : List PlainVersion) (positions : List ℕ) → length (with_ends commit versions positions) ≡ length versions
length-with_ends commit versions [] = refl
length-with_ends commit versions (position ∷ positions) =
    length-with_ends commit (with_end commit versions position) positions ∙ length-with_end commit versions position

-- Versions that are loaded.

-- what holds of the elements at places of a list, and of all behind it, holds at the places of both
pub some-behind : {X : Type 0} (P : X → Type 0) (xs ys : List X) (place : ℕ) → IfSome (slice_get xs place) P → All P ys
    → IfSome (slice_get (xs ++ ys) place) P
some-behind P [] ys place here all = all_at P ys place all
some-behind P (x ∷ xs) ys zero here all = here
some-behind P (x ∷ xs) ys (suc place) here all = some-behind P xs ys place here all

pub past-end : {X : Type 0} (P : X → Type 0) (xs : List X) (place : ℕ) → length xs ≤ place → IfSome (slice_get xs place) P
past-end P [] place past = tt
past-end P (x ∷ xs) zero past = absurd (omega arith)
past-end P (x ∷ xs) (suc place) past = past-end P xs place (omega arith)

front-stays : (commits : ℕ) (versions more : List PlainVersion) (position : ℕ) → position < length versions
    → StaysThere commits (slice_get versions position) (slice_get (versions ++ more) position)
front-stays commits [] more position low = absurd (omega arith)
front-stays commits (version ∷ versions) more zero low = stays commits version
front-stays commits (version ∷ versions) more (suc position) low = front-stays commits versions more position (omega arith)

-- Tables after a change.

pub no-more : (commits : ℕ) (rows : List DimensionRow) → Behind commits rows rows
no-more commits rows = ([], sym (append-nil rows), All-nil (λ entry. commits < entry.commit))

rows-loaded : (store : Store) (dimension : ℕ) (rows : List (List cell.Value)) → Grows store (after_change store (Loaded (Dimension dimension) rows))
rows-loaded store dimension rows = record {
  schema = refl;
  commits = omega arith;
  longer = omega arith;
  old = λ position low. stays-there store.commits (slice_get store.versions position);
  new = λ position past. past-end (λ version. store.commits < version.begin) store.versions position past;
  rows = λ other.
      let more : List DimensionRow = rows_by (store.commits + 1) rows in
      in_grown (Behind store.commits (rows_in store.dimensions other)) store.dimensions dimension other more
      (no-more store.commits (rows_in store.dimensions other))
      (λ same. (
        more,
        refl,
        All-map (λ entry. store.commits < entry.commit)
            (λ (row : List cell.Value). record { row = row; commit = store.commits + 1 }) rows (λ k d low. omega arith),
      ));
}

facts-loaded : (store : Store) (rows : List (List cell.Value)) → Grows store (after_change store (Loaded Fact rows))
facts-loaded store rows =
    let more : List PlainVersion = versions_by (store.commits + 1) rows in
    record {
      schema = refl;
      commits = omega arith;
      longer = omega (arith, length-append store.versions more);
      old = front-stays store.commits store.versions more;
      new = λ position past. some-behind (λ version. store.commits < version.begin) store.versions more position
          (past-end (λ version. store.commits < version.begin) store.versions position past)
          (All-map (λ version. store.commits < version.begin)
          (λ (row : List cell.Value). record { row = row; begin = store.commits + 1; end = 0 }) rows (λ k d low. omega arith));
      rows = λ dimension. no-more store.commits (rows_in store.dimensions dimension);
    }

versions-ended : (store : Store) (positions : List ℕ) → Accepts store (Ended positions) → Grows store (after_change store (Ended positions))
versions-ended store positions accepted =
    let commit = store.commits + 1 in
    let count = length-with_ends commit store.versions positions in
    record {
      schema = refl;
      commits = omega arith;
      longer = omega arith;
      old = λ position low. ends-stay store.commits commit store.versions positions (omega arith) accepted.live accepted.apart position;
      new = λ position past.
          past-end (λ version. store.commits < version.begin) (with_ends commit store.versions positions) position (omega arith);
      rows = λ dimension. no-more store.commits (rows_in store.dimensions dimension);
    }

-- the tables grow by a load and by a delete
pub grows-by : (store : Store) (change : Change) → IsOfRows change → Accepts store change → Grows store (after_change store change)
grows-by store (DimensionDeclared table) of_rows accepted = absurd of_rows
grows-by store (FactDeclared table) of_rows accepted = absurd of_rows
grows-by store (Loaded Fact rows) of_rows accepted = facts-loaded store rows
grows-by store (Loaded (Dimension dimension) rows) of_rows accepted = rows-loaded store dimension rows
grows-by store (Ended positions) of_rows accepted = versions-ended store positions accepted
