-- A change that comes after a snapshot is not seen there.
use Rattle.std.proofs.Common.{◌≡◌, ℕ, zero, suc, ◌+◌, ◌<◌, ◌≤◌, Bool, true, false, cond, nat_le, List, [], ◌∷◌, ◌++◌, map, Option, Some, None, is_some, Result, Ok, Err, slice_get, refl, ap, sym, subst, ◌∙◌, arith}
use Rattle.std.specs.Prelude.{◌≢◌, IfSome}
use Rattle.std.specs.List.{All, AllPairs, filter, find}
use Rattle.std.specs.Option.{option_map_or, option_or}
use Rattle.std.proofs.lemmas.Bool.Decides.{nat_tests}
use Rattle.std.proofs.lemmas.List.{append-nil}
use Rattle.std.proofs.lemmas.List.Elements.{All-head, All-tail, filter-append}
use Rattle.std.proofs.lemmas.List.Folds.{find-append}
use Rattle.star_values.specs.declared.refusal.Refusal.{Refusal}
use Rattle.star_values.specs.declared.refusal.Refusal.TheVariants.{OutOfOrder}
use Rattle.star_values.specs.declared.value.Value as cell
use Rattle.star_plan.specs.declared.table.Table.TheVariants.{Fact, Dimension}
use Rattle.star_plan.specs.declared.table_def.TableDef.{TableDef}
use Rattle.star_plan.specs.Joined.{kept_of}
use Rattle.star_plan.specs.Test.{Query}
use Rattle.star_plan.specs.Declaration.{declared_fact}
use Rattle.fact_versions.specs.Visible.{is_visible}
use Rattle.dimension_rows.specs.declared.dimension_row.DimensionRow.{DimensionRow}
use Rattle.query_meaning.specs.Accepted.{Accepts}
use Rattle.query_meaning.specs.Alone.{foreign_key, is_matched, joined, joined_row, joined_with, kept, row_of_key, visible_rows}
use Rattle.query_meaning.specs.History.{Change, DimensionDeclared, FactDeclared, Loaded, Ended, after_change, grown_at, rows_by, versions_by, with_end, with_ends}
use Rattle.query_meaning.specs.Settled.{IsSettled}
use Rattle.query_meaning.specs.Store.{PlainVersion, Store, rows_in}
use Rattle.query_meaning.proofs.ApartLemmas.{all_pairs_head, all_pairs_tail}

-- Versions.

abbrev seen : (snapshot : ℕ) → PlainVersion → Bool
seen snapshot version = is_visible version.begin version.end snapshot

abbrev rows_of_plain : List PlainVersion → List (List cell.Value)
rows_of_plain versions = map (λ version. version.row) versions

abbrev rows_seen : (snapshot : ℕ) → List PlainVersion → List (List cell.Value)
rows_seen snapshot versions = rows_of_plain (filter (seen snapshot) versions)

begun_later : (begin end snapshot : ℕ) → snapshot < begin → is_visible begin end snapshot ≡ false
begun_later begin end snapshot later = grind (arith, nat_tests)

ended_later : (begin end commit snapshot : ℕ) → snapshot < commit → end ≡ 0 → is_visible begin commit snapshot ≡ is_visible begin end snapshot
ended_later begin end commit snapshot later live = grind (arith, nat_tests)

new_unseen : (snapshot commit : ℕ) (rows : List (List cell.Value)) → snapshot < commit → filter (seen snapshot) (versions_by commit rows) ≡ []
new_unseen snapshot commit [] later = refl
new_unseen snapshot commit (row ∷ rows) later = rw (begun_later commit 0 snapshot later) (new_unseen snapshot commit rows later)

seen_with_more : (snapshot commit : ℕ) (versions : List PlainVersion) (rows : List (List cell.Value)) → snapshot < commit
    → rows_seen snapshot (versions ++ versions_by commit rows) ≡ rows_seen snapshot versions
seen_with_more snapshot commit versions rows later =
    ap rows_of_plain (filter-append (seen snapshot) versions (versions_by commit rows)
    ∙ ap (λ more. filter (seen snapshot) versions ++ more) (new_unseen snapshot commit rows later)
    ∙ append-nil (filter (seen snapshot) versions))

-- the rows are the same where the end of the first is not the same
same_first : (is : Bool) (version : PlainVersion) (commit : ℕ) (rest : List PlainVersion)
    → rows_of_plain (cond is (record version { end = commit } ∷ rest) rest) ≡ rows_of_plain (cond is (version ∷ rest) rest)
same_first true version commit rest = refl
same_first false version commit rest = refl

same_rest : (is : Bool) (version : PlainVersion) (rest others : List PlainVersion) → rows_of_plain rest ≡ rows_of_plain others
    → rows_of_plain (cond is (version ∷ rest) rest) ≡ rows_of_plain (cond is (version ∷ others) others)
same_rest true version rest others same = ap (λ rows. version.row ∷ rows) same
same_rest false version rest others same = same

abbrev IsLiveAt : List PlainVersion → ℕ → Type 0
IsLiveAt versions position = IfSome (slice_get versions position) (λ version. version.end ≡ 0)

seen_with_end : (snapshot commit : ℕ) (versions : List PlainVersion) (position : ℕ) → snapshot < commit → IsLiveAt versions position
    → rows_seen snapshot (with_end commit versions position) ≡ rows_seen snapshot versions
seen_with_end snapshot commit [] position later live = refl
seen_with_end snapshot commit (version ∷ versions) zero later live =
    let rest = filter (seen snapshot) versions in
    ap (λ is. rows_of_plain (cond is (record version { end = commit } ∷ rest) rest)) (ended_later version.begin version.end commit snapshot later live)
    ∙ same_first (seen snapshot version) version commit rest
seen_with_end snapshot commit (version ∷ versions) (suc position) later live =
    same_rest (seen snapshot version) version (filter (seen snapshot) (with_end commit versions position)) (filter (seen snapshot) versions)
    (seen_with_end snapshot commit versions position later live)

pub other_with_end : (commit : ℕ) (versions : List PlainVersion) (position other : ℕ) → other ≢ position
    → slice_get (with_end commit versions position) other ≡ slice_get versions other
other_with_end commit [] position other differ = refl
other_with_end commit (version ∷ versions) zero zero differ = absurd (differ refl)
other_with_end commit (version ∷ versions) zero (suc other) differ = refl
other_with_end commit (version ∷ versions) (suc position) zero differ = refl
other_with_end commit (version ∷ versions) (suc position) (suc other) differ =
    other_with_end commit versions position other (λ same. differ (ap suc same))

-- the others are live as before
pub still_live : (commit : ℕ) (versions : List PlainVersion) (position : ℕ) (positions : List ℕ) → AllPairs ◌≢◌ (position ∷ positions)
    → All (IsLiveAt versions) (position ∷ positions) → All (IsLiveAt (with_end commit versions position)) positions
still_live commit versions position positions apart live k d low =
    let other = all_pairs_head ◌≢◌ position positions apart k d low in
    subst (λ version. IfSome version (λ v. v.end ≡ 0))
    (sym (other_with_end commit versions position _ (λ same. other (sym same))))
    (All-tail (IsLiveAt versions) position positions live k d low)

seen_with_ends : (snapshot commit : ℕ) (versions : List PlainVersion) (positions : List ℕ) → snapshot < commit
    → All (IsLiveAt versions) positions → AllPairs ◌≢◌ positions
    → rows_seen snapshot (with_ends commit versions positions) ≡ rows_seen snapshot versions
seen_with_ends snapshot commit versions [] later live apart = refl
seen_with_ends snapshot commit versions (position ∷ positions) later live apart =
    seen_with_ends snapshot commit (with_end commit versions position) positions later
    (still_live commit versions position positions apart live) (all_pairs_tail ◌≢◌ position positions apart)
    ∙ seen_with_end snapshot commit versions position later (All-head (IsLiveAt versions) position positions live)

-- Rows of dimensions.

unmatched : (snapshot commit : ℕ) (key : cell.Value) (row : List cell.Value) → snapshot < commit
    → is_matched snapshot key (record { row = row; commit = commit }) ≡ false
unmatched snapshot commit key row later =
    let late : nat_le commit snapshot ≡ false = grind (arith, nat_tests) in rw late refl

new_unmatched : (snapshot commit : ℕ) (key : cell.Value) (rows : List (List cell.Value)) → snapshot < commit
    → find (is_matched snapshot key) (rows_by commit rows) ≡ None
new_unmatched snapshot commit key [] later = refl
new_unmatched snapshot commit key (row ∷ rows) later =
    rw (unmatched snapshot commit key row later) (new_unmatched snapshot commit key rows later)

or_none : {A : Type 0} (option : Option A) → option_or option None ≡ option
or_none None = refl
or_none (Some x) = refl

matched_with_more : (snapshot commit : ℕ) (key : cell.Value) (rows : List DimensionRow) (more : List (List cell.Value)) → snapshot < commit
    → row_of_key (rows ++ rows_by commit more) snapshot key ≡ row_of_key rows snapshot key
matched_with_more snapshot commit key rows more later =
    ap (λ found. option_map_or (λ entry. entry.row) found [])
    (find-append (is_matched snapshot key) rows (rows_by commit more)
    ∙ ap (option_or (find (is_matched snapshot key) rows)) (new_unmatched snapshot commit key more later)
    ∙ or_none (find (is_matched snapshot key) rows))

matched_in_grown : (snapshot commit : ℕ) (key : cell.Value) (dimensions : List (List DimensionRow)) (grown dimension : ℕ) (more : List (List cell.Value))
    → snapshot < commit
    → row_of_key (rows_in (grown_at grown (rows_by commit more) dimensions) dimension) snapshot key
    ≡ row_of_key (rows_in dimensions dimension) snapshot key
matched_in_grown snapshot commit key [] grown dimension more later = refl
matched_in_grown snapshot commit key (rows ∷ dimensions) zero zero more later = matched_with_more snapshot commit key rows more later
matched_in_grown snapshot commit key (rows ∷ dimensions) zero (suc dimension) more later = refl
matched_in_grown snapshot commit key (rows ∷ dimensions) (suc grown) zero more later = refl
matched_in_grown snapshot commit key (rows ∷ dimensions) (suc grown) (suc dimension) more later =
    matched_in_grown snapshot commit key dimensions grown dimension more later

pub rows_in_declared : (dimensions : List (List DimensionRow)) (dimension : ℕ) → rows_in (dimensions ++ [] ∷ []) dimension ≡ rows_in dimensions dimension
rows_in_declared [] zero = refl
rows_in_declared [] (suc dimension) = refl
rows_in_declared (rows ∷ dimensions) zero = refl
rows_in_declared (rows ∷ dimensions) (suc dimension) = rows_in_declared dimensions dimension

-- Joined rows.

same_joined_row : (f g : cell.Value → List cell.Value) (key : Option cell.Value) → ((k : cell.Value) → f k ≡ g k)
    → option_map_or f key [] ≡ option_map_or g key []
same_joined_row f g None same = refl
same_joined_row f g (Some key) same = same key

-- where each row is joined with the same rows, and the same rows are seen, the same are kept
same_kept : (query : Query) (rows others : List (List cell.Value)) (f g : List cell.Value → ℕ → List cell.Value)
    → ((row : List cell.Value) (dimension : ℕ) → f row dimension ≡ g row dimension) → rows ≡ others
    → kept_of query (map (λ row. joined_with query row (f row)) rows) ≡ kept_of query (map (λ row. joined_with query row (g row)) others)
same_kept query rows others f g same_row same_rows =
    λ i. kept_of query (map (λ row. joined_with query row (λ dimension. same_row row dimension i)) (same_rows i))

no_rows : (query : Query) (rows : List (List cell.Value)) (f g : List cell.Value → ℕ → List cell.Value) → rows ≡ []
    → kept_of query (map (λ row. joined_with query row (f row)) rows) ≡ kept_of query (map (λ row. joined_with query row (g row)) rows)
no_rows query rows f g none =
    ap (λ seen. kept_of query (map (λ row. joined_with query row (f row)) seen)) none
    ∙ sym (ap (λ seen. kept_of query (map (λ row. joined_with query row (g row)) seen)) none)

-- The fact table is declared once.

first_by : (is : Bool) (rest : Result TableDef Refusal) (table : TableDef) → cond {A = Result TableDef Refusal} is (Err OutOfOrder) rest ≡ Ok table → is ≡ false
first_by true rest table e = cc
first_by false rest table e = refl

none_by : (fact : Option TableDef) → is_some fact ≡ false → fact ≡ None
none_by None is = refl
none_by (Some table) is = cc

pub undeclared : (store : Store) (table : TableDef) → declared_fact store.schema table ≡ Ok table → store.schema.fact ≡ None
undeclared store table accepted = none_by store.schema.fact (first_by (is_some store.schema.fact) _ table accepted)

-- the same rows are seen
pub seen_before : (store : Store) (change : Change) (snapshot : ℕ) → Accepts store change → snapshot ≤ store.commits
    → visible_rows (after_change store change) snapshot ≡ visible_rows store snapshot
seen_before store (DimensionDeclared table) snapshot accepted low = refl
seen_before store (FactDeclared table) snapshot accepted low = refl
seen_before store (Loaded Fact rows) snapshot accepted low = seen_with_more snapshot (store.commits + 1) store.versions rows (omega arith)
seen_before store (Loaded (Dimension dimension) rows) snapshot accepted low = refl
seen_before store (Ended positions) snapshot accepted low =
    seen_with_ends snapshot (store.commits + 1) store.versions positions (omega arith) accepted.live accepted.apart

-- the same rows are kept
pub kept_before : (store : Store) (change : Change) (query : Query) (snapshot : ℕ) → IsSettled store → Accepts store change → snapshot ≤ store.commits
    → kept (after_change store change) query snapshot ≡ kept store query snapshot
kept_before store (DimensionDeclared table) query snapshot settled accepted low =
    same_kept query (visible_rows store snapshot) (visible_rows store snapshot)
    (λ row. joined_row (after_change store (DimensionDeclared table)) snapshot row) (λ row. joined_row store snapshot row)
    (λ row dimension. ap (λ rows. option_map_or (row_of_key rows snapshot) (foreign_key store.schema dimension row) [])
    (rows_in_declared store.dimensions dimension))
    refl
kept_before store (FactDeclared table) query snapshot settled accepted low =
    let none : store.versions ≡ [] = (settled.first_rows (undeclared store table accepted.0)).1 in
    no_rows query (visible_rows store snapshot)
    (λ row. joined_row (after_change store (FactDeclared table)) snapshot row) (λ row. joined_row store snapshot row)
    (ap (rows_seen snapshot) none)
kept_before store (Loaded Fact rows) query snapshot settled accepted low =
    ap (λ seen. kept_of query (map (joined store query snapshot) seen)) (seen_before store (Loaded Fact rows) snapshot accepted low)
kept_before store (Loaded (Dimension grown) rows) query snapshot settled accepted low =
    same_kept query (visible_rows store snapshot) (visible_rows store snapshot)
    (λ row. joined_row (after_change store (Loaded (Dimension grown) rows)) snapshot row) (λ row. joined_row store snapshot row)
    (λ row dimension. same_joined_row
    (row_of_key (rows_in (grown_at grown (rows_by (store.commits + 1) rows) store.dimensions) dimension) snapshot)
    (row_of_key (rows_in store.dimensions dimension) snapshot) (foreign_key store.schema dimension row)
    (λ key. matched_in_grown snapshot (store.commits + 1) key store.dimensions grown dimension rows (omega arith)))
    refl
kept_before store (Ended positions) query snapshot settled accepted low =
    ap (λ seen. kept_of query (map (joined store query snapshot) seen)) (seen_before store (Ended positions) snapshot accepted low)
