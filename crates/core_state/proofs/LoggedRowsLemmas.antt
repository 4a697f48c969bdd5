-- The rows that a commit loaded are told by its number.
use Rattle.core_state.proofs.Words.{◌++◌, ◌<◌, ◌==◌, ◌∙◌, ◌∷◌, ◌≡◌, ◌≢◌, [], All, All-head, All-tail, ap, append-nil, arith, Bool, cond, DimensionRow, facts_loaded_by, false, filter, filter-append, List, map, map-append, PlainVersion, refl, rows_by, rows_loaded_by, suc, true, versions_by, with_end, with_ends, zero, ℕ}
use Rattle.star_values.specs.declared.value.Value as cell
use Rattle.core_state.proofs.LoggedNumberLemmas.{other-number, same-number}

-- what was made of some rows by a commit
abbrev Makes : {X : Type 0} (row_of : X → List cell.Value) (commit_of : X → ℕ) (make : ℕ → List cell.Value → X) → Type 0
Makes row_of commit_of make = (commit : ℕ) (row : List cell.Value) → (row_of (make commit row) ≡ row) × (commit_of (make commit row) ≡ commit)

abbrev loaded-by : {X : Type 0} (row_of : X → List cell.Value) (commit_of : X → ℕ) (commit : ℕ) → List X → List (List cell.Value)
loaded-by row_of commit_of commit entries = map row_of (filter (λ entry. commit_of entry == commit) entries)

loaded-append : {X : Type 0} (row_of : X → List cell.Value) (commit_of : X → ℕ) (commit : ℕ) (entries more : List X)
    → loaded-by row_of commit_of commit (entries ++ more) ≡ loaded-by row_of commit_of commit entries ++ loaded-by row_of commit_of commit more
loaded-append row_of commit_of commit entries more =
    ap (λ kept. map row_of kept) (filter-append (λ entry. commit_of entry == commit) entries more)
    ∙ map-append row_of (filter (λ entry. commit_of entry == commit) entries) (filter (λ entry. commit_of entry == commit) more)

loaded-none : {X : Type 0} (row_of : X → List cell.Value) (commit_of : X → ℕ) (commit : ℕ) (entries : List X)
    → All (λ entry. commit_of entry ≢ commit) entries → loaded-by row_of commit_of commit entries ≡ []
loaded-none row_of commit_of commit [] others = refl
loaded-none row_of commit_of commit (entry ∷ entries) others =
    rw (other-number (commit_of entry) commit (All-head (λ e. commit_of e ≢ commit) entry entries others))
    (loaded-none row_of commit_of commit entries (All-tail (λ e. commit_of e ≢ commit) entry entries others))

loaded-all : {X : Type 0} (row_of : X → List cell.Value) (commit_of : X → ℕ) (make : ℕ → List cell.Value → X) → Makes row_of commit_of make
    → (commit : ℕ) (rows : List (List cell.Value)) → loaded-by row_of commit_of commit (map (make commit) rows) ≡ rows
loaded-all row_of commit_of make makes commit [] = refl
loaded-all row_of commit_of make makes commit (row ∷ rows) =
    rw (ap (λ n. n == commit) (makes commit row).1 ∙ same-number commit)
    (λ i. (makes commit row).0 i ∷ loaded-all row_of commit_of make makes commit rows i)

loaded-other : {X : Type 0} (row_of : X → List cell.Value) (commit_of : X → ℕ) (make : ℕ → List cell.Value → X) → Makes row_of commit_of make
    → (commit later : ℕ) (rows : List (List cell.Value)) → commit < later → loaded-by row_of commit_of commit (map (make later) rows) ≡ []
loaded-other row_of commit_of make makes commit later [] low = refl
loaded-other row_of commit_of make makes commit later (row ∷ rows) low =
    rw (ap (λ n. n == commit) (makes later row).1 ∙ other-number later commit (λ same. absurd (omega arith)))
    (loaded-other row_of commit_of make makes commit later rows low)

loaded-new : {X : Type 0} (row_of : X → List cell.Value) (commit_of : X → ℕ) (make : ℕ → List cell.Value → X) → Makes row_of commit_of make
    → (commit : ℕ) (entries : List X) (rows : List (List cell.Value)) → All (λ entry. commit_of entry ≢ commit) entries
    → loaded-by row_of commit_of commit (entries ++ map (make commit) rows) ≡ rows
loaded-new row_of commit_of make makes commit entries rows others =
    loaded-append row_of commit_of commit entries (map (make commit) rows)
    ∙ ap (λ front. front ++ loaded-by row_of commit_of commit (map (make commit) rows)) (loaded-none row_of commit_of commit entries others)
    ∙ loaded-all row_of commit_of make makes commit rows

loaded-later : {X : Type 0} (row_of : X → List cell.Value) (commit_of : X → ℕ) (make : ℕ → List cell.Value → X) → Makes row_of commit_of make
    → (commit later : ℕ) (entries : List X) (rows : List (List cell.Value)) → commit < later
    → loaded-by row_of commit_of commit (entries ++ map (make later) rows) ≡ loaded-by row_of commit_of commit entries
loaded-later row_of commit_of make makes commit later entries rows low =
    loaded-append row_of commit_of commit entries (map (make later) rows)
    ∙ ap (λ back. loaded-by row_of commit_of commit entries ++ back) (loaded-other row_of commit_of make makes commit later rows low)
    ∙ append-nil (loaded-by row_of commit_of commit entries)

-- Rows of dimensions.

abbrev row-by : ℕ → List cell.Value → DimensionRow
row-by commit row = record { row = row; commit = commit }

pub rows-new : (commit : ℕ) (rows : List DimensionRow) (more : List (List cell.Value)) → All (λ entry. entry.commit ≢ commit) rows
    → rows_loaded_by commit (rows ++ rows_by commit more) ≡ more
rows-new = loaded-new (λ entry. entry.row) (λ entry. entry.commit) row-by (λ commit row. (refl, refl))

pub rows-later : (commit later : ℕ) (rows : List DimensionRow) (more : List (List cell.Value)) → commit < later
    → rows_loaded_by commit (rows ++ rows_by later more) ≡ rows_loaded_by commit rows
rows-later = loaded-later (λ entry. entry.row) (λ entry. entry.commit) row-by (λ commit row. (refl, refl))

-- Versions.

abbrev version-by : ℕ → List cell.Value → PlainVersion
version-by commit row = record { row = row; begin = commit; end = 0 }

pub facts-new : (commit : ℕ) (versions : List PlainVersion) (more : List (List cell.Value)) → All (λ version. version.begin ≢ commit) versions
    → facts_loaded_by commit (versions ++ versions_by commit more) ≡ more
facts-new = loaded-new (λ version. version.row) (λ version. version.begin) version-by (λ commit row. (refl, refl))

pub facts-later : (commit later : ℕ) (versions : List PlainVersion) (more : List (List cell.Value)) → commit < later
    → facts_loaded_by commit (versions ++ versions_by later more) ≡ facts_loaded_by commit versions
facts-later = loaded-later (λ version. version.row) (λ version. version.begin) version-by (λ commit row. (refl, refl))

-- the rows are the same where the end of the first is not the same
same-first : (is : Bool) (version : PlainVersion) (commit : ℕ) (rest : List PlainVersion)
    → map (λ v. v.row) (cond is (record version { end = commit } ∷ rest) rest) ≡ map (λ v. v.row) (cond is (version ∷ rest) rest)
same-first true version commit rest = refl
same-first false version commit rest = refl

same-rest : (is : Bool) (version : PlainVersion) (rest others : List PlainVersion) → map (λ v. v.row) rest ≡ map (λ v. v.row) others
    → map (λ v. v.row) (cond is (version ∷ rest) rest) ≡ map (λ v. v.row) (cond is (version ∷ others) others)
same-rest true version rest others same = ap (λ rows. version.row ∷ rows) same
same-rest false version rest others same = same

facts-with-end : (commit later : ℕ) (versions : List PlainVersion) (position : ℕ)
    → facts_loaded_by commit (with_end later versions position) ≡ facts_loaded_by commit versions
facts-with-end commit later [] position = refl
facts-with-end commit later (version ∷ versions) zero =
    same-first (version.begin == commit) version later (filter (λ v. v.begin == commit) versions)
facts-with-end commit later (version ∷ versions) (suc position) =
    same-rest (version.begin == commit) version (filter (λ v. v.begin == commit) (with_end later versions position))
    (filter (λ v. v.begin == commit) versions) (facts-with-end commit later versions position)

pub facts-with-ends : (commit later : ℕ) (versions : List PlainVersion) (positions : List ℕ)
    → facts_loaded_by commit (with_ends later versions positions) ≡ facts_loaded_by commit versions
facts-with-ends commit later versions [] = refl
facts-with-ends commit later versions (position ∷ positions) =
    facts-with-ends commit later (with_end later versions position) positions ∙ facts-with-end commit later versions position
