-- The changes of a history follow from its tables and their kinds.
use Rattle.core_state.proofs.Words.{◌++◌, ◌+◌, ◌<◌, ◌∙◌, ◌∷◌, ◌≡◌, ◌≢◌, ◌≤◌, ◌⊎◌, [], Accepts, AcceptsAll, after_change, All, All-head, All-tail, ap, arith, Change, Dimension, DimensionDeclared, DimensionRow, Ended, EndsAscending, Fact, FactDeclared, facts_loaded_by, fold, get_or, get_or-set_same, get_or_append_left, in_grown, inl, inr, IsDated, IsSettled, length, length-append, List, Loaded, map, None, option_map_or, PlainVersion, positions_ended_by, refl, rows_by, rows_in, rows_loaded_by, Some, Store, TableDef, ℕ}
use Rattle.query_meaning.proofs.LaterLemmas.{rows_in_declared, undeclared}
use Rattle.query_meaning.proofs.LoadedLemmas.{loaded_in}
use Rattle.star_store.specs.Kinds.{kind_of_change}
use Rattle.core_state.specs.Logged.{change_told, changes_told, no_table}
use Rattle.core_state.proofs.LoggedPlaceLemmas.{positions-new, positions-other-ends, positions-other-rows}
use Rattle.core_state.proofs.LoggedRowsLemmas.{facts-later, facts-new, facts-with-ends, rows-later, rows-new}

-- later tables tell of each dimension, of the fact table and of each commit what earlier ones tell
pub record KeepsTold (before after : Store) : Type 0 where
  pub commits : before.commits ≤ after.commits
  pub count : length before.schema.dimensions ≤ length after.schema.dimensions
  pub tables : (number : ℕ) → number < length before.schema.dimensions
      → get_or after.schema.dimensions number no_table ≡ get_or before.schema.dimensions number no_table
  pub fact : (table : TableDef) → before.schema.fact ≡ Some table → after.schema.fact ≡ Some table
  pub facts : (commit : ℕ) → commit ≤ before.commits → facts_loaded_by commit after.versions ≡ facts_loaded_by commit before.versions
  pub rows : (commit number : ℕ) → commit ≤ before.commits
      → rows_loaded_by commit (rows_in after.dimensions number) ≡ rows_loaded_by commit (rows_in before.dimensions number)
  pub ends : (commit : ℕ) → 0 < commit → commit ≤ before.commits
      → positions_ended_by commit after.versions ≡ positions_ended_by commit before.versions

keeps-itself : (store : Store) → KeepsTold store store
keeps-itself store = record {
  commits = omega arith;
  count = omega arith;
  tables = λ number low. refl;
  fact = λ table is. is;
  facts = λ commit low. refl;
  rows = λ commit number low. refl;
  ends = λ commit first low. refl;
}

keeps-then : (first second third : Store) → KeepsTold first second → KeepsTold second third → KeepsTold first third
keeps-then first second third one other =
    let commits = one.commits in
    let commits_then = other.commits in
    let count = one.count in
    let count_then = other.count in record {
      commits = omega arith;
      count = omega arith;
      tables = λ number low. other.tables number (omega arith) ∙ one.tables number low;
      fact = λ table is. other.fact table (one.fact table is);
      facts = λ commit low. other.facts commit (omega arith) ∙ one.facts commit low;
      rows = λ commit number low. other.rows commit number (omega arith) ∙ one.rows commit number low;
      ends = λ commit positive low. other.ends commit positive (omega arith) ∙ one.ends commit positive low;
    }

-- a change leaves what is told of those before it
keeps-after : (store : Store) (change : Change) → Accepts store change → KeepsTold store (after_change store change)
keeps-after store (DimensionDeclared table) accepted = record {
  commits = omega arith;
  count = omega (arith, length-append store.schema.dimensions (table ∷ []));
  tables = λ number low. get_or_append_left store.schema.dimensions (table ∷ []) no_table number low;
  fact = λ other is. is;
  facts = λ commit low. refl;
  rows = λ commit number low. ap (rows_loaded_by commit) (rows_in_declared store.dimensions number);
  ends = λ commit first low. refl;
}
keeps-after store (FactDeclared table) accepted = record {
  commits = omega arith;
  count = omega arith;
  tables = λ number low. refl;
  fact = λ other is. let none : store.schema.fact ≡ None = undeclared store table accepted.0 in absurd cc;
  facts = λ commit low. refl;
  rows = λ commit number low. refl;
  ends = λ commit first low. refl;
}
keeps-after store (Loaded Fact rows) accepted = record {
  commits = omega arith;
  count = omega arith;
  tables = λ number low. refl;
  fact = λ other is. is;
  facts = λ commit low. facts-later commit (store.commits + 1) store.versions rows (omega arith);
  rows = λ commit number low. refl;
  ends = λ commit first low. positions-other-rows commit (store.commits + 1) store.versions rows first;
}
keeps-after store (Loaded (Dimension dimension) rows) accepted = record {
  commits = omega arith;
  count = omega arith;
  tables = λ number low. refl;
  fact = λ other is. is;
  facts = λ commit low. refl;
  rows = λ commit number low.
      in_grown (λ grown. rows_loaded_by commit grown ≡ rows_loaded_by commit (rows_in store.dimensions number)) store.dimensions dimension number
      (rows_by (store.commits + 1) rows) refl
      (λ same. rows-later commit (store.commits + 1) (rows_in store.dimensions number) rows (omega arith));
  ends = λ commit first low. refl;
}
keeps-after store (Ended positions) accepted = record {
  commits = omega arith;
  count = omega arith;
  tables = λ number low. refl;
  fact = λ other is. is;
  facts = λ commit low. facts-with-ends commit (store.commits + 1) store.versions positions;
  rows = λ commit number low. refl;
  ends = λ commit first low.
      positions-other-ends commit (store.commits + 1) store.versions positions first (omega arith) accepted.live accepted.apart;
}

keeps-all : (store : Store) (history : List Change) → AcceptsAll store history → KeepsTold store (fold after_change store history)
keeps-all store [] accepted = keeps-itself store
keeps-all store (change ∷ history) accepted =
    keeps-then store (after_change store change) (fold after_change (after_change store change) history) (keeps-after store change accepted.0)
    (keeps-all (after_change store change) history accepted.1)

-- What is told of a change right after it.

last-of : {X : Type 0} (xs : List X) (x d : X) → get_or (xs ++ x ∷ []) (length xs) d ≡ x
last-of [] x d = refl
last-of (y ∷ xs) x d = last-of xs x d

ended-before : (commits : ℕ) (version : PlainVersion) → IsDated commits version → version.end ≢ commits + 1
ended-before commits version dated same = by_end dated.ends
  where
    by_end : (version.end ≡ 0) ⊎ ((version.begin < version.end) × (version.end ≤ commits)) → ⊥
    by_end (inl live) = absurd (omega arith)
    by_end (inr ended) = let low = ended.1 in absurd (omega arith)

-- later tables tell a change as it was
told-new : (store later : Store) (change : Change) (dimension : ℕ) → dimension ≡ length store.schema.dimensions → IsSettled store
    → Accepts store change → EndsAscending change → KeepsTold (after_change store change) later
    → change_told later dimension (store.commits + 1) (kind_of_change change) ≡ change
told-new store later (DimensionDeclared table) dimension next settled accepted ascending keeps =
    ap DimensionDeclared
    (keeps.tables dimension (omega (arith, length-append store.schema.dimensions (table ∷ [])))
    ∙ ap (λ n. get_or (store.schema.dimensions ++ table ∷ []) n no_table) next ∙ last-of store.schema.dimensions table no_table)
told-new store later (FactDeclared table) dimension next settled accepted ascending keeps =
    ap (λ fact. FactDeclared (option_map_or (λ t. t) fact no_table)) (keeps.fact table refl)
told-new store later (Loaded Fact rows) dimension next settled accepted ascending keeps =
    ap (Loaded Fact)
    (keeps.facts (store.commits + 1) (omega arith)
    ∙ facts-new (store.commits + 1) store.versions rows
    (λ k d low. let begun = (settled.versions.dated k d low).begun in λ same. absurd (omega arith)))
told-new store later (Loaded (Dimension number) rows) dimension next settled accepted ascending keeps =
    let commit = store.commits + 1 in
    let entries : List DimensionRow = rows_in store.dimensions number in
    let low = accepted.there in
    let count = settled.count in
    let loaded = loaded_in store.schema.dimensions store.dimensions store.commits settled.count settled.rows number in
    ap (Loaded (Dimension number))
    (keeps.rows commit number (omega arith)
    ∙ ap (rows_loaded_by commit) (get_or-set_same store.dimensions number (entries ++ rows_by commit rows) [] (omega arith))
    ∙ rows-new commit entries rows (λ k d within. let before = (loaded k d within).1 in λ same. absurd (omega arith)))
told-new store later (Ended positions) dimension next settled accepted ascending keeps =
    ap Ended
    (keeps.ends (store.commits + 1) (omega arith) (omega arith)
    ∙ positions-new (store.commits + 1) store.versions positions
    (λ k d low. ended-before store.commits (get_or store.versions k d) (settled.versions.dated k d low)) accepted.there ascending)

-- each change that the tables take keeps them settled
abbrev pub SettlesNext : Type 0
SettlesNext = (store : Store) (change : Change) → IsSettled store → Accepts store change → IsSettled (after_change store change)

-- tables after a history whose first change the tables take
abbrev Later : Store → Change → List Change → Store
Later store change history = fold after_change (after_change store change) history

first-told : (store : Store) (change : Change) (history : List Change) (dimension : ℕ) → dimension ≡ length store.schema.dimensions
    → IsSettled store → AcceptsAll store (change ∷ history) → All EndsAscending (change ∷ history)
    → change_told (Later store change history) dimension (store.commits + 1) (kind_of_change change) ≡ change
first-told store change history dimension next settled accepted ascending =
    told-new store (Later store change history) change dimension next settled accepted.0 (All-head EndsAscending change history ascending)
    (keeps-all (after_change store change) history accepted.1)

-- the changes of a history are told by its tables and their kinds
pub changes-told : SettlesNext → (store : Store) (history : List Change) (dimension : ℕ) → dimension ≡ length store.schema.dimensions
    → IsSettled store → AcceptsAll store history → All EndsAscending history
    → changes_told (fold after_change store history) dimension (store.commits + 1) (map kind_of_change history) ≡ history
changes-told settles store [] dimension next settled accepted ascending = refl
changes-told settles store (DimensionDeclared table ∷ history) dimension next settled accepted ascending =
    let change = DimensionDeclared table in
    let rest = changes-told settles (after_change store change) history (dimension + 1)
    (omega (arith, length-append store.schema.dimensions (table ∷ []))) (settles store change settled accepted.0) accepted.1 (All-tail EndsAscending change history ascending) in
    λ i. first-told store change history dimension next settled accepted ascending i ∷ rest i
changes-told settles store (FactDeclared table ∷ history) dimension next settled accepted ascending =
    let change = FactDeclared table in
    let rest = changes-told settles (after_change store change) history dimension next
    (settles store change settled accepted.0) accepted.1 (All-tail EndsAscending change history ascending) in
    λ i. first-told store change history dimension next settled accepted ascending i ∷ rest i
changes-told settles store (Loaded Fact rows ∷ history) dimension next settled accepted ascending =
    let change = Loaded Fact rows in
    let rest = changes-told settles (after_change store change) history dimension next
    (settles store change settled accepted.0) accepted.1 (All-tail EndsAscending change history ascending) in
    λ i. first-told store change history dimension next settled accepted ascending i ∷ rest i
changes-told settles store (Loaded (Dimension number) rows ∷ history) dimension next settled accepted ascending =
    let change = Loaded (Dimension number) rows in
    let rest = changes-told settles (after_change store change) history dimension next
    (settles store change settled accepted.0) accepted.1 (All-tail EndsAscending change history ascending) in
    λ i. first-told store change history dimension next settled accepted ascending i ∷ rest i
changes-told settles store (Ended positions ∷ history) dimension next settled accepted ascending =
    let change = Ended positions in
    let rest = changes-told settles (after_change store change) history dimension next
    (settles store change settled accepted.0) accepted.1 (All-tail EndsAscending change history ascending) in
    λ i. first-told store change history dimension next settled accepted ascending i ∷ rest i
