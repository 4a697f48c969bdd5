-- Once the fact table is declared, the tables grow by every change that they take.
use Rattle.core_state.proofs.Words.{◌++◌, ◌<◌, ◌∙◌, ◌∷◌, ◌≡◌, ◌≤◌, [], Accepts, AcceptsAll, after_change, All-append, ap, append_assoc, arith, Bool, cases_lt, Change, changes_of, cond, DimensionDeclared, DimensionRow, empty_store, Ended, Entry, FactDeclared, false, fold, fold-append, IfSome, IfSome_then, IsOfRows, IsSome, length, List, Loaded, map-append, None, Option, OutOfOrder, PlainVersion, refl, Refusal, rows_in, slice_get, Some, Store, store_of, subst, sym, TableDef, tables_by, true, ℕ, ⊎_elim}
use Rattle.std.specs.Prelude.{Ok, Err, Result}
use Rattle.core_state.proofs.GrownRowsLemmas.{Behind, Grows, StaysThere, grows-by, no-more, past-end, stays-next, stays-there}

-- Tables that grow twice.

-- what the snapshots see by a later commit they see by an earlier one
stays-earlier : (commits later : ℕ) (before after : Option PlainVersion) → commits ≤ later → StaysThere later before after
    → StaysThere commits before after
stays-earlier commits later None None low there = tt
stays-earlier commits later None (Some after) low there = absurd there
stays-earlier commits later (Some before) None low there = absurd there
stays-earlier commits later (Some before) (Some after) low there = record {
  row = there.row;
  begin = there.begin;
  seen = λ snapshot within. there.seen snapshot (omega arith);
}

-- a version that came later did so wherever it stays
later-stays : (commits later : ℕ) (before after : Option PlainVersion) → StaysThere later before after
    → IfSome before (λ version. commits < version.begin) → IfSome after (λ version. commits < version.begin)
later-stays commits later None None there came = tt
later-stays commits later None (Some after) there came = absurd there
later-stays commits later (Some before) None there came = tt
later-stays commits later (Some before) (Some after) there came = let same = there.begin in omega arith

behind-next : (commits later : ℕ) (first second third : List DimensionRow) → commits ≤ later → Behind commits first second
    → Behind later second third → Behind commits first third
behind-next commits later first second third low one other = (
  one.0 ++ other.0,
  other.1 ∙ ap (λ rows. rows ++ other.0) one.1 ∙ append_assoc first one.0 other.0,
  All-append (λ (entry : DimensionRow). commits < entry.commit) one.0 other.0 one.2
      (λ k d within. let came = other.2 k d within in omega arith),
)

grows-self : (store : Store) → Grows store store
grows-self store = record {
  schema = refl;
  commits = omega arith;
  longer = omega arith;
  old = λ position low. stays-there store.commits (slice_get store.versions position);
  new = λ position past. past-end (λ version. store.commits < version.begin) store.versions position past;
  rows = λ dimension. no-more store.commits (rows_in store.dimensions dimension);
}

grows-next : (first second third : Store) → Grows first second → Grows second third → Grows first third
grows-next first second third one other = record {
  schema = other.schema ∙ one.schema;
  commits = let low = one.commits in let high = other.commits in omega arith;
  longer = let low = one.longer in let high = other.longer in omega arith;
  old = λ position low.
      stays-next first.commits (slice_get first.versions position) (slice_get second.versions position) (slice_get third.versions position)
      (one.old position low)
      (stays-earlier first.commits second.commits (slice_get second.versions position) (slice_get third.versions position) one.commits
      (other.old position (let longer = one.longer in omega arith)));
  new = λ position past. ⊎_elim
      (λ inside. later-stays first.commits second.commits (slice_get second.versions position) (slice_get third.versions position)
      (other.old position inside) (one.new position past))
      (λ beyond. IfSome_then (slice_get third.versions position) (other.new position beyond)
      (λ version came. let low = one.commits in omega arith))
      (cases_lt position (length second.versions));
  rows = λ dimension. behind-next first.commits second.commits (rows_in first.dimensions dimension) (rows_in second.dimensions dimension)
      (rows_in third.dimensions dimension) one.commits (one.rows dimension) (other.rows dimension);
}

-- Changes after the fact table is declared.

-- a declaration is out of order
out-of-order : (fact : Bool) (table : TableDef) (other : Result TableDef Refusal) → fact ≡ true
    → cond {A = Result TableDef Refusal} fact (Err OutOfOrder) other ≡ Ok table → ⊥
out-of-order true table other is declared = cc
out-of-order false table other is declared = cc

of-rows : (store : Store) (change : Change) → IsSome store.schema.fact → Accepts store change → IsOfRows change
of-rows store (DimensionDeclared table) ready accepted = out-of-order _ table _ ready accepted.0
of-rows store (FactDeclared table) ready accepted = out-of-order _ table _ ready accepted.0
of-rows store (Loaded table rows) ready accepted = tt
of-rows store (Ended positions) ready accepted = tt

-- the tables grow by each change that they take
grows-through : (store : Store) (history : List Change) → IsSome store.schema.fact → AcceptsAll store history
    → Grows store (fold after_change store history)
grows-through store [] ready accepted = grows-self store
grows-through store (change ∷ history) ready accepted =
    let grows = grows-by store change (of-rows store change ready accepted.0) accepted.0 in
    grows-next store (after_change store change) (fold after_change (after_change store change) history) grows
    (grows-through (after_change store change) history (subst (λ schema. IsSome schema.fact) (sym grows.schema) ready) accepted.1)

-- the tables after a part of a history take the rest
pub accepts-rest : (store : Store) (history rest : List Change) → AcceptsAll store (history ++ rest)
    → AcceptsAll (fold after_change store history) rest
accepts-rest store [] rest all = all
accepts-rest store (change ∷ history) rest all = accepts-rest (after_change store change) history rest all.1

-- the tables of a longer history are those of its front, grown
pub tables-grown : (entries more : List Entry) → IsSome (tables_by entries).schema.fact → AcceptsAll empty_store (changes_of (entries ++ more))
    → Grows (tables_by entries) (tables_by (entries ++ more))
tables-grown entries more ready all =
    subst (Grows (tables_by entries))
    (sym (ap store_of split ∙ fold-append after_change empty_store (changes_of entries) (changes_of more)))
    (grows-through (tables_by entries) (changes_of more) ready
    (accepts-rest empty_store (changes_of entries) (changes_of more) (subst (AcceptsAll empty_store) split all)))
  where
    split : changes_of (entries ++ more) ≡ changes_of entries ++ changes_of more
    split = map-append (λ (e : Entry). e.change) entries more
