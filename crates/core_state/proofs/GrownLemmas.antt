-- Rows that are loaded, and versions that are ended, leave everything sound that a core keeps beside its seats.
use Rattle.core_state.proofs.Words.{◌++◌, ◌∙◌, ◌∷◌, ◌≡◌, ◌≤◌, [], Accepts, AcceptsAll, after_change, All, All-push, ap, arith, Change, changes_of, empty_store, EndsAscending, Entry, fold-append, IsOfRows, IsSettled, IsSound, IsSoundBeside, kept, List, map-append, Query, State, Store, store_of, subst, sym, tables_by, tables_of, with_entry, ℕ}
use Rattle.star_store.proofs.HistoryLemmas.{accepts-more}
use Rattle.core_state.proofs.GivenLemmas.{Settles}
use Rattle.core_state.proofs.GrownBatchLemmas.{batches-grown}
use Rattle.core_state.proofs.GrownFilterLemmas.{filters-grown, hands-grown}
use Rattle.core_state.proofs.GrownQueryLemmas.{KeepsKept, queries-grown}
use Rattle.core_state.proofs.GrownRowsLemmas.{Grows, grows-by}

-- a query keeps the same rows after a change that comes after its snapshot
abbrev pub AreNotSeen : Type 0
AreNotSeen = (store : Store) (change : Change) (query : Query) (snapshot : ℕ) → IsSettled store → Accepts store change
    → snapshot ≤ store.commits → kept (after_change store change) query snapshot ≡ kept store query snapshot

-- the changes of entries, and one more
pub changes-with : (entries : List Entry) (entry : Entry) → changes_of (entries ++ entry ∷ []) ≡ changes_of entries ++ entry.change ∷ []
changes-with entries entry = map-append (λ (e : Entry). e.change) entries (entry ∷ [])

-- the deletes of entries, and of one more, name their positions ascending
pub ends-with : (entries : List Entry) (entry : Entry) → All EndsAscending (changes_of entries) → EndsAscending entry.change
    → All EndsAscending (changes_of (entries ++ entry ∷ []))
ends-with entries entry ends last =
    subst (All EndsAscending) (sym (changes-with entries entry)) (All-push EndsAscending (changes_of entries) entry.change ends last)

-- the tables after an entry are those after its change
pub tables-with : (entries : List Entry) (entry : Entry) → tables_by (entries ++ entry ∷ []) ≡ after_change (tables_by entries) entry.change
tables-with entries entry =
    ap store_of (changes-with entries entry) ∙ fold-append after_change empty_store (changes_of entries) (entry.change ∷ [])

pub sound-grown : Settles → AreNotSeen → (seat statement : ℕ) (change : Change) (state : State) → IsOfRows change
    → Accepts (tables_of state) change → IsSound state → IsSoundBeside (with_entry seat statement change state)
sound-grown settles not_seen seat statement change state of_rows accepted sound = record {
  filters = filters-grown state entries sound grows;
  batches = batches-grown state entries sound settled grows;
  hands = hands-grown state entries sound grows;
  queries = queries-grown state entries grows keeps sound.queries;
  slots = record { lives = sound.slots.lives; count = sound.slots.count; built = sound.slots.built };
  store = subst (AcceptsAll empty_store) (sym (changes-with state.entries entry))
      (accepts-more empty_store (changes_of state.entries) change sound.store accepted);
  quiet = λ none. sound.quiet (ap (λ schema. schema.fact) (sym grows.schema) ∙ none);
  numbers = record {
    apart = sound.numbers.apart;
    given = sound.numbers.given;
    versions = sound.numbers.versions;
    unnumbered = λ none. sound.numbers.unnumbered (ap (λ schema. schema.fact) (sym grows.schema) ∙ none);
  };
  scan = record { frames = sound.scan.frames; position = let low = sound.scan.position in let longer = grows.longer in omega arith };
  order = sound.order;
}
  where
    entry : Entry
    entry = record { seat = seat; statement = statement; change = change }

    entries : List Entry
    entries = state.entries ++ entry ∷ []

    settled : IsSettled (tables_of state)
    settled = settles (changes_of state.entries) sound.store

    grows : Grows (tables_of state) (tables_by entries)
    grows = subst (Grows (tables_of state)) (sym (tables-with state.entries entry)) (grows-by (tables_of state) change of_rows accepted)

    keeps : KeepsKept (tables_of state) (tables_by entries)
    keeps query snapshot low =
        ap (λ store. kept store query snapshot) (tables-with state.entries entry)
        ∙ not_seen (tables_of state) change query snapshot settled accepted low
