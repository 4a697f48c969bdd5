-- Each declaration that the tables take leaves everything sound beside the seats.
use Rattle.core_state.proofs.Words.{◌++◌, ◌+◌, ◌↔◌, ◌∙◌, ◌∷◌, ◌≡◌, ◌≤◌, [], Accepts, All, All-nil, ap, arith, Change, changes_of, Contains, Contains-get_or, counted, DimensionDeclared, Ended, Entry, FactDeclared, filter_dimensions, Filters, FilterVersion, first_versions, get_or, Has, IsOfRows, IsPermutation, IsPermutation-refl, IsSettled, IsSound, IsSoundBeside, IsSoundFilter, IsSoundStore, length, length-map, length-replicate, List, Loaded, None, none-some, replicate, Some, State, Store, subst, sym, TableDef, tables_by, tables_of, DropTally, versions_in, with_change, with_number, ℕ}
use Rattle.std.specs.Prelude.{fold}
use Rattle.std.proofs.lemmas.List.Elements.{All-replicate}
use Rattle.core_state.proofs.DeclareLemmas.{declared-quiet, declared_now, empty-sound, filters-low, first-dimensions, first-each, has-set, nil-by-map, no-filters, store-push, undeclared-by, versions-first}
use Rattle.core_state.proofs.GivenLemmas.{Settles}
use Rattle.core_state.proofs.GrownLemmas.{tables-with}

dimension-declared : (seat statement : ℕ) (table : TableDef) (state : State) → (tables_of state).schema.fact ≡ None
    → Accepts (tables_of state) (DimensionDeclared table) → IsSound state → IsSoundBeside (with_change seat statement (DimensionDeclared table) state)
dimension-declared seat statement table state none accepts old =
    declared-quiet state entry state.lives.filters state.filters state.numbers.version none old
    (record {
      each = subst (All (λ (version : FilterVersion). IsSoundFilter now.accepted (tables_of now) now.lives.slots now.lives.filters version.filter)) (sym empty)
          (All-nil (λ (version : FilterVersion). IsSoundFilter now.accepted (tables_of now) now.lives.slots now.lives.filters version.filter));
      dimensions = old.filters.dimensions ∙ same;
      set = subst (λ dimensions. (dimension : ℕ) → Has state.lives.filters dimension ↔ Contains dimensions dimension) same old.filters.set;
    })
    (store-push state.entries entry old.store accepts) (λ none_now. old.quiet none)
    (record {
      apart = old.numbers.apart;
      given = old.numbers.given;
      versions = old.numbers.versions;
      unnumbered = λ none_now. old.numbers.unnumbered none;
    })
    (let stands = old.scan.position in let many = as_many in omega arith)
    (record { tallies = old.order.tallies; count = old.order.count; order = old.order.order })
  where
    entry : Entry
    entry = record { seat = seat; statement = statement; change = DimensionDeclared table }

    now : State
    now = declared_now state entry state.lives.filters state.filters state.numbers.version

    as_many : versions_in now ≡ versions_in state
    as_many = ap (λ (s : Store). length s.versions) (tables-with state.entries entry)

    none_now : (tables_of now).schema.fact ≡ None
    none_now = ap (λ (s : Store). s.schema.fact) (tables-with state.entries entry) ∙ none

    same : filter_dimensions (tables_of state).schema ≡ filter_dimensions (tables_of now).schema
    same = no-filters (tables_of state).schema none ∙ sym (no-filters (tables_of now).schema none_now)

    empty : state.filters.versions ≡ []
    empty = nil-by-map (λ (version : FilterVersion). version.filter.dimension) state.filters.versions
        (old.filters.dimensions ∙ no-filters (tables_of state).schema none)

fact-declared : Settles → (seat statement : ℕ) (table : TableDef) (state : State) → (tables_of state).schema.fact ≡ None
    → Accepts (tables_of state) (FactDeclared table) → IsSound state → IsSoundBeside (with_change seat statement (FactDeclared table) state)
fact-declared settles seat statement table state none accepts old =
    declared-quiet state entry set filters version none old
    (record {
      each = first-each (IsSoundFilter now.accepted (tables_of now) now.lives.slots now.lives.filters) dimensions (state.numbers.version + 1)
          (λ k d low.
          let few = filters-low (tables_of now).schema k d low in
          let most = settled.declared.limits.dimensions in
          empty-sound now (get_or dimensions k d) (omega arith) ((has-set dimensions (get_or dimensions k d)).1 (Contains-get_or dimensions k d low))
          (old.quiet none).2);
      dimensions = first-dimensions dimensions (state.numbers.version + 1);
      set = has-set dimensions;
    })
    store (λ none_now. absurd (none-some table (sym none_now ∙ fact)))
    (record {
      apart = old.numbers.apart;
      given = old.numbers.given;
      versions = versions-first state.numbers.version dimensions state.scan.flights (old.quiet none).1;
      unnumbered = λ none_now. absurd (none-some table (sym none_now ∙ fact));
    })
    (let stands = old.scan.position in let many = as_many in omega arith)
    (record {
      tallies = All-replicate (λ (tally : DropTally). tally.drops ≤ tally.probes) (length dimensions) (record { probes = 0; drops = 0 }) (omega arith);
      count = length-replicate (length dimensions) (record { probes = 0; drops = 0 })
          ∙ sym (sym (length-map filters.versions (λ (v : FilterVersion). v.filter.dimension))
          ∙ ap length (first-dimensions dimensions (state.numbers.version + 1)));
      order = subst (λ all. IsPermutation all dimensions) (sym (first-dimensions dimensions (state.numbers.version + 1)))
          (IsPermutation-refl dimensions);
    })
  where
    entry : Entry
    entry = record { seat = seat; statement = statement; change = FactDeclared table }

    dimensions : List ℕ
    dimensions = filter_dimensions (tables_by (state.entries ++ entry ∷ [])).schema

    set : ℕ
    set = fold with_number 0 dimensions

    filters : Filters
    filters = record {
      versions = first_versions dimensions (state.numbers.version + 1);
      tallies = replicate (length dimensions) (record { probes = 0; drops = 0 });
      order = dimensions;
    }

    version : ℕ
    version = counted state.numbers.version (length dimensions)

    now : State
    now = declared_now state entry set filters version

    store : IsSoundStore now
    store = store-push state.entries entry old.store accepts

    settled : IsSettled (tables_of now)
    settled = settles (changes_of (state.entries ++ entry ∷ [])) store

    as_many : versions_in now ≡ versions_in state
    as_many = ap (λ (s : Store). length s.versions) (tables-with state.entries entry)

    fact : (tables_of now).schema.fact ≡ Some table
    fact = ap (λ (s : Store). s.schema.fact) (tables-with state.entries entry)

pub declared-beside : Settles → (seat statement : ℕ) (change : Change) (state : State) → (IsOfRows change → ⊥)
    → Accepts (tables_of state) change → IsSound state → IsSoundBeside (with_change seat statement change state)
declared-beside settles seat statement (DimensionDeclared table) state declares accepts old =
    dimension-declared seat statement table state (undeclared-by (tables_of state).schema.fact _ table accepts.0) accepts old
declared-beside settles seat statement (FactDeclared table) state declares accepts old =
    fact-declared settles seat statement table state (undeclared-by (tables_of state).schema.fact _ table accepts.0) accepts old
declared-beside settles seat statement (Loaded table rows) state declares accepts old = absurd (declares tt)
declared-beside settles seat statement (Ended positions) state declares accepts old = absurd (declares tt)
