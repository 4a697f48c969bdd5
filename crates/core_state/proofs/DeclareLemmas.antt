-- A declaration that the tables take leaves everything sound beside the seats: before the fact table nothing was asked.
use Rattle.core_state.proofs.Words.{◌++◌, ◌+◌, ◌<◌, ◌↔◌, ◌∙◌, ◌∷◌, ◌≡◌, ◌≤◌, [], Accepts, AcceptsAll, All, All-cons, All-filter, All-head, All-nil, All-tail, All-weaker, ap, AreSoundFilters, AreSoundNumbers, AreSoundVersions, arith, changes_of, cond, Contains, counted, empty_store, Entry, Err, fact_columns, false, filter, Filter, filter_dimensions, Filters, FilterVersion, first_versions, FitsSlot, Flight, frame_words, Free, Hand, Has, Held, IfSome, is_some, IsClearOf, IsPresentByNumber, IsQuietBefore, IsSound, IsSoundBatch, IsSoundBeside, IsSoundFilter, IsSoundHand, IsSoundOrder, IsSoundQuery, IsSoundStore, last_number, length, List, list_any, map, min, None, Ok, Option, option_map_or, OutOfOrder, range_with_len, references, refl, Refusal, Result, Schema, set, Some, State, subst, sym, TableDef, tables_by, tables_of, true, versions_in, with_number, ℕ}
use Rattle.std.specs.Prelude.{fold}
use Rattle.batch_flow.specs.declared.batch.TheConstants.{KEYS_IN_A_ROW}
use Rattle.pipeline_manager.specs.Sound.{IsOfFilters}
use Rattle.core_state.specs.Submitting.{first_version}
use Rattle.core_state.proofs.CutFoundLemmas.{all-below, has-any, has-at}
use Rattle.star_store.proofs.HistoryLemmas.{accepts-more}
use Rattle.core_state.proofs.GrownLemmas.{changes-with}
use Rattle.core_state.proofs.ReleaseLemmas.{none-in}

-- the history with a declaration more
pub store-push : (entries : List Entry) (entry : Entry) → AcceptsAll empty_store (changes_of entries) → Accepts (tables_by entries) entry.change
    → AcceptsAll empty_store (changes_of (entries ++ entry ∷ []))
store-push entries entry all accepts =
    subst (AcceptsAll empty_store) (sym (changes-with entries entry)) (accepts-more empty_store (changes_of entries) entry.change all accepts)

-- what is accepted only before the fact table was declared
pub undeclared-by : (fact : Option TableDef) (rest : Result TableDef Refusal) (table : TableDef)
    → cond {A = Result TableDef Refusal} (is_some fact) (Err OutOfOrder) rest ≡ Ok table → fact ≡ None
undeclared-by None rest table e = refl
undeclared-by (Some fact) rest table e = cc

filter-false : {X : Type 0} (xs : List X) → filter (λ x. false) xs ≡ []
filter-false [] = refl
filter-false (x ∷ xs) = filter-false xs

-- before the fact table was declared there are no filters
pub no-filters : (schema : Schema) → schema.fact ≡ None → filter_dimensions schema ≡ []
no-filters schema none =
    ap (λ (fact : Option TableDef). filter (λ dimension. list_any (references dimension) (option_map_or (λ (t : TableDef). t.columns) fact []))
    (range_with_len 0 (length schema.dimensions))) none
    ∙ filter-false (range_with_len 0 (length schema.dimensions))

pub nil-by-map : {X Y : Type 0} (f : X → Y) (xs : List X) → map f xs ≡ [] → xs ≡ []
nil-by-map f [] is = refl
nil-by-map f (x ∷ xs) is = cc

-- the core with one entry more, another set of filters, other filters and another number of the last version
abbrev pub declared_now : State → Entry → (set : ℕ) → Filters → (version : ℕ) → State
declared_now state entry set filters version = record state {
  entries = state.entries ++ entry ∷ [];
  lives = record state.lives { filters = set };
  filters = filters;
  numbers = record state.numbers { version = version };
}

-- where nothing was asked, the filters say what is sound
pub declared-quiet : (state : State) (entry : Entry) (set : ℕ) (filters : Filters) (version : ℕ)
    → (tables_of state).schema.fact ≡ None → IsSound state
    → AreSoundFilters (declared_now state entry set filters version) → IsSoundStore (declared_now state entry set filters version)
    → IsQuietBefore (declared_now state entry set filters version) → AreSoundNumbers (declared_now state entry set filters version)
    → state.scan.position ≤ versions_in (declared_now state entry set filters version)
    → IsSoundOrder filters → IsSoundBeside (declared_now state entry set filters version)
declared-quiet state entry set filters version none old sound_filters store quiet numbers position order =
    let before = old.quiet none in
    let lives = old.slots.lives in
    record {
      filters = sound_filters;
      batches = subst (All (IsSoundBatch (frame_words now) (tables_of now) now.lives now.accepted)) (sym before.1) (All-nil (IsSoundBatch (frame_words now) (tables_of now) now.lives now.accepted));
      hands = record {
        each = subst (All (λ (flight : Flight). IfSome flight.hand (IsSoundHand (length now.seats) now.lives.filters (tables_of now) flight))) (sym before.1)
            (All-nil (λ (flight : Flight). IfSome flight.hand (IsSoundHand (length now.seats) now.lives.filters (tables_of now) flight)));
        one = old.hands.one;
      };
      queries = record {
        same = old.queries.same;
        each = subst (All (IsSoundQuery now)) (sym before.0) (All-nil (IsSoundQuery now));
      };
      slots = record {
        lives = record {
          rising = lives.rising;
          some = lives.some;
          few = lives.few;
          held = lives.held;
          left = lives.left;
          of_filters = λ k d low. subst (IsOfFilters set) (sym (before.2 k d low)) tt;
        };
        count = old.slots.count;
        built = λ slot query built there holds. absurd (let free : Free ≡ Held query built = sym (before.2 slot Free there) ∙ holds in cc);
      };
      store = store;
      quiet = quiet;
      numbers = numbers;
      scan = record { frames = old.scan.frames; position = position };
      order = order;
    }
  where
    now : State
    now = declared_now state entry set filters version

-- a filter of which no row was asked
abbrev pub empty_filter : (dimension : ℕ) → Filter
empty_filter dimension = record { dimension = dimension; complement = 0; stored = [] }

empty-clear : (dimension slot : ℕ) → IsClearOf (empty_filter dimension) slot
empty-clear dimension slot = record { rows = λ key. none-in slot; others = none-in slot }

pub empty-sound : (state : State) (dimension : ℕ) → dimension < KEYS_IN_A_ROW → Has state.lives.filters dimension
    → All (λ slot. slot ≡ Free) state.lives.slots → IsSoundFilter state.accepted (tables_of state) state.lives.slots state.lives.filters (empty_filter dimension)
empty-sound state dimension few has free = record {
  table = record {
    numbered = few;
    exact = λ key. (λ is. absurd (let both : false ≡ true = is in cc), λ other. absurd (other refl));
    covers = λ key slot in_all. in_all;
  };
  ascending = λ i j d before low. absurd (omega arith);
  is_filter = has;
  slots = λ slot there. subst (FitsSlot state.accepted (tables_of state) (empty_filter dimension) slot) (sym (free slot Free there)) (empty-clear dimension slot);
  beyond = λ slot past. empty-clear dimension slot;
  within = λ key is. absurd (let both : false ≡ true = is in cc);
}

pub first-dimensions : (dimensions : List ℕ) (number : ℕ)
    → map (λ (version : FilterVersion). version.filter.dimension) (first_versions dimensions number) ≡ dimensions
first-dimensions [] number = refl
first-dimensions (dimension ∷ dimensions) number = ap (λ rest. dimension ∷ rest) (first-dimensions dimensions (number + 1))

pub first-each : (P : Filter → Type 0) (dimensions : List ℕ) (number : ℕ) → All (λ dimension. P (empty_filter dimension)) dimensions
    → All (λ (version : FilterVersion). P version.filter) (first_versions dimensions number)
first-each P [] number all = All-nil (λ (version : FilterVersion). P version.filter)
first-each P (dimension ∷ dimensions) number all =
    All-cons (λ (version : FilterVersion). P version.filter) (first_version dimension number) (first_versions dimensions (number + 1))
    (All-head (λ d. P (empty_filter d)) dimension dimensions all)
    (first-each P dimensions (number + 1) (All-tail (λ d. P (empty_filter d)) dimension dimensions all))

-- their versions have the next numbers
first-numbers : (dimensions : List ℕ) (number : ℕ) → All (λ (version : FilterVersion). version.number < number + length dimensions) (first_versions dimensions number)
first-numbers [] number = All-nil (λ (version : FilterVersion). version.number < number + 0)
first-numbers (dimension ∷ dimensions) number =
    All-cons (λ (version : FilterVersion). version.number < number + length (dimension ∷ dimensions)) (first_version dimension number)
    (first_versions dimensions (number + 1)) (omega arith)
    (All-weaker (λ (version : FilterVersion). version.number < number + 1 + length dimensions)
    (λ version. version.number < number + length (dimension ∷ dimensions)) (λ version low. omega arith)
    (first_versions dimensions (number + 1)) (first-numbers dimensions (number + 1)))

still-counted : (count more most : ℕ) → min (count + more) most < most → min (count + more) most ≡ count + more
still-counted count more most below = omega arith

pub versions-first : (last : ℕ) (dimensions : List ℕ) (flights : List Flight) → flights ≡ []
    → AreSoundVersions (counted last (length dimensions)) (first_versions dimensions (last + 1)) flights
versions-first last dimensions flights none = record {
  given = λ more.
      subst (λ n. All (λ (version : FilterVersion). version.number ≤ n) (first_versions dimensions (last + 1)))
      (sym (still-counted last (length dimensions) last_number more))
      (All-weaker (λ (version : FilterVersion). version.number < last + 1 + length dimensions) (λ version. version.number ≤ last + length dimensions)
      (λ version low. omega arith) (first_versions dimensions (last + 1)) (first-numbers dimensions (last + 1)));
  held = λ more. none_in (λ hand. All (λ version. version.number ≤ counted last (length dimensions)) hand.versions);
  present = none_in (λ hand. All (IsPresentByNumber (first_versions dimensions (last + 1))) hand.versions);
}
  where
    none_in : (P : Hand → Type 0) → All (λ (flight : Flight). IfSome flight.hand P) flights
    none_in P = subst (All (λ (flight : Flight). IfSome flight.hand P)) (sym none) (All-nil (λ (flight : Flight). IfSome flight.hand P))

-- the set of a list of numbers has its members
pub has-set : (members : List ℕ) (i : ℕ) → Has (fold with_number 0 members) i ↔ Contains members i
has-set members i = (
  λ has. let any = has-any (λ n. n) members i has in subst (Contains members) any.4 (any.0, any.2, any.3),
  λ there. subst (Has (fold with_number 0 members)) there.2 (has-at (λ n. n) 0 members there.0 i there.1),
)

-- filters are of declared dimensions
pub filters-low : (schema : Schema) → All (λ dimension. dimension < length schema.dimensions) (filter_dimensions schema)
filters-low schema =
    All-filter (λ dimension. list_any (references dimension) (fact_columns schema)) (λ dimension. dimension < length schema.dimensions)
    (range_with_len 0 (length schema.dimensions))
    (all-below (λ dimension. dimension < length schema.dimensions) (length schema.dimensions) (λ k low. low))
