-- The batch that a scan cuts is the batch that the core cuts.
use Rattle.core_state.proofs.Words.{◌++◌, ◌-◌, ◌∙◌, ◌∷◌, ◌≡◌, [], All, All-head, All-tail, ap, AreTablesOf, bits_of, DimensionRow, drop, end_in, first_in, flat_map, get_or, HasKeyNumbers, is_some, IsScannedAs, IsSound, key_numbers, KeyedStore, length, life_at, List, map, next_number, None, OnRoster, plain, plain_version, PlainVersion, range_with_len, refl, roster_of, Rows, rows_to_cut, running_at, Scanning, Schema, slots_of, Some, State, Store, sym, tables_of, take, takes_version, true, Version, versions_from, ℕ}
use Rattle.std.proofs.lemmas.List.{drop-map, take-map}
use Rattle.std.proofs.lemmas.List.Elements.{All-drop, All-take}
use Rattle.query_meaning.specs.Keyed.{number_by_key}
use Rattle.continuous_scan.specs.Range as scanned
use Rattle.continuous_scan.specs.Stamped as stamped
use Rattle.core_state.specs.Cutting.{frame_words}
use Rattle.core_state.proofs.CutRosterLemmas.{runs-in}
use Rattle.core_state.proofs.ScannedListLemmas.{all-kept, same-slots}
use Rattle.core_state.proofs.ScannedRunLemmas.{same-first, same-last}
use Rattle.core_state.proofs.ScannedSlotLemmas.{runs-as, takes-as}

-- key numbers are those that foreign keys give
abbrev pub FindsKeys : Type 0
FindsKeys = (schema : Schema) (dimensions : List (List DimensionRow)) (version : Version) → HasKeyNumbers schema dimensions version
    → version.keys ≡ map (number_by_key schema dimensions version.row) (range_with_len 0 8)

-- who runs in a slot stands there on the roster
own-slot : (state : State) (slot : ℕ) (entry : OnRoster) → running_at state slot ≡ Some entry → entry.slot ≡ slot
own-slot state slot entry is = ap (λ (e : OnRoster). e.slot) (runs-in state slot entry is).is

-- the roster as a set of slots
same-roster : (state : State) (scan : Scanning) → IsScannedAs state scan → stamped.roster_of scan.running ≡ slots_of (roster_of state)
same-roster state scan same =
    ap (λ n. stamped.numbers_below n (λ slot. is_some (get_or scan.running slot None))) same.count
    ∙ same-slots (running_at state) (λ entry. true) (λ slot. is_some (get_or scan.running slot None)) (length state.lives.slots)
    (own-slot state)
    (λ slot low. runs-as (life_at state.lives slot) (running_at state slot) (get_or scan.running slot None) (same.slots slot low))
    ∙ ap slots_of (all-kept (roster_of state))

-- the bits of a version
same-bits : (state : State) (scan : Scanning) (version : Version) → IsScannedAs state scan
    → stamped.bits_of scan.running version ≡ bits_of (roster_of state) (plain_version version)
same-bits state scan version same =
    ap (λ n. stamped.numbers_below n (λ slot. stamped.takes_version version (get_or scan.running slot None))) same.count
    ∙ same-slots (running_at state) (takes_version (plain_version version))
    (λ slot. stamped.takes_version version (get_or scan.running slot None)) (length state.lives.slots)
    (own-slot state)
    (λ slot low. takes-as version (life_at state.lives slot) (running_at state slot) (get_or scan.running slot None) (same.slots slot low))

-- the bits of some versions
all-bits : (state : State) (scan : Scanning) (versions : List Version) → IsScannedAs state scan
    → map (stamped.bits_of scan.running) versions ≡ map (bits_of (roster_of state)) (map plain_version versions)
all-bits state scan [] same = refl
all-bits state scan (version ∷ versions) same =
    ap (λ bits. bits ∷ map (stamped.bits_of scan.running) versions) (same-bits state scan version same)
    ∙ ap (λ rest. bits_of (roster_of state) (plain_version version) ∷ rest) (all-bits state scan versions same)

-- their keys
all-keys : FindsKeys → (store : KeyedStore) (versions : List Version) → All (HasKeyNumbers store.schema store.dimensions) versions
    → flat_map (λ version. version.keys) versions ≡ flat_map (λ version. key_numbers (plain store) version.row) (map plain_version versions)
all-keys finds store [] each = refl
all-keys finds store (version ∷ versions) each =
    ap (λ keys. keys ++ flat_map (λ v. v.keys) versions)
    (finds store.schema store.dimensions version (All-head (HasKeyNumbers store.schema store.dimensions) version versions each))
    ∙ ap (λ rest. key_numbers (plain store) version.row ++ rest)
    (all-keys finds store versions (All-tail (HasKeyNumbers store.schema store.dimensions) version versions each))

-- the versions of a cut, without their key numbers
plain-cut : (versions : List Version) (first end : ℕ)
    → map plain_version (stamped.versions_from first end versions) ≡ versions_from first end (map plain_version versions)
plain-cut versions first end =
    sym (take-map plain_version (end - first) (drop first versions))
    ∙ ap (take (end - first)) (sym (drop-map plain_version first versions))

-- the batch over the same positions
same-rows : FindsKeys → (state : State) (scan : Scanning) (store : KeyedStore) (first end number room : ℕ) → IsScannedAs state scan
    → AreTablesOf state store → stamped.batch_over first end number room scan.running store.versions ≡ record {
      number = number;
      first = first;
      count = end - first;
      roster = slots_of (roster_of state);
      passed = 0;
      bits = map (bits_of (roster_of state)) (versions_from first end (tables_of state).versions);
      keys = flat_map (λ version. key_numbers (tables_of state) version.row) (versions_from first end (tables_of state).versions);
      room = room;
    }
same-rows finds state scan store first end number room same tables =
    ap (λ roster. rows_with roster (map (stamped.bits_of scan.running) cut) (flat_map (λ v. v.keys) cut)) (same-roster state scan same)
    ∙ ap (λ bits. rows_with (slots_of (roster_of state)) bits (flat_map (λ v. v.keys) cut))
    (all-bits state scan cut same ∙ ap (map (bits_of (roster_of state))) (plain-cut store.versions first end))
    ∙ ap (rows_with (slots_of (roster_of state)) (map (bits_of (roster_of state)) (versions_from first end (map plain_version store.versions))))
    (all-keys finds store cut
    (All-take (HasKeyNumbers store.schema store.dimensions) (end - first) (drop first store.versions)
    (All-drop (HasKeyNumbers store.schema store.dimensions) first store.versions tables.keyed))
    ∙ ap (flat_map (λ (v : PlainVersion). key_numbers (plain store) v.row)) (plain-cut store.versions first end))
    ∙ ap (λ (s : Store). rows_with (slots_of (roster_of state)) (map (bits_of (roster_of state)) (versions_from first end s.versions))
    (flat_map (λ (v : PlainVersion). key_numbers s v.row) (versions_from first end s.versions))) tables.same
  where
    cut : List Version
    cut = stamped.versions_from first end store.versions

    rows_with : (roster : ℕ) → (bits keys : List ℕ) → Rows
    rows_with roster bits keys = record {
      number = number;
      first = first;
      count = end - first;
      roster = roster;
      passed = 0;
      bits = bits;
      keys = keys;
      room = room;
    }

-- the batch that is cut next
pub same-batch : FindsKeys → (state : State) (scan : Scanning) (store : KeyedStore) → IsSound state → IsScannedAs state scan
    → AreTablesOf state store
    → stamped.batch_of state.settings.batch (next_number state.numbers.batch (map (λ flight. flight.rows.number) state.scan.flights))
    (frame_words state) scan store.versions ≡ rows_to_cut state
same-batch finds state scan store sound same tables =
    ap (λ first. stamped.batch_over first (scanned.end_in (length store.versions) state.settings.batch scan) number (frame_words state)
    scan.running store.versions) (same-first state scan store same tables)
    ∙ ap (λ end. stamped.batch_over (first_in state) end number (frame_words state) scan.running store.versions)
    (same-last state scan store sound same tables)
    ∙ same-rows finds state scan store (first_in state) (end_in state) number (frame_words state) same tables
  where
    number : ℕ
    number = next_number state.numbers.batch (map (λ flight. flight.rows.number) state.scan.flights)
