-- The parts of a core where a query begins its lap.
use Rattle.event_core.proofs.Words.{◌<◌, ◌∙◌, ◌≡◌, ◌≢◌, Accepted, accepted_as, accepted_at, accepted_in, after_run, after_start, ap, AreTablesOf, arith, asked_at, AskedQuery, attached-count, attached_for, attached_or, attached_to, Becomes, Bool, Building, CanRun, cases_eq, cond, CoreParts, Done, eqb, eqb-true, extent_in, false, get_or, get_or-set_same, get_or_from_slice_get, Grouped, grouped_of, held-accepted, holds-slot, is_begun, is_some, IsCore, IsScannedAs, IsSome, IsSound, KeyedStore, known_in, length, List, Lives, None, Option, option_map_or, query_of, reaches_in, refl, Scanning, set, slice_get, slot_of, slot_of-begun, Some, StarQuery, Start, started, State, state_of, subst, sym, true, versions_in, with_kept_at, ℕ, ⊎_elim}
use Rattle.std.specs.Prelude.{[]}
use Rattle.std.proofs.lemmas.Bool.{eq-eqb}
use Rattle.pipeline_manager.specs.Changes.{started as started_life}
use Rattle.continuous_scan.specs.Range as scanned
use Rattle.core_state.specs.Events.{after_event}
use Rattle.core_state.proofs.ScannedRunLemmas.{same-count}
use Rattle.event_core.proofs.AskedKeptLemmas.{StaysGrouped, accepted-kept, accepted-of, asked-number, asked-rise, asked-there, beside-kept, found-alone, kept_by, stays-other}
use Rattle.event_core.proofs.KeptLifeLemmas.{kept-with}
use Rattle.event_core.proofs.CoreAtLemmas.{KeepSound, becomes-of}
use Rattle.event_core.proofs.SeenLemmas.{known-with_kept, reaches-with_life, state-seen}
use Rattle.event_core.proofs.SlotGroupsLemmas.{attached-elsewhere, attached-here}

-- where a query begins its lap, the groups of no rows are attached, where nothing was
abbrev pub StartsAttach : Type 0
StartsAttach = (state : State) (query slot : ℕ) (accepted : Accepted) → IsSound state → CanRun query state.lives
    → slot_of state.lives query ≡ Some slot → accepted_at state.accepted query ≡ Some accepted
    → (attached_to (after_start query state) ≡ set (attached_to state) slot (Some (grouped_of accepted.query [])))
    × (slice_get (attached_to state) slot ≡ Some None)

-- the scan has a query that begins a lap of some positions
abbrev pub StartsScan : Type 0
StartsScan = (state : State) (scan : Scanning) (keyed : KeyedStore) (query slot : ℕ) (accepted : Accepted) (asked : StarQuery)
    → IsSound state → CanRun query state.lives → IsScannedAs state scan → AreTablesOf state keyed
    → slot_of state.lives query ≡ Some slot → accepted_at state.accepted query ≡ Some accepted
    → query_of asked ≡ accepted.query → extent_in state.lives.queries query ≢ 0
    → IsScannedAs (after_start query state)
    (scanned.after_start slot asked accepted.snapshot (extent_in state.lives.queries query) (length keyed.versions) scan)

-- and is left by one of none
abbrev pub StartsNone : Type 0
StartsNone = (state : State) (scan : Scanning) (query slot : ℕ) → IsSound state → CanRun query state.lives → IsScannedAs state scan
    → slot_of state.lives query ≡ Some slot → extent_in state.lives.queries query ≡ 0 → IsScannedAs (after_start query state) scan

-- a query that may run holds a slot, and is an accepted one
pub start-there : (parts : CoreParts) (query : ℕ) → IsCore parts → CanRun query parts.lives
    → IsSome (slot_of parts.lives query) × IsSome (asked_at parts.asked query)
start-there parts query core can = (there, by_place (slot_of parts.lives query) refl there)
  where
    there : IsSome (slot_of parts.lives query)
    there = slot_of-begun parts.lives query core.sound.slots.lives (ap (λ o. option_map_or is_begun o false) can.building)

    by_place : (o : Option ℕ) → slot_of parts.lives query ≡ o → IsSome o → IsSome (asked_at parts.asked query)
    by_place None place some = absurd (let both : false ≡ true = some in cc)
    by_place (Some slot) place some =
        let held = holds-slot parts.lives query slot place in
        asked-there parts.lives parts.attached parts.asked query
        (held-accepted (state_of parts) slot query held.0 core.sound held.1 held.2)

-- a query that is about to begin its lap, in its slot
module _ (attach : StartsAttach) (parts : CoreParts) (query slot : ℕ) (asked : AskedQuery) (core : IsCore parts) (can : CanRun query parts.lives)
    (place : slot_of parts.lives query ≡ Some slot) (found : asked_at parts.asked query ≡ Some asked) where
  -- it is accepted
  pub start-accepted : accepted_at (state_of parts).accepted query ≡ Some (accepted_as parts.lives parts.attached asked)
  start-accepted = accepted-of parts.lives parts.attached parts.asked query asked found

  -- what is attached before and after
  attaches : (attached_to (after_start query (state_of parts))
      ≡ set (attached_to (state_of parts)) slot (Some (grouped_of (query_of asked.query) [])))
      × (slice_get (attached_to (state_of parts)) slot ≡ Some None)
  attaches = attach (state_of parts) query slot (accepted_as parts.lives parts.attached asked) core.sound can place start-accepted

  -- nothing is attached at its slot
  pub start-nothing : slice_get parts.attached slot ≡ Some None
  start-nothing = ap (λ attached. slice_get attached slot) core.attached ∙ attaches.1

  -- so nothing is attached for it
  nothing-for : attached_for parts.lives parts.attached asked.number ≡ None
  nothing-for =
      ap (attached_for parts.lives parts.attached) (asked-number parts.asked query asked found)
      ∙ attached-here parts.lives parts.attached query slot place
      ∙ get_or_from_slice_get parts.attached slot None None start-nothing

  -- the groups of no rows are kept beside it
  pub start-kept : asked.kept ≡ Some (grouped_of (query_of asked.query) [])
  start-kept =
      sym (ap (λ groups. attached_or groups asked.kept) nothing-for)
      ∙ (kept-with (state_of parts) query (accepted_as parts.lives parts.attached asked) Building core.sound start-accepted can.building).1

-- something is kept beside a query that may run
pub start-some : StartsAttach → (parts : CoreParts) (query : ℕ) (asked : AskedQuery) → IsCore parts → CanRun query parts.lives
    → asked_at parts.asked query ≡ Some asked → IsSome asked.kept
start-some attach parts query asked core can found = by_place (slot_of parts.lives query) refl (start-there parts query core can).0
  where
    by_place : (o : Option ℕ) → slot_of parts.lives query ≡ o → IsSome o → IsSome asked.kept
    by_place None place some = absurd (let both : false ≡ true = some in cc)
    by_place (Some slot) place some = ap is_some (start-kept attach parts query slot asked core can place found)

-- the parts where a query has begun its lap, with this scan
abbrev begun : (query slot start : ℕ) → Grouped → Scanning → CoreParts → CoreParts
begun query slot start groups scan parts = record parts {
  scan = scan;
  asked = with_kept_at query None parts.asked;
  attached = set parts.attached slot (Some groups);
  lives = after_run query start parts.lives;
}

-- a query that begins its lap has the groups that were kept beside it
begun-stays : (parts : CoreParts) (query slot start : ℕ) (asked : AskedQuery) (groups : Grouped) → slot_of parts.lives query ≡ Some slot
    → slot < length parts.attached → asked.number ≡ query → asked.kept ≡ Some groups
    → attached_for parts.lives parts.attached asked.number ≡ None
    → StaysGrouped parts.lives (after_run query start parts.lives) parts.attached (set parts.attached slot (Some groups)) query None asked
begun-stays parts query slot start asked groups place low number kept nothing =
    ap (λ o. attached_or o (kept_by query None asked))
    (ap (attached_for parts.lives (set parts.attached slot (Some groups))) number
    ∙ attached-here parts.lives (set parts.attached slot (Some groups)) query slot place
    ∙ get_or-set_same parts.attached slot (Some groups) None low)
    ∙ sym kept ∙ sym (ap (λ o. attached_or o asked.kept) nothing)

-- the accepted queries are as before
begun-accepted : (parts : CoreParts) (query slot start : ℕ) (asked : AskedQuery) (groups : Grouped) → IsCore parts
    → slot_of parts.lives query ≡ Some slot → slot < length parts.attached → asked_at parts.asked query ≡ Some asked
    → asked.kept ≡ Some groups → attached_for parts.lives parts.attached asked.number ≡ None
    → accepted_in (after_run query start parts.lives) (set parts.attached slot (Some groups)) (with_kept_at query None parts.asked)
    ≡ accepted_in parts.lives parts.attached parts.asked
begun-accepted parts query slot start asked groups core place low found kept nothing =
    accepted-kept parts.lives later parts.attached others query None parts.asked (λ k d within.
    let entry = get_or parts.asked k d in
    ⊎_elim
    (λ same. subst Stays (sym (found-alone parts.asked query asked (asked-rise parts core) found k d within same))
    (begun-stays parts query slot start asked groups place low (asked-number parts.asked query asked found) kept nothing))
    (λ apart. stays-other parts.lives later parts.attached others query None entry
    (attached-elsewhere parts.lives parts.attached slot (Some groups) query place) apart)
    (cases_eq entry.number query))
  where
    later : Lives
    later = after_run query start parts.lives

    others : List (Option Grouped)
    others = set parts.attached slot (Some groups)

    Stays : AskedQuery → Type 0
    Stays = StaysGrouped parts.lives later parts.attached others query None

-- a start keeps a core sound
start-sound : KeepSound → (state : State) (query : ℕ) → CanRun query state.lives → IsSound state → IsSound (after_start query state)
unfolding after_event
start-sound keep state query can sound = keep (Done (Start query)) state can sound

-- the parts stand for the core in which the query has begun its lap
begun-becomes : KeepSound → StartsAttach → (parts : CoreParts) (query slot : ℕ) (asked : AskedQuery) (groups : Grouped) (scan : Scanning)
    → IsCore parts → CanRun query parts.lives → slot_of parts.lives query ≡ Some slot → asked_at parts.asked query ≡ Some asked
    → asked.kept ≡ Some groups → IsScannedAs (after_start query (state_of parts)) scan
    → Becomes (begun query slot (scanned.first_of parts.scan.position (length parts.tables.versions)) groups scan parts)
    (after_start query (state_of parts))
begun-becomes keep attach parts query slot asked groups scan core can place found kept scans =
    becomes-of later (after_start query (state_of parts)) same (record {
      sound = start-sound keep (state_of parts) query can core.sound;
      tables = record { same = core.tables.same; keyed = core.tables.keyed };
      scanned = scans;
      attached = ap (λ attached. set attached slot (Some groups)) core.attached
          ∙ ap (set (attached_to (state_of parts)) slot) (sym kept ∙ start-kept attach parts query slot asked core can place found)
          ∙ sym (attaches attach parts query slot asked core can place found).0;
      beside = beside-kept parts.lives later.lives parts.attached later.attached query None parts.asked
          (attached-elsewhere parts.lives parts.attached slot (Some groups) query place) (λ some. refl) core.beside;
      frames = core.frames;
      words = core.words;
    })
  where
    start : ℕ
    start = scanned.first_of parts.scan.position (length parts.tables.versions)

    later : CoreParts
    later = begun query slot start groups scan parts

    low : slot < length parts.attached
    low =
        let held = holds-slot parts.lives query slot place in
        let inside = held.1 in
        let many : length parts.attached ≡ length parts.lives.slots = ap length core.attached ∙ attached-count (state_of parts) in
        omega arith

    shown : (count position : ℕ) → State
    shown count position = record (state_of parts) {
      lives = after_run query (scanned.first_of parts.scan.position count) parts.lives;
      scan = record (state_of parts).scan { position = position };
    }

    same : state_of later ≡ after_start query (state_of parts)
    same =
        state-seen later (accepted_in parts.lives parts.attached parts.asked) (known_in parts.asked) (reaches_in parts.lives.queries)
        (begun-accepted parts query slot start asked groups core place low found kept
        (nothing-for attach parts query slot asked core can place found))
        (known-with_kept query None parts.asked)
        (reaches-with_life query (started_life start (extent_in parts.lives.queries query)) parts.lives.queries)
        ∙ ap (λ count. shown count scan.position) (same-count (state_of parts) parts.tables core.tables)
        ∙ ap (shown (versions_in (state_of parts))) scans.position

-- a query begins its lap with what was kept beside it, in a scan that has it where a position is to come
pub start-becomes : KeepSound → StartsAttach → StartsScan → StartsNone → (parts : CoreParts) (query slot : ℕ) (asked : AskedQuery) (groups : Grouped)
    → IsCore parts → CanRun query parts.lives → slot_of parts.lives query ≡ Some slot → asked_at parts.asked query ≡ Some asked
    → asked.kept ≡ Some groups → Becomes (started query slot asked groups parts) (after_start query (state_of parts))
start-becomes keep attach scans none parts query slot asked groups core can place found kept = by_test (eqb extent 0) refl
  where
    extent : ℕ
    extent = extent_in parts.lives.queries query

    start : ℕ
    start = scanned.first_of parts.scan.position (length parts.tables.versions)

    later : Scanning
    later = scanned.after_start slot asked.query asked.snapshot extent (length parts.tables.versions) parts.scan

    becomes : (scan : Scanning) → IsScannedAs (after_start query (state_of parts)) scan
        → Becomes (begun query slot start groups scan parts) (after_start query (state_of parts))
    becomes scan = begun-becomes keep attach parts query slot asked groups scan core can place found kept

    by_test : (t : Bool) → eqb extent 0 ≡ t
        → Becomes (record (cond {A = CoreParts} t parts (record parts { scan = later })) {
          asked = with_kept_at query None parts.asked;
          attached = set parts.attached slot (Some groups);
          lives = after_run query start parts.lives;
        }) (after_start query (state_of parts))
    by_test true is = becomes parts.scan (none (state_of parts) parts.scan query slot core.sound can core.scanned place (eqb-true extent 0 is))
    by_test false is = becomes later (scans (state_of parts) parts.scan parts.tables query slot (accepted_as parts.lives parts.attached asked)
        asked.query core.sound can core.scanned core.tables place
        (start-accepted attach parts query slot asked core can place found) refl
        (λ zero. let both : true ≡ false = sym (eq-eqb extent 0 zero) ∙ is in cc))
