-- A batch that is cut: what becomes of the parts is what becomes of the state.
use Rattle.event_core.proofs.Words.{[], ◌++◌, ◌+◌, ◌-◌, ◌∙◌, ◌∷◌, ◌≡◌, after_cut, after_cutting, ap, AreHolders, arith, attached_to, batch_of, Becomes, cond, CoreParts, counted, Cut, cut_into, Event, false, Flight, flight_as, flights_as, frame_words, IsCore, IsEnabled, IsScannedAs, IsSound, IsTrue, Known, known_in, last_after, LeavesAttached, length, length-append, List, map, MayCut, next_number, None, Reach, reaches_in, refl, roster_of, Scanning, some_run, State, state_of, subst, sym, ℕ}
use Rattle.std.proofs.lemmas.List.{map-append}
use Rattle.continuous_scan.specs.Range as scanned
use Rattle.core_state.specs.Cutting.{end_in, first_in, rows_to_cut}
use Rattle.core_state.specs.Events.{after_event}
use Rattle.core_state.specs.State as state
use Rattle.event_core.proofs.CutHolderLemmas.{RosterLaw, roster-found}
use Rattle.event_core.proofs.SeenLemmas.{reaches-cut}

-- the number of a cut's batch is the next one
abbrev number_in : CoreParts → ℕ
number_in parts = next_number parts.numbers.batch (map (λ flight. flight.batch.number) parts.flights)

-- the batches in flight have the numbers that the code's have
same-numbers : (known : List Known) (reaches : List Reach) (flights : List Flight)
    → map (λ flight. flight.batch.number) flights ≡ map (λ flight. flight.rows.number) (flights_as known reaches flights)
same-numbers known reaches [] = refl
same-numbers known reaches (flight ∷ flights) = ap (λ rest. flight.batch.number ∷ rest) (same-numbers known reaches flights)

-- the scan cuts the batch that the core cuts
abbrev pub BatchLaw : Type 0
BatchLaw = (parts : CoreParts) → IsCore parts
    → batch_of parts.settings.batch
    (next_number parts.numbers.batch (map (λ flight. flight.rows.number) (state_of parts).scan.flights))
    (frame_words (state_of parts)) parts.scan parts.tables.versions ≡ rows_to_cut (state_of parts)

-- so the batch of the parts is that of the state
same-rows : BatchLaw → (parts : CoreParts) (frame : List ℕ) → IsCore parts → length frame ≡ parts.pool.words
    → batch_of parts.settings.batch (number_in parts) (length frame) parts.scan parts.tables.versions ≡ rows_to_cut (state_of parts)
same-rows law parts frame core long =
    ap (λ used. batch_of parts.settings.batch (next_number parts.numbers.batch used) (length frame) parts.scan parts.tables.versions)
    (same-numbers (known_in parts.asked) (reaches_in parts.lives.queries) parts.flights)
    ∙ ap (λ room. batch_of parts.settings.batch
    (next_number parts.numbers.batch (map (λ flight. flight.rows.number) (state_of parts).scan.flights))
    room parts.scan parts.tables.versions) (long ∙ core.words)
    ∙ law parts core

-- the batch in flight that is cut
abbrev new_flight : (holders frame : List ℕ) → CoreParts → Flight
new_flight holders frame parts = record {
  batch = batch_of parts.settings.batch (number_in parts) (length frame) parts.scan parts.tables.versions;
  holders = holders;
  hand = None;
  lent = false;
}

-- and with its roster it is the batch in flight of the state
same-flight : BatchLaw → RosterLaw → (parts : CoreParts) (holders frame : List ℕ) → IsCore parts → length frame ≡ parts.pool.words
    → AreHolders parts.lives holders
    → flight_as (known_in parts.asked) (reaches_in parts.lives.queries) (new_flight holders frame parts)
    ≡ record { rows = rows_to_cut (state_of parts); roster = roster_of (state_of parts); hand = None }
same-flight batches rosters parts holders frame core long held =
    ap (λ roster. record {
      rows = batch_of parts.settings.batch (number_in parts) (length frame) parts.scan parts.tables.versions;
      roster = roster;
      hand = None;
    }) (roster-found rosters parts holders core held)
    ∙ ap (λ rows. record { rows = rows; roster = roster_of (state_of parts); hand = None }) (same-rows batches parts frame core long)

-- the state behind a cut of these positions, with these batches and so many free frames
abbrev cut_state : CoreParts → (first end position : ℕ) → (flights : List state.Flight) → (free : ℕ) → State
cut_state parts first end position flights free = record (state_of parts) {
  lives = after_cut first (end - 1) parts.lives;
  scan = record { position = position; flights = flights; free = free; cut = counted parts.cut (end - first) };
  numbers = record parts.numbers { batch = last_after parts.numbers.batch };
}

-- it is the same where each of these is
cut_state-same : (parts : CoreParts) (first first' end end' position position' : ℕ) (flights flights' : List state.Flight) (free free' : ℕ)
    → first ≡ first' → end ≡ end' → position ≡ position' → flights ≡ flights' → free ≡ free'
    → cut_state parts first end position flights free ≡ cut_state parts first' end' position' flights' free'
cut_state-same parts first first' end end' position position' flights flights' free free' firsts ends positions same frees =
    ap (λ n. cut_state parts n end position flights free) firsts
    ∙ ap (λ n. cut_state parts first' n position flights free) ends
    ∙ ap (λ n. cut_state parts first' end' n flights free) positions
    ∙ ap (λ list. cut_state parts first' end' position' list free) same
    ∙ ap (cut_state parts first' end' position' flights') frees

-- a scan in which some query runs stands behind what it cuts
stands-behind : (rows size : ℕ) (scan : Scanning) → IsTrue (some_run scan.running)
    → (scanned.after_cut rows size scan).position ≡ scanned.end_in rows size scan
stands-behind rows size scan runs =
    ap (λ t. (cond {A = Scanning} t (record {
      position = scanned.end_in rows size scan;
      running = map (scanned.cut_slot (scanned.first_in rows scan) (scanned.end_in rows size scan)) scan.running;
    }) scan).position) runs

-- one frame less is free
less-free : (inside all : List (List ℕ)) (frame : List ℕ) → all ≡ inside ++ frame ∷ [] → length inside ≡ length all - 1
less-free inside all frame is =
    let long : length all ≡ length inside + 1 = ap length is ∙ length-append inside (frame ∷ []) in
    omega arith

-- the batches in flight behind a cut
flights-cut : BatchLaw → RosterLaw → (parts : CoreParts) (holders frame : List ℕ) (first last : ℕ) → IsCore parts
    → length frame ≡ parts.pool.words → AreHolders parts.lives holders
    → flights_as (known_in parts.asked) (reaches_in (after_cut first last parts.lives).queries) (parts.flights ++ new_flight holders frame parts ∷ [])
    ≡ (state_of parts).scan.flights
    ++ record { rows = rows_to_cut (state_of parts); roster = roster_of (state_of parts); hand = None } ∷ []
flights-cut batches rosters parts holders frame first last core long held =
    ap (λ reaches. flights_as (known_in parts.asked) reaches (parts.flights ++ new_flight holders frame parts ∷ []))
    (reaches-cut first last parts.lives.queries)
    ∙ map-append (flight_as (known_in parts.asked) (reaches_in parts.lives.queries)) parts.flights (new_flight holders frame parts ∷ [])
    ∙ ap (λ one. (state_of parts).scan.flights ++ one ∷ []) (same-flight batches rosters parts holders frame core long held)

-- the first position of a cut, and the one behind its last, are those of the core
abbrev IsRange : CoreParts → Type 0
IsRange parts =
    (scanned.first_in (length parts.tables.versions) parts.scan ≡ first_in (state_of parts))
    × (scanned.end_in (length parts.tables.versions) parts.settings.batch parts.scan ≡ end_in (state_of parts))

-- the state of the parts behind a cut
state-cut : BatchLaw → RosterLaw → (parts : CoreParts) (holders frame : List ℕ) (inside : List (List ℕ)) → IsCore parts
    → IsTrue (some_run parts.scan.running) → IsRange parts → parts.pool.inside ≡ inside ++ frame ∷ []
    → length frame ≡ parts.pool.words → AreHolders parts.lives holders
    → state_of (cut_into holders frame inside (number_in parts) parts) ≡ after_cutting (state_of parts)
state-cut batches rosters parts holders frame inside core runs range is long held =
    cut_state-same parts first (first_in (state_of parts)) end (end_in (state_of parts))
    (scanned.after_cut (length parts.tables.versions) parts.settings.batch parts.scan).position (end_in (state_of parts))
    (flights_as (known_in parts.asked) (reaches_in (after_cut first (end - 1) parts.lives).queries) (parts.flights ++ new_flight holders frame parts ∷ []))
    ((state_of parts).scan.flights ++ record { rows = rows_to_cut (state_of parts); roster = roster_of (state_of parts); hand = None } ∷ [])
    (length inside) (length parts.pool.inside - 1)
    range.0 range.1
    (stands-behind (length parts.tables.versions) parts.settings.batch parts.scan runs ∙ range.1)
    (flights-cut batches rosters parts holders frame first (end - 1) core long held)
    (less-free inside parts.pool.inside frame is)
  where
    first : ℕ
    first = scanned.first_in (length parts.tables.versions) parts.scan

    end : ℕ
    end = scanned.end_in (length parts.tables.versions) parts.settings.batch parts.scan

-- what is attached stays where no query begins to get rows or ceases to
abbrev pub AttachedLaw : Type 0
AttachedLaw = (before : State) (event : Event) → IsSound before → IsEnabled before event → LeavesAttached event
    → attached_to (after_event event before) ≡ attached_to before

-- a cut is such an event
attached-cut : AttachedLaw → (before : State) → IsSound before → MayCut before → attached_to (after_cutting before) ≡ attached_to before
unfolding after_event
attached-cut law before sound may = law before Cut sound may tt

-- the parts behind a cut are those of a core
core-cut : AttachedLaw → (parts : CoreParts) (holders frame : List ℕ) (inside : List (List ℕ)) → IsCore parts → MayCut (state_of parts)
    → IsSound (after_cutting (state_of parts))
    → IsScannedAs (after_cutting (state_of parts)) (scanned.after_cut (length parts.tables.versions) parts.settings.batch parts.scan)
    → state_of (cut_into holders frame inside (number_in parts) parts) ≡ after_cutting (state_of parts)
    → IsCore (cut_into holders frame inside (number_in parts) parts)
core-cut law parts holders frame inside core may sound scan same = record {
  sound = subst IsSound (sym same) sound;
  tables = record { same = core.tables.same; keyed = core.tables.keyed };
  scanned = subst (λ now. IsScannedAs now (scanned.after_cut (length parts.tables.versions) parts.settings.batch parts.scan)) (sym same) scan;
  attached = core.attached ∙ sym (attached-cut law (state_of parts) core.sound may) ∙ ap attached_to (sym same);
  beside = core.beside;
  frames = core.frames;
  words = core.words;
}

-- the parts behind a cut
pub becomes-cut : BatchLaw → RosterLaw → AttachedLaw → (parts : CoreParts) (holders frame : List ℕ) (inside : List (List ℕ)) → IsCore parts
    → MayCut (state_of parts) → parts.pool.inside ≡ inside ++ frame ∷ [] → length frame ≡ parts.pool.words → AreHolders parts.lives holders
    → IsTrue (some_run parts.scan.running) → IsRange parts
    → IsSound (after_cutting (state_of parts))
    → IsScannedAs (after_cutting (state_of parts)) (scanned.after_cut (length parts.tables.versions) parts.settings.batch parts.scan)
    → Becomes (cut_into holders frame inside (number_in parts) parts) (after_cutting (state_of parts))
becomes-cut batches rosters attached parts holders frame inside core may is long held runs range sound scan =
    let same = state-cut batches rosters parts holders frame inside core runs range is long held in
    record { state = same; core = core-cut attached parts holders frame inside core may sound scan same }
