-- The parts of a core where a query has begun its lap.
use Rattle.event_core.proofs.Words.{◌∙◌, ◌≡◌, ◌≢◌, after_run, after_start, ap, asked_at, AskedQuery, Becomes, Bool, CanAbandon, CanRun, cond, eqb, eqb-true, extent_in, false, Grouped, IsCore, is_open, IsSome, length, List, Lives, None, Option, option_and_then, option_map_or, CoreParts, refl, Scanning, set, slice_get, slot_of, Some, StarQuery, started, state_of, subst, sym, true, with_kept_at, ℕ}
use Rattle.std.proofs.lemmas.Bool.{eq-eqb}
use Rattle.continuous_scan.specs.Calls.{CanStart}
use Rattle.continuous_scan.specs.Range as scanned
use Rattle.event_core.specs.Changes.{scan_with}

-- a query that begins its lap holds a slot, and is an accepted one
abbrev pub StartsThere : Type 0
StartsThere = (parts : CoreParts) (query : ℕ) → IsCore parts → CanRun query parts.lives →
    IsSome (slot_of parts.lives query) × IsSome (asked_at parts.asked query)

-- something is kept beside it
abbrev pub StartsKept : Type 0
StartsKept = (parts : CoreParts) (query : ℕ) (asked : AskedQuery) → IsCore parts → CanRun query parts.lives →
    asked_at parts.asked query ≡ Some asked → IsSome asked.kept

-- and nothing is in its slot
abbrev pub StartsMay : Type 0
StartsMay = (parts : CoreParts) (query slot : ℕ) (asked : AskedQuery) → IsCore parts → CanRun query parts.lives →
    slot_of parts.lives query ≡ Some slot → asked_at parts.asked query ≡ Some asked →
    (slice_get parts.attached slot ≡ Some None)
    × (extent_in parts.lives.queries query ≢ 0 →
    CanStart slot (extent_in parts.lives.queries query) (length parts.tables.versions) parts.scan)

-- what becomes of the parts
abbrev pub StartsDone : Type 0
StartsDone = (parts : CoreParts) (query slot : ℕ) (asked : AskedQuery) (groups : Grouped) → IsCore parts →
    CanRun query parts.lives → slot_of parts.lives query ≡ Some slot → asked_at parts.asked query ≡ Some asked →
    asked.kept ≡ Some groups →
    Becomes (started query slot asked groups parts) (after_start query (state_of parts))

-- a query that begins its lap, as the code found it in the parts
pub record Starting (parts : CoreParts) (query slot : ℕ) (asked : AskedQuery) : Type 0 where
  pub core : IsCore parts
  pub can : CanRun query parts.lives
  pub place : slot_of parts.lives query ≡ Some slot
  pub found : asked_at parts.asked query ≡ Some asked

-- it is found
pub starting : (parts now : CoreParts) (query slot : ℕ) (asked : AskedQuery) (held : Option ℕ) (entries : List AskedQuery) → parts ≡ now
    → IsCore parts → CanRun query (state_of now).lives → held ≡ slot_of parts.lives query → held ≡ Some slot
    → entries ≡ parts.asked → asked_at entries query ≡ Some asked → Starting parts query slot asked
starting parts now query slot asked held entries is core can held-is held-some entries-is found = record {
  core = core;
  can = subst (λ (p : CoreParts). CanRun query p.lives) (sym is) can;
  place = sym held-is ∙ held-some;
  found = ap (λ list. asked_at list query) (sym entries-is) ∙ found;
}

-- it may still be answered
pub start-open : (parts now : CoreParts) (query : ℕ) → parts ≡ now → CanRun query (state_of now).lives → CanAbandon query parts.lives
start-open parts now query is can =
    let here : CanRun query parts.lives = subst (λ (p : CoreParts). CanRun query p.lives) (sym is) can in
    ap (λ life. option_map_or is_open life false) here.building

-- the scan may begin to give it rows
pub start-scans : StartsMay → (parts : CoreParts) (query slot : ℕ) (asked : AskedQuery) (extent many : ℕ) → Starting parts query slot asked
    → extent ≡ extent_in parts.lives.queries query → many ≡ length parts.tables.versions
    → extent ≢ 0 → CanStart slot extent many parts.scan
start-scans law parts query slot asked extent many starts extent-is many-is some =
    subst (λ e. CanStart slot e many parts.scan) (sym extent-is)
    (subst (λ m. CanStart slot (extent_in parts.lives.queries query) m parts.scan) (sym many-is)
    ((law parts query slot asked starts.core starts.can starts.place starts.found).1 (λ zero. some (extent-is ∙ zero))))

-- nothing is attached in its slot yet
pub start-free : StartsMay → (parts : CoreParts) (query slot : ℕ) (asked : AskedQuery) → Starting parts query slot asked
    → slice_get parts.attached slot ≡ Some None
start-free law parts query slot asked starts = (law parts query slot asked starts.core starts.can starts.place starts.found).0

-- what was kept beside it is what is taken away
pub start-kept : (parts : CoreParts) (query slot : ℕ) (asked : AskedQuery) (kept : Option Grouped) → Starting parts query slot asked
    → kept ≡ option_and_then (λ (entry : AskedQuery). entry.kept) (asked_at parts.asked query) → asked.kept ≡ kept
start-kept parts query slot asked kept starts kept-is =
    sym (kept-is ∙ ap (option_and_then (λ (entry : AskedQuery). entry.kept)) starts.found)

-- and something is
pub start-some : StartsKept → (parts : CoreParts) (query slot : ℕ) (asked : AskedQuery) (kept : Option Grouped) → Starting parts query slot asked
    → kept ≡ option_and_then (λ (entry : AskedQuery). entry.kept) (asked_at parts.asked query) → IsSome kept
start-some law parts query slot asked kept starts kept-is =
    subst (λ o. IsSome o) (start-kept parts query slot asked kept starts kept-is)
    (law parts query asked starts.core starts.can starts.found)

-- the scan with it, where a position is to come
pub record Scans (old new : Scanning) (slot : ℕ) (query : StarQuery) (snapshot extent many : ℕ) : Type 0 where
  pub none : extent ≡ 0 → new ≡ old
  pub some : extent ≢ 0 → new ≡ scanned.after_start slot query snapshot extent many old

-- that is the scan of the parts where it has begun its lap
scans-with : (parts : CoreParts) (slot : ℕ) (asked : AskedQuery) (scan : Scanning) (extent : ℕ)
    → Scans parts.scan scan slot asked.query asked.snapshot extent (length parts.tables.versions)
    → scan_with slot extent asked parts ≡ record parts { scan = scan }
scans-with parts slot asked scan extent scans = by_test (eqb extent 0) refl
  where
    by_test : (t : Bool) → eqb extent 0 ≡ t → cond {A = CoreParts} t parts (record parts {
      scan = scanned.after_start slot asked.query asked.snapshot extent (length parts.tables.versions) parts.scan;
    }) ≡ record parts { scan = scan }
    by_test true is = ap (λ s. record parts { scan = s }) (sym (scans.none (eqb-true extent 0 is)))
    by_test false is = ap (λ s. record parts { scan = s })
        (sym (scans.some (λ zero. let both : true ≡ false = sym (eq-eqb extent 0 zero) ∙ is in cc)))

-- the parts where it has begun its lap
pub start-becomes : StartsDone → (parts now : CoreParts) (query slot : ℕ) (asked : AskedQuery) (groups : Grouped) (extent many first snapshot : ℕ)
    (shared : StarQuery) (scan : Scanning) (left : List AskedQuery) (attached : List (Option Grouped)) (lives : Lives) → parts ≡ now
    → Starting parts query slot asked → asked.kept ≡ Some groups → extent ≡ extent_in parts.lives.queries query
    → many ≡ length parts.tables.versions → snapshot ≡ asked.snapshot → shared ≡ asked.query
    → first ≡ scanned.first_of parts.scan.position many
    → Scans parts.scan scan slot shared snapshot extent many
    → left ≡ with_kept_at query None parts.asked → attached ≡ set parts.attached slot (Some groups) → lives ≡ after_run query first parts.lives
    → Becomes (record parts { scan = scan; asked = left; attached = attached; lives = lives }) (after_start query (state_of now))
start-becomes law parts now query slot asked groups extent many first snapshot shared scan left attached lives is starts kept extent-is
    many-is snapshot-is shared-is first-is scans left-is attached-is lives-is =
    subst (λ seen. Becomes later (after_start query (state_of seen))) is
    (subst (λ p. Becomes p (after_start query (state_of parts))) same
    (law parts query slot asked groups starts.core starts.can starts.place starts.found kept))
  where
    later : CoreParts
    later = record parts { scan = scan; asked = left; attached = attached; lives = lives }

    as_found : Scans parts.scan scan slot asked.query asked.snapshot (extent_in parts.lives.queries query) (length parts.tables.versions)
    as_found = subst (λ q. Scans parts.scan scan slot q asked.snapshot (extent_in parts.lives.queries query) (length parts.tables.versions)) shared-is
        (subst (λ n. Scans parts.scan scan slot shared n (extent_in parts.lives.queries query) (length parts.tables.versions)) snapshot-is
        (subst (λ e. Scans parts.scan scan slot shared snapshot e (length parts.tables.versions)) extent-is
        (subst (λ m. Scans parts.scan scan slot shared snapshot extent m) many-is scans)))

    begun : lives ≡ after_run query (scanned.first_of parts.scan.position (length parts.tables.versions)) parts.lives
    begun = lives-is ∙ ap (λ f. after_run query f parts.lives) (first-is ∙ ap (scanned.first_of parts.scan.position) many-is)

    start : ℕ
    start = scanned.first_of parts.scan.position (length parts.tables.versions)

    same : started query slot asked groups parts ≡ later
    same = ap (λ (p : CoreParts). record p {
      asked = with_kept_at query None parts.asked;
      attached = set parts.attached slot (Some groups);
      lives = after_run query start parts.lives;
    }) (scans-with parts slot asked scan (extent_in parts.lives.queries query) as_found)
        ∙ ap (λ a. record parts { scan = scan; asked = a; attached = set parts.attached slot (Some groups); lives = after_run query start parts.lives })
        (sym left-is)
        ∙ ap (λ a. record parts { scan = scan; asked = left; attached = a; lives = after_run query start parts.lives }) (sym attached-is)
        ∙ ap (λ l. record parts { scan = scan; asked = left; attached = attached; lives = l }) (sym begun)
