-- The parts of a new core.
use Rattle.event_core.proofs.Words.{◌*◌, ◌+◌, ◌∙◌, ◌∷◌, ◌≡◌, ◌≤◌, [], All, All-nil, ap, AreWithin, arith, AskedQueries, AskedQuery, Becomes, CoreParts, empty_core, empty_store, first_parts, Flight, frame_words, frames_of, Free, HasRoom, IsKeyed, KeyedStore, List, Lives, Logged, map, new_scan, None, parts_by, plain, plain_version, refl, replicate, Roomy, RunSettings, Scanning, Stock, Store, Submitted, subst, sym, Version, ℕ}
use Rattle.query_meaning.specs.Keyed.{HasKeyNumbers}
use Rattle.shared_distributor.specs.Shared.{SharedGroups}
use Rattle.core_state.specs.State as state
use Rattle.core_parts.specs.Filters.{no_filters}
use Rattle.event_core.specs.CoreParts.{first_marks}

-- the law of new cores
abbrev NewLaw : Type 0
NewLaw = (settings : RunSettings) (frames : List (List ℕ)) (tables : KeyedStore) → AreWithin settings
    → frames ≡ replicate (frames_of settings) (replicate (frame_words (empty_core settings)) 0)
    → plain tables ≡ empty_store → IsKeyed tables → Becomes (first_parts settings tables frames) (empty_core settings)

-- where there is no version, each has its key numbers
none-keyed : (P : Version → Type 0) (versions : List Version) → map plain_version versions ≡ [] → All P versions
none-keyed P [] none = All-nil P
none-keyed P (version ∷ versions) none = absurd (let some : plain_version version ∷ map plain_version versions ≡ [] = none in cc)

-- parts of which nothing was cut and no number given
abbrev parts_of : RunSettings → KeyedStore → List Logged → List (List Submitted) → List AskedQuery → Lives → state.Filters → Scanning
    → SharedGroups → List Flight → Stock → CoreParts
parts_of settings tables log seats asked lives filters scan groups flights pool = record {
  settings = settings;
  tables = tables;
  log = log;
  seats = seats;
  asked = asked;
  lives = lives;
  filters = filters;
  scan = scan;
  attached = groups.attached;
  out = groups.out;
  flights = flights;
  pool = pool;
  cut = 0;
  numbers = record { statement = 0; batch = 0; version = 0 };
  marks = first_marks;
}

-- parts that are each as in a new core are its parts
first-of : (settings : RunSettings) (tables : KeyedStore) (log : List Logged) (seats : List (List Submitted)) (asked : List AskedQuery)
    (lives : Lives) (filters : state.Filters) (scan : Scanning) (groups : SharedGroups) (flights : List Flight) (pool : Stock)
    (frames : List (List ℕ)) → log ≡ [] → seats ≡ replicate settings.seats [] → asked ≡ []
    → lives ≡ record { queries = []; slots = replicate settings.slots Free; filters = 0 } → filters ≡ no_filters
    → scan ≡ new_scan settings.slots → groups ≡ record { attached = replicate settings.slots None; out = replicate settings.seats None } → flights ≡ []
    → pool ≡ record { made = frames_of settings; words = 16 + settings.batch * 16; inside = frames }
    → parts_of settings tables log seats asked lives filters scan groups flights pool ≡ first_parts settings tables frames
first-of settings tables log seats asked lives filters scan groups flights pool frames same_log same_seats same_asked same_lives same_filters same_scan same_groups same_flights same_pool =
    ap (λ one. parts_of settings tables one seats asked lives filters scan groups flights pool) same_log
    ∙ ap (λ one. parts_of settings tables [] one asked lives filters scan groups flights pool) same_seats
    ∙ ap (λ one. parts_of settings tables [] no_seats one lives filters scan groups flights pool) same_asked
    ∙ ap (λ one. parts_of settings tables [] no_seats [] one filters scan groups flights pool) same_lives
    ∙ ap (λ one. parts_of settings tables [] no_seats [] no_lives one scan groups flights pool) same_filters
    ∙ ap (λ one. parts_of settings tables [] no_seats [] no_lives no_filters one groups flights pool) same_scan
    ∙ ap (λ one. parts_of settings tables [] no_seats [] no_lives no_filters (new_scan settings.slots) one flights pool) same_groups
    ∙ ap (λ one. parts_of settings tables [] no_seats [] no_lives no_filters (new_scan settings.slots) none one pool) same_flights
    ∙ ap (λ one. parts_of settings tables [] no_seats [] no_lives no_filters (new_scan settings.slots) none [] one) same_pool
  where
    no_seats : List (List Submitted)
    no_seats = replicate settings.seats []

    no_lives : Lives
    no_lives = record { queries = []; slots = replicate settings.slots Free; filters = 0 }

    none : SharedGroups
    none = record { attached = replicate settings.slots None; out = replicate settings.seats None }

-- the parts that the code makes are those of an empty core
pub becomes-empty : NewLaw → (settings : RunSettings) (tables : KeyedStore) (log : List Logged) (seats : List (Roomy Submitted))
    (asked : AskedQueries) (lives : Lives) (filters : state.Filters) (scan : Scanning) (groups : SharedGroups)
    (flights : Roomy Flight) (pool : Stock) → AreWithin settings → plain tables ≡ empty_store → log ≡ []
    → map (λ seat. seat.items) seats ≡ replicate settings.seats [] → asked.items ≡ []
    → lives ≡ record { queries = []; slots = replicate settings.slots Free; filters = 0 } → filters ≡ no_filters
    → scan ≡ new_scan settings.slots → groups ≡ record { attached = replicate settings.slots None; out = replicate settings.seats None } → flights.items ≡ []
    → pool ≡ record {
      made = frames_of settings;
      words = 16 + settings.batch * 16;
      inside = replicate (frames_of settings) (replicate (16 + settings.batch * 16) 0);
    }
    → Becomes (parts_by settings tables log seats asked lives filters scan groups flights pool 0 0 0 0 first_marks) (empty_core settings)
becomes-empty law settings tables log seats asked lives filters scan groups flights pool within none same_log same_seats same_asked same_lives same_filters same_scan same_groups same_flights same_pool =
    subst (λ parts. Becomes parts (empty_core settings))
    (sym (first-of settings tables log (map (λ (seat : Roomy Submitted). seat.items) seats) asked.items lives filters scan groups
    flights.items pool (replicate (frames_of settings) (replicate (16 + settings.batch * 16) 0)) same_log same_seats same_asked same_lives same_filters same_scan same_groups same_flights same_pool))
    (law settings (replicate (frames_of settings) (replicate (16 + settings.batch * 16) 0)) tables within refl none
    (none-keyed (HasKeyNumbers tables.schema tables.dimensions) tables.versions (ap (λ (store : Store). store.versions) none)))

-- room for as many batches as there are frames is all the room that is wanted
pub room-made : (settings : RunSettings) (flights : Roomy Flight) → frames_of settings ≤ flights.room → HasRoom settings flights
room-made settings flights room = omega arith
