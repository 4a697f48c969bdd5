-- The parts of a core where nobody wants the answer of a query any more.
use Rattle.event_core.proofs.Words.{◌<◌, ◌∙◌, ◌≡◌, [], abandoned, after_abandon, after_abandoning, after_stop, AllPairs, ap, arith, asked_at, AskedQuery, Becomes, CanAbandon, CoreParts, empty_seat, get_or, get_or-map, get_or-set_same, Grouped, IfSome, IsCore, Known, known_in, length, List, Lives, map, map-set, None, Option, option_map_or, refill, refill-all, Roomy, Scanning, Seat, seat_as, set, slot_of, Some, state_of, statements_at, Submitted, subst, sym, with_kept_at, without_pending, ℕ}
use Rattle.std.proofs.Math.ListN as lists
use Rattle.event_core.proofs.SlotEventLemmas.{attached-count}

-- the statements of seats with room for more
abbrev pub statements_in : List (Roomy Submitted) → List (List Submitted)
statements_in seats = map (λ (seat : Roomy Submitted). seat.items) seats

-- seats that lent one of them, which was written over
seats-lent : (seats members : List (Roomy Submitted)) (seat : ℕ) (written : Roomy Submitted) → members ≡ seats
    → statements_in (refill (length seats) seats (set members seat written)) ≡ set (statements_in seats) seat written.items
seats-lent seats members seat written lent =
    ap (λ list. statements_in (refill (length seats) seats (set list seat written))) lent
    ∙ ap statements_in (refill-all seats (set seats seat written) (lists.length-set seats seat written))
    ∙ map-set (λ (s : Roomy Submitted). s.items) seats seat written

-- it has the statements that were written
seat-lent : (seats members : List (Roomy Submitted)) (seat : ℕ) (written : Roomy Submitted) → members ≡ seats → seat < length seats
    → statements_at (statements_in (refill (length seats) seats (set members seat written))) seat ≡ written.items
seat-lent seats members seat written lent there =
    ap (λ list. statements_at list seat) (seats-lent seats members seat written lent)
    ∙ get_or-set_same (statements_in seats) seat written.items []
    (let count = lists.length-map seats (λ (s : Roomy Submitted). s.items) in omega arith)

-- and the others have theirs
pub seats-others : (seats members : List (Roomy Submitted)) (seat : ℕ) (written : Roomy Submitted) → members ≡ seats → seat < length seats
    → statements_in (refill (length seats) seats (set members seat written))
    ≡ set (statements_in seats) seat (statements_at (statements_in (refill (length seats) seats (set members seat written))) seat)
seats-others seats members seat written lent there =
    seats-lent seats members seat written lent
    ∙ ap (set (statements_in seats) seat) (sym (seat-lent seats members seat written lent there))

-- the statements of a seat that is there
pub seat-here : (seats members : List (Roomy Submitted)) (seat : ℕ) (d : Roomy Submitted) → members ≡ seats → seat < length seats
    → statements_at (statements_in seats) seat ≡ (get_or members seat d).items
seat-here seats members seat d lent there =
    get_or-map (λ (s : Roomy Submitted). s.items) seats seat d [] there
    ∙ ap (λ (list : List (Roomy Submitted)). (get_or list seat d).items) (sym lent)

-- a seat that does not wait for a query any more
abbrev pub GivesUp : (query : ℕ) (old new : List Submitted) → Type 0
GivesUp query old new = (known : List Known) → seat_as known new ≡ without_pending query (seat_as known old)

-- the seat that was written is one
pub seat-written : (seats members : List (Roomy Submitted)) (seat query : ℕ) (d written : Roomy Submitted) → members ≡ seats → seat < length seats
    → GivesUp query (get_or members seat d).items written.items
    → GivesUp query (statements_at (statements_in seats) seat)
    (statements_at (statements_in (refill (length seats) seats (set members seat written))) seat)
seat-written seats members seat query d written lent there gives known =
    ap (seat_as known) (seat-lent seats members seat written lent there)
    ∙ gives known
    ∙ ap (λ list. without_pending query (seat_as known list)) (sym (seat-here seats members seat d lent there))

-- the seat of an accepted query is there
abbrev pub AbandonsSeat : Type 0
AbandonsSeat = (parts : CoreParts) (query : ℕ) (asked : AskedQuery) → IsCore parts →
    asked_at parts.asked query ≡ Some asked → asked.seat < length parts.seats

-- what becomes of the parts
abbrev pub AbandonsDone : Type 0
AbandonsDone = (parts : CoreParts) (query : ℕ) (asked : AskedQuery) (statements : List Submitted) → IsCore parts →
    CanAbandon query parts.lives → asked_at parts.asked query ≡ Some asked →
    seat_as (known_in parts.asked) statements
    ≡ without_pending query (seat_as (known_in parts.asked) (statements_at parts.seats asked.seat)) →
    Becomes (abandoned query asked.seat statements parts) (after_abandoning query (state_of parts))

-- that is the seat of a query that is abandoned
pub abandon-seat : AbandonsSeat → (parts : CoreParts) (query seat : ℕ) (asked : AskedQuery) (entries : List AskedQuery) → IsCore parts
    → entries ≡ parts.asked → asked_at entries query ≡ Some asked → seat ≡ asked.seat → seat < length parts.seats
abandon-seat law parts query seat asked entries core seen found seat-is =
    subst (λ s. s < length parts.seats) (sym seat-is)
    (law parts query asked core (ap (λ list. asked_at list query) (sym seen) ∙ found))

-- the numbers of the statements of a seat rise
pub seat-rises : (parts : CoreParts) (seat : ℕ) → IsCore parts → seat < length parts.seats
    → AllPairs (λ statement later. statement < later) (map (λ (submitted : Submitted). submitted.number) (statements_at parts.seats seat))
seat-rises parts seat core there =
    subst (λ (s : Seat). AllPairs (λ statement later. statement < later) s.submitted)
    (get_or-map (seat_as (known_in parts.asked)) parts.seats seat [] empty_seat there)
    (core.sound.seats.each seat empty_seat
    (let count = lists.length-map parts.seats (seat_as (known_in parts.asked)) in omega arith)).rising

-- the slot that a query holds has a place for groups
pub slot-attached : (parts : CoreParts) (slot : Option ℕ) → IsCore parts → IfSome slot (λ slot. slot < length parts.lives.slots)
    → IfSome slot (λ slot. slot < length parts.attached)
slot-attached parts slot core within = by_slot slot within
  where
    by_slot : (o : Option ℕ) → IfSome o (λ slot. slot < length parts.lives.slots) → IfSome o (λ slot. slot < length parts.attached)
    by_slot None low = tt
    by_slot (Some slot) low = let count = attached-count parts core in omega arith

-- the parts where it is abandoned
pub abandon-becomes : AbandonsDone → (parts now : CoreParts) (query seat : ℕ) (asked : AskedQuery) (entries left : List AskedQuery) (slot : Option ℕ)
    (seats : List (List Submitted)) (attached : List (Option Grouped)) (scan : Scanning) (lives : Lives) → parts ≡ now → IsCore parts
    → CanAbandon query (state_of now).lives → entries ≡ parts.asked → asked_at entries query ≡ Some asked → seat ≡ asked.seat
    → slot ≡ slot_of parts.lives query → GivesUp query (statements_at parts.seats seat) (statements_at seats seat)
    → seats ≡ set parts.seats seat (statements_at seats seat) → left ≡ with_kept_at query None parts.asked
    → attached ≡ option_map_or (λ slot. set parts.attached slot None) slot parts.attached
    → scan ≡ option_map_or (λ slot. after_stop slot parts.scan) slot parts.scan → lives ≡ after_abandon query parts.lives
    → Becomes (record parts { seats = seats; asked = left; attached = attached; scan = scan; lives = lives })
    (after_abandoning query (state_of now))
abandon-becomes law parts now query seat asked entries left slot seats attached scan lives is core can seen found seat-is slot-is gives
    seats-is left-is attached-is scan-is lives-is =
    subst (λ seen. CanAbandon query (state_of seen).lives → Becomes later (after_abandoning query (state_of seen))) is
    (λ can. subst (λ p. Becomes p (after_abandoning query (state_of parts))) same
    (law parts query asked (statements_at seats seat) core can (ap (λ list. asked_at list query) (sym seen) ∙ found)
    (subst (λ s. seat_as (known_in parts.asked) (statements_at seats seat)
    ≡ without_pending query (seat_as (known_in parts.asked) (statements_at parts.seats s))) seat-is (gives (known_in parts.asked))))) can
  where
    later : CoreParts
    later = record parts { seats = seats; asked = left; attached = attached; scan = scan; lives = lives }

    detaches : attached ≡ option_map_or (λ slot. set parts.attached slot None) (slot_of parts.lives query) parts.attached
    detaches = attached-is ∙ ap (λ o. option_map_or (λ slot. set parts.attached slot None) o parts.attached) slot-is

    stops : scan ≡ option_map_or (λ slot. after_stop slot parts.scan) (slot_of parts.lives query) parts.scan
    stops = scan-is ∙ ap (λ o. option_map_or (λ slot. after_stop slot parts.scan) o parts.scan) slot-is

    written : seats ≡ set parts.seats asked.seat (statements_at seats seat)
    written = seats-is ∙ ap (λ s. set parts.seats s (statements_at seats seat)) seat-is

    same : abandoned query asked.seat (statements_at seats seat) parts ≡ later
    same = ap (λ s. record (abandoned query asked.seat (statements_at seats seat) parts) { seats = s }) (sym written)
        ∙ ap (λ a. record (abandoned query asked.seat (statements_at seats seat) parts) { seats = seats; asked = a }) (sym left-is)
        ∙ ap (λ a. record (abandoned query asked.seat (statements_at seats seat) parts) { seats = seats; asked = left; attached = a })
        (sym detaches)
        ∙ ap (λ s. record later { scan = s; lives = after_abandon query parts.lives }) (sym stops)
        ∙ ap (λ l. record later { lives = l }) (sym lives-is)
