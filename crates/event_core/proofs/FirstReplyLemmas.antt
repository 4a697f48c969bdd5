-- The first statement that a seat of a core waits for, and what may be taken as the reply to it.
use Rattle.event_core.proofs.Words.{◌<◌, ◌∙◌, ◌≡◌, [], Accepted, accepted_as, accepted_at, accepted_in, ap, Asked, asked_at, AskedQuery, attached-get, attached_for, attached_or, Awaited, awaited_as, cases_lt, CoreParts, empty_seat, false, find-passes, first_of, get_or, get_or_from_slice_get, get_or_past, gets, gets_rows, Grouped, holder_of, holds-slot, is_open, IsAsked, IsCore, IsSome, IsSomeAnd, IsSound, IsTrue, kept-none, kept_by, kept_for, Known, known_in, length, Life, life-accepted, life_of, List, next_ready, None, none-some, Option, option_and_then, option_map, option_map_or, Pending, pending_as, Query, query_in, query_of, QueryLife, Ready, ready_to, ready_with, refl, Replied, Reply, Seat, seat_as, seat_at, slice_get, slice_get_within, slot_of, snapshot_for, Some, Standing, State, state_of, statements_at, Submitted, subst, sym, true, Waits, ℕ, ⊎_elim}
use Rattle.std.proofs.Math.ListN as lists
use Rattle.reply_text.specs.declared.reply.Reply.TheVariants.{Memory}
use Rattle.pipeline_manager.specs.declared.life.Life.TheVariants as life
use Rattle.core_state.specs.Sound.{IsAwaited}
use Rattle.core_state.specs.Submitting.{Grouping, Whole, ready_by}
use Rattle.core_parts.specs.Seats.{is_waited}
use Rattle.event_core.specs.Taking.{groups_or_memory}
use Rattle.event_core.proofs.AskedKeptLemmas.{accepted-found, accepted-of, asked-number, asked-there}
use Rattle.event_core.proofs.CutHolderLemmas.{known-found, known_of}
use Rattle.event_core.proofs.KeptLifeLemmas.{kept-with}
use Rattle.core_parts.proofs.SeatLemmas.{IsPendingAs, pending-first, pending-waited}

-- where nothing may be taken the first statement that a seat waits for is a query that may still be answered
abbrev pub WaitsOpen : Type 0
WaitsOpen = (state : State) (seat : ℕ) (pending : Pending) → IsSound state → slice_get (seat_at state seat).pending 0 ≡ Some pending
    → next_ready state seat ≡ None
    → (query : Query) × (snapshot : ℕ) × (pending.awaited ≡ Asked query snapshot)
    × IsSomeAnd (life_of state.lives pending.statement) (λ now. IsTrue (is_open now))

-- the seat of a number
pub seat-of : (parts : CoreParts) (seat : ℕ)
    → seat_at (state_of parts) seat ≡ seat_as (known_in parts.asked) (statements_at parts.seats seat)
seat-of parts seat = lists.get_or-map (seat_as (known_in parts.asked)) parts.seats seat []

-- what may be taken as the reply to a statement that is waited for, if one is
abbrev ready_for : State → Option Pending → Option Ready
ready_for state pending = option_and_then (λ p. ready_to state p.statement p.awaited) pending

-- what is pending first is the first statement that is waited for
pub first-pending : (parts : CoreParts) (seat : ℕ)
    → slice_get (seat_at (state_of parts) seat).pending 0
    ≡ option_and_then (pending_as (known_in parts.asked)) (first_of (statements_at parts.seats seat))
first-pending parts seat =
    ap (λ (s : Seat). slice_get s.pending 0) (seat-of parts seat)
    ∙ sym (pending-first (known_in parts.asked) (statements_at parts.seats seat))

-- what may be taken, where the first statement is this one
next-of : (parts : CoreParts) (seat : ℕ) (o : Option Submitted) → first_of (statements_at parts.seats seat) ≡ o
    → next_ready (state_of parts) seat ≡ ready_for (state_of parts) (option_and_then (pending_as (known_in parts.asked)) o)
next-of parts seat o is =
    ap (ready_for (state_of parts)) (first-pending parts seat ∙ ap (option_and_then (pending_as (known_in parts.asked))) is)

-- the statement, if it stands so
abbrev standing_pending : CoreParts → (number : ℕ) → Standing → Option Pending
standing_pending parts number standing =
    option_map (λ awaited. record { statement = number; awaited = awaited }) (awaited_as (known_in parts.asked) number standing)

next-standing : (parts : CoreParts) (seat : ℕ) (first : Submitted) (standing : Standing)
    → first_of (statements_at parts.seats seat) ≡ Some first → first.standing ≡ standing
    → next_ready (state_of parts) seat ≡ ready_for (state_of parts) (standing_pending parts first.number standing)
next-standing parts seat first standing is stands =
    next-of parts seat (Some first) is
    ∙ ap (λ s. ready_for (state_of parts) (standing_pending parts first.number s)) stands

-- nothing may be taken where nothing is waited for
pub next-nothing : (parts : CoreParts) (seat : ℕ) → IsCore parts → first_of (statements_at parts.seats seat) ≡ None
    → next_ready (state_of parts) seat ≡ None
next-nothing parts seat core is = next-of parts seat None is

-- a reply that waits may be taken
pub next-reply : (parts : CoreParts) (seat : ℕ) (first : Submitted) (reply : Reply) → IsCore parts
    → first_of (statements_at parts.seats seat) ≡ Some first → first.standing ≡ Waits reply
    → next_ready (state_of parts) seat ≡ Some (Whole reply)
next-reply parts seat first reply core is stands = next-standing parts seat first (Waits reply) is stands

-- what is waited for as the reply to a query, where the core may have accepted it
abbrev awaited_of : Option Accepted → Awaited
awaited_of accepted = option_map_or (λ entry. Asked entry.query entry.snapshot) (option_map known_of accepted) (Replied Memory)

-- what may be taken of a query
next-asked : (parts : CoreParts) (seat : ℕ) (first : Submitted) (o : Option Accepted)
    → first_of (statements_at parts.seats seat) ≡ Some first → first.standing ≡ IsAsked
    → accepted_at (accepted_in parts.lives parts.attached parts.asked) first.number ≡ o
    → next_ready (state_of parts) seat ≡ ready_to (state_of parts) first.number (awaited_of o)
next-asked parts seat first o is stands found =
    next-standing parts seat first IsAsked is stands
    ∙ ap (λ known. ready_to (state_of parts) first.number (option_map_or (λ entry. Asked entry.query entry.snapshot) known (Replied Memory)))
    (known-found parts.lives parts.attached parts.asked first.number ∙ ap (option_map known_of) found)

-- a query that may still be answered replies nothing
open-none : (state : State) (query snapshot : ℕ) (o : Option Life) → option_map_or is_open o false ≡ true
    → option_and_then (ready_by state query snapshot) o ≡ None
open-none state query snapshot (Some life.Answered) opens = cc
open-none state query snapshot (Some life.Spoiled) opens = cc
open-none state query snapshot other opens = refl

-- a query with a life was accepted
lives-accepted : (state : State) (query : ℕ) (now : Life) → IsSound state → life_of state.lives query ≡ Some now
    → IsSome (accepted_at state.accepted query)
lives-accepted state query now sound is = life-accepted state query sound (by_query (query_in state.lives.queries query) is)
  where
    by_query : (o : Option QueryLife) → option_map (λ (e : QueryLife). e.life) o ≡ Some now → IsSome o
    by_query None e = absurd (none-some now e)
    by_query (Some entry) e = refl

-- nothing may be taken where the first statement is a query that may still be answered
pub next-open : (parts : CoreParts) (seat : ℕ) (first : Submitted) → IsCore parts
    → first_of (statements_at parts.seats seat) ≡ Some first → first.standing ≡ IsAsked
    → option_map_or is_open (life_of parts.lives first.number) false ≡ true → next_ready (state_of parts) seat ≡ None
next-open parts seat first core is stands opens = by_life (life_of parts.lives first.number) refl opens
  where
    state : State
    state = state_of parts

    by_accepted : (now : Life) (o : Option Accepted) → accepted_at state.accepted first.number ≡ o → IsSome o
        → next_ready state seat ≡ None
    by_accepted now None found some = absurd (let both : false ≡ true = some in cc)
    by_accepted now (Some accepted) found some =
        next-asked parts seat first (Some accepted) is stands found
        ∙ open-none state first.number accepted.snapshot (life_of parts.lives first.number) opens

    by_life : (o : Option Life) → life_of parts.lives first.number ≡ o → option_map_or is_open o false ≡ true
        → next_ready state seat ≡ None
    by_life None lives e = absurd (let both : false ≡ true = e in cc)
    by_life (Some now) lives e =
        by_accepted now (accepted_at state.accepted first.number) refl (lives-accepted state first.number now core.sound lives)

-- `memory` may be taken of a query that found none
pub next-spoiled : (parts : CoreParts) (seat : ℕ) (first : Submitted) → IsCore parts
    → first_of (statements_at parts.seats seat) ≡ Some first → first.standing ≡ IsAsked
    → life_of parts.lives first.number ≡ Some life.Spoiled → next_ready (state_of parts) seat ≡ Some (Whole Memory)
next-spoiled parts seat first core is stands lives = by_accepted (accepted_at (state_of parts).accepted first.number) refl
  where
    by_accepted : (o : Option Accepted) → accepted_at (state_of parts).accepted first.number ≡ o
        → next_ready (state_of parts) seat ≡ Some (Whole Memory)
    by_accepted None found = next-asked parts seat first None is stands found
    by_accepted (Some accepted) found =
        next-asked parts seat first (Some accepted) is stands found
        ∙ ap (option_and_then (ready_by (state_of parts) first.number accepted.snapshot)) lives

-- the first statement that is waited for, as the state has it
pub record IsFirst (parts : CoreParts) (seat : ℕ) (first : Submitted) (pending : Pending) : Type 0 where
  pub is : slice_get (seat_at (state_of parts) seat).pending 0 ≡ Some pending
  pub statement : pending.statement ≡ first.number
  pub awaited : IsAwaited (state_of parts).accepted (state_of parts).lives.queries pending.statement pending.awaited

pub first-is : (parts : CoreParts) (seat : ℕ) (first : Submitted) → IsCore parts
    → first_of (statements_at parts.seats seat) ≡ Some first → (pending : Pending) × IsFirst parts seat first pending
first-is parts seat first core is = (found.0, record { is = here; statement = found.1.statement; awaited = waits })
  where
    known : List Known
    known = known_in parts.asked

    found : (pending : Pending) × IsPendingAs known first.number first.standing pending
    found = pending-waited known first.number first.standing
        (find-passes (λ (s : Submitted). is_waited s.standing) (statements_at parts.seats seat) first is)

    here : slice_get (seat_at (state_of parts) seat).pending 0 ≡ Some found.0
    here = first-pending parts seat ∙ ap (option_and_then (pending_as known)) is ∙ found.1.is

    there : seat < length (state_of parts).seats
    there = ⊎_elim (λ low. low)
        (λ past. absurd (none-some found.0
        (sym (ap (λ (s : Seat). slice_get s.pending 0) (get_or_past (state_of parts).seats seat empty_seat past)) ∙ here)))
        (cases_lt seat (length (state_of parts).seats))

    pending : List Pending
    pending = (seat_at (state_of parts) seat).pending

    waits : IsAwaited (state_of parts).accepted (state_of parts).lives.queries found.0.statement found.0.awaited
    waits =
        subst (λ (p : Pending). IsAwaited (state_of parts).accepted (state_of parts).lives.queries p.statement p.awaited)
        (get_or_from_slice_get pending 0 found.0 found.0 here)
        ((core.sound.seats.each seat empty_seat there).awaited 0 found.0 (slice_get_within pending 0 found.0 here))

-- what is not open may be taken
closed-some : WaitsOpen → (parts : CoreParts) (seat : ℕ) (first : Submitted) → IsCore parts
    → first_of (statements_at parts.seats seat) ≡ Some first
    → option_map_or is_open (life_of parts.lives first.number) false ≡ false → next_ready (state_of parts) seat ≡ None → ⊥
closed-some waits parts seat first core is closed none =
    by_life (life_of parts.lives first.number) closed
    (subst (λ n. IsSomeAnd (life_of parts.lives n) (λ now. IsTrue (is_open now))) pending.1.statement
    (waits (state_of parts) seat pending.0 core.sound pending.1.is none).3)
  where
    pending : (pending : Pending) × IsFirst parts seat first pending
    pending = first-is parts seat first core is

    by_life : (o : Option Life) → option_map_or is_open o false ≡ false → IsSomeAnd o (λ now. IsTrue (is_open now)) → ⊥
    by_life None e opens = opens
    by_life (Some now) e opens = let both : true ≡ false = sym opens ∙ e in cc

-- nothing is attached for a query that gets no rows
pub nothing-attached : (parts : CoreParts) (query : ℕ) → IsCore parts → gets parts.lives query ≡ false
    → attached_for parts.lives parts.attached query ≡ None
nothing-attached parts query core none = by_place (slot_of parts.lives query) refl
  where
    by_place : (o : Option ℕ) → slot_of parts.lives query ≡ o
        → option_and_then (λ slot. get_or parts.attached slot None) o ≡ None
    by_place None place = refl
    by_place (Some slot) place =
        let held = holds-slot parts.lives query slot place in
        ap (λ attached. get_or attached slot None) core.attached
        ∙ attached-get (state_of parts) slot held.1
        ∙ ap (λ now. kept_by (state_of parts) (holder_of now)) held.2
        ∙ kept-none (state_of parts) query none

-- where all that is kept of a query is nothing, nothing is beside it
nothing-beside : (attached kept : Option Grouped) → attached_or attached kept ≡ None → kept ≡ None
nothing-beside None kept none = none
nothing-beside (Some groups) kept none = absurd (none-some groups (sym none))

-- what may be taken of an answered query is what is kept beside it
next-answered : (parts : CoreParts) (seat : ℕ) (first : Submitted) (asked : AskedQuery) → IsCore parts
    → first_of (statements_at parts.seats seat) ≡ Some first → first.standing ≡ IsAsked
    → life_of parts.lives first.number ≡ Some life.Answered → asked_at parts.asked first.number ≡ Some asked
    → next_ready (state_of parts) seat ≡ option_map (Grouping asked.snapshot) asked.kept
next-answered parts seat first asked core is stands lives found =
    next-asked parts seat first (Some accepted) is stands there
    ∙ ap (option_and_then (ready_by (state_of parts) first.number asked.snapshot)) lives
    ∙ ap (λ o. option_map (Grouping asked.snapshot) (option_map_or (λ (a : Accepted). a.groups) o None)) there
    ∙ ap (λ attached. option_map (Grouping asked.snapshot) (attached_or attached asked.kept)) apart
  where
    accepted : Accepted
    accepted = accepted_as parts.lives parts.attached asked

    there : accepted_at (state_of parts).accepted first.number ≡ Some accepted
    there = accepted-of parts.lives parts.attached parts.asked first.number asked found

    apart : attached_for parts.lives parts.attached asked.number ≡ None
    apart = ap (attached_for parts.lives parts.attached) (asked-number parts.asked first.number asked found)
        ∙ nothing-attached parts first.number core (ap (λ o. option_map_or gets_rows o false) lives)

-- nothing is kept beside a query that found no memory
spoiled-kept : (parts : CoreParts) (query : ℕ) (asked : AskedQuery) → IsCore parts → asked_at parts.asked query ≡ Some asked
    → life_of parts.lives query ≡ Some life.Spoiled → asked.kept ≡ None
spoiled-kept parts query asked core found lives =
    nothing-beside (attached_for parts.lives parts.attached asked.number) asked.kept
    (kept-with (state_of parts) query (accepted_as parts.lives parts.attached asked) life.Spoiled core.sound
    (accepted-of parts.lives parts.attached parts.asked query asked found) lives).1

-- groups may be taken of an answered query
pub next-groups : WaitsOpen → (parts : CoreParts) (seat : ℕ) (first : Submitted) → IsCore parts
    → first_of (statements_at parts.seats seat) ≡ Some first → first.standing ≡ IsAsked
    → life_of parts.lives first.number ≡ Some life.Answered
    → (asked : AskedQuery) × (asked_at parts.asked first.number ≡ Some asked) × (groups : Grouped)
    × (asked.kept ≡ Some groups) × (next_ready (state_of parts) seat ≡ Some (Grouping asked.snapshot groups))
next-groups waits parts seat first core is stands lives =
    by_asked (asked_at parts.asked first.number) refl
    (asked-there parts.lives parts.attached parts.asked first.number (lives-accepted (state_of parts) first.number life.Answered core.sound lives))
  where
    Found : AskedQuery → Type 0
    Found asked = (groups : Grouped) × (asked.kept ≡ Some groups) × (next_ready (state_of parts) seat ≡ Some (Grouping asked.snapshot groups))

    by_kept : (asked : AskedQuery) → next_ready (state_of parts) seat ≡ option_map (Grouping asked.snapshot) asked.kept
        → (o : Option Grouped) → asked.kept ≡ o → Found asked
    by_kept asked next None kept = absurd (closed-some waits parts seat first core is
        (ap (λ o. option_map_or is_open o false) lives) (next ∙ ap (option_map (Grouping asked.snapshot)) kept))
    by_kept asked next (Some groups) kept = (groups, kept, next ∙ ap (option_map (Grouping asked.snapshot)) kept)

    by_asked : (o : Option AskedQuery) → asked_at parts.asked first.number ≡ o → IsSome o
        → (asked : AskedQuery) × (asked_at parts.asked first.number ≡ Some asked) × (groups : Grouped)
        × (asked.kept ≡ Some groups) × (next_ready (state_of parts) seat ≡ Some (Grouping asked.snapshot groups))
    by_asked None found some = absurd (let both : false ≡ true = some in cc)
    by_asked (Some asked) found some =
        let there = by_kept asked (next-answered parts seat first asked core is stands lives found) asked.kept refl in
        (asked, found, there.0, there.1, there.2)

-- what may be taken, where something is kept beside a query or nothing
abbrev NextIs : (parts : CoreParts) → (seat snapshot : ℕ) → (kept : Option Grouped) → Type 0
NextIs parts seat snapshot kept = next_ready (state_of parts) seat ≡ Some (groups_or_memory snapshot kept)

-- of a query with a life that is not open
closed-asked : WaitsOpen → (parts : CoreParts) (seat : ℕ) (first : Submitted) (asked : AskedQuery) → IsCore parts
    → first_of (statements_at parts.seats seat) ≡ Some first → first.standing ≡ IsAsked
    → option_map_or is_open (life_of parts.lives first.number) false ≡ false → asked_at parts.asked first.number ≡ Some asked
    → NextIs parts seat asked.snapshot asked.kept
closed-asked waits parts seat first asked core is stands closed found =
    by_life (life_of parts.lives first.number) refl
    (next-asked parts seat first (Some (accepted_as parts.lives parts.attached asked)) is stands
    (accepted-of parts.lives parts.attached parts.asked first.number asked found))
  where
    none : next_ready (state_of parts) seat ≡ None → NextIs parts seat asked.snapshot asked.kept
    none nothing = absurd (closed-some waits parts seat first core is closed nothing)

    by_kept : next_ready (state_of parts) seat ≡ option_map (Grouping asked.snapshot) asked.kept
        → (o : Option Grouped) → asked.kept ≡ o → NextIs parts seat asked.snapshot asked.kept
    by_kept next None kept = none (next ∙ ap (option_map (Grouping asked.snapshot)) kept)
    by_kept next (Some groups) kept =
        next ∙ ap (option_map (Grouping asked.snapshot)) kept ∙ sym (ap (λ o. Some (groups_or_memory asked.snapshot o)) kept)

    after : (o : Option Life) → life_of parts.lives first.number ≡ o
        → next_ready (state_of parts) seat ≡ ready_to (state_of parts) first.number (Asked (query_of asked.query) asked.snapshot)
        → next_ready (state_of parts) seat ≡ option_and_then (ready_by (state_of parts) first.number asked.snapshot) o
    after o lives next = next ∙ ap (option_and_then (ready_by (state_of parts) first.number asked.snapshot)) lives

    by_life : (o : Option Life) → life_of parts.lives first.number ≡ o
        → next_ready (state_of parts) seat ≡ ready_to (state_of parts) first.number (Asked (query_of asked.query) asked.snapshot)
        → NextIs parts seat asked.snapshot asked.kept
    by_life None lives next = none (after None lives next)
    by_life (Some life.Waiting) lives next = none (after (Some life.Waiting) lives next)
    by_life (Some life.Building) lives next = none (after (Some life.Building) lives next)
    by_life (Some (life.Running start left)) lives next = none (after (Some (life.Running start left)) lives next)
    by_life (Some life.Ending) lives next = none (after (Some life.Ending) lives next)
    by_life (Some life.Answered) lives next =
        by_kept (next-answered parts seat first asked core is stands lives found) asked.kept refl
    by_life (Some life.Spoiled) lives next =
        after (Some life.Spoiled) lives next
        ∙ sym (ap (λ o. Some (groups_or_memory asked.snapshot o)) (spoiled-kept parts first.number asked core found lives))
    by_life (Some life.Abandoned) lives next = none (after (Some life.Abandoned) lives next)

-- and of one that is not there
closed-missing : (parts : CoreParts) (seat snapshot : ℕ) (first : Submitted) → IsCore parts
    → first_of (statements_at parts.seats seat) ≡ Some first → first.standing ≡ IsAsked
    → asked_at parts.asked first.number ≡ None → NextIs parts seat snapshot None
closed-missing parts seat snapshot first core is stands missing =
    next-asked parts seat first None is stands
    (accepted-found parts.lives parts.attached parts.asked first.number
    ∙ ap (option_map (accepted_as parts.lives parts.attached)) missing)

-- what is no query that may still be answered may be taken: it is what stands there and what is kept beside
pub next-closed : WaitsOpen → (parts : CoreParts) (seat : ℕ) (first : Submitted) → IsCore parts
    → first_of (statements_at parts.seats seat) ≡ Some first
    → (first.standing ≡ IsAsked → option_map_or is_open (life_of parts.lives first.number) false ≡ false)
    → next_ready (state_of parts) seat
    ≡ Some (ready_with first.standing (snapshot_for parts.asked first.number) (kept_for parts.asked first.number))
next-closed waits parts seat first core is closed = by_standing first.standing refl
  where
    Next : Standing → Option AskedQuery → Type 0
    Next standing asked = next_ready (state_of parts) seat
        ≡ Some (ready_with standing (option_map_or (λ (e : AskedQuery). e.snapshot) asked 0) (option_and_then (λ (e : AskedQuery). e.kept) asked))

    passes : is_waited first.standing ≡ true
    passes = find-passes (λ (s : Submitted). is_waited s.standing) (statements_at parts.seats seat) first is

    by_asked : (o : Option AskedQuery) → asked_at parts.asked first.number ≡ o → first.standing ≡ IsAsked → Next IsAsked o
    by_asked None found stands = closed-missing parts seat 0 first core is stands found
    by_asked (Some asked) found stands = closed-asked waits parts seat first asked core is stands (closed stands) found

    by_standing : (standing : Standing) → first.standing ≡ standing → Next standing (asked_at parts.asked first.number)
    by_standing (Waits reply) stands = next-reply parts seat first reply core is stands
    by_standing IsAsked stands = by_asked (asked_at parts.asked first.number) refl stands
    by_standing other stands = absurd (let both : true ≡ false = sym passes ∙ ap is_waited stands in cc)
