-- The parts of a core where a seat takes a reply.
use Rattle.event_core.proofs.Words.{◌∙◌, ◌∷◌, ◌≡◌, [], Accepted, after_taking, ap, attached_for, attached_to, Becomes, CoreParts, false, first_of, forgotten, forgotten_at, gets, gets_rows, IfSome, IsCore, IsScannedAs, IsSome, IsSound, Known, known_in, Life, life_of, List, map, map-set, next_ready, None, none-some, Option, option_and_then, option_map_or, Pending, reaches_in, ready_to, refl, same_Some, Scanning, Seat, seat_as, seat_at, set, slice_get, Some, State, state_of, statements_at, Submitted, subst, sym, take, with_taken, ℕ, ⊎_elim}
use Rattle.core_state.specs.Steps.{Replying}
use Rattle.core_state.specs.Submitting.{without_groups}
use Rattle.core_state.proofs.FrameLemmas.{Told}
use Rattle.core_state.proofs.TakingLemmas.{ready-told}
use Rattle.event_core.proofs.AskedKeptLemmas.{LeavesOthers, accepted-forgotten, beside-kept}
use Rattle.event_core.proofs.CoreAtLemmas.{KeepSound, becomes-of}
use Rattle.event_core.proofs.FirstReplyLemmas.{IsFirst, first-is, nothing-attached, seat-of}
use Rattle.event_core.proofs.SeenLemmas.{known-with_kept, state-seen}

-- what is attached stays where a reply is taken
abbrev pub TakingLeavesAttached : Type 0
TakingLeavesAttached = (state : State) (seat : ℕ) → IsSound state → IsSome (next_ready state seat)
    → attached_to (after_taking seat state) ≡ attached_to state

-- and so does the scan
abbrev pub TakingLeavesScan : Type 0
TakingLeavesScan = (state : State) (scan : Scanning) (seat : ℕ) → IsScannedAs state scan → IsScannedAs (after_taking seat state) scan

-- a query whose reply may be taken gets no rows
told-none : (o : Option Life) → IfSome o Told → option_map_or gets_rows o false ≡ false
told-none None told = refl
told-none (Some now) told = ⊎_elim (λ is. ap gets_rows is) (λ is. ap gets_rows is) told

-- what may be taken is no query that gets rows
taken-gets : (parts : CoreParts) (seat : ℕ) (first : Submitted) (pending : Pending) → IsCore parts → IsFirst parts seat first pending
    → IsSome (next_ready (state_of parts) seat) → gets parts.lives first.number ≡ false
taken-gets parts seat first pending core first_is ready =
    ap (gets parts.lives) (sym first_is.statement)
    ∙ told-none (life_of parts.lives pending.statement)
    (ready-told (state_of parts) pending.statement pending.awaited core.sound.queries first_is.awaited
    (subst (λ o. IsSome (option_and_then (λ (p : Pending). ready_to (state_of parts) p.statement p.awaited) o)) first_is.is ready))

-- of the first statement nothing is kept any more
forgets-first : (pending : List Pending) (first : Pending) (accepted : List Accepted) → slice_get pending 0 ≡ Some first
    → without_groups (take 1 pending) accepted ≡ map (forgotten first.statement) accepted
forgets-first [] first accepted is = absurd (none-some first is)
forgets-first (one ∷ rest) first accepted is =
    ap (λ (p : Pending). map (forgotten p.statement) accepted) (same_Some one first is)

-- the seats of which one has taken its reply
seats-taken : (known : List Known) (seats : List (List Submitted)) (seat : ℕ) (statements : List Submitted) (here : Seat)
    → here ≡ seat_as known (statements_at seats seat) → seat_as known statements ≡ with_taken (seat_as known (statements_at seats seat))
    → map (seat_as known) (set seats seat statements) ≡ set (map (seat_as known) seats) seat (with_taken here)
seats-taken known seats seat statements here is are =
    map-set (seat_as known) seats seat statements
    ∙ ap (set (map (seat_as known) seats) seat) (are ∙ ap with_taken (sym is))

-- the parts stand for the core where a reply is taken
pub taking-becomes : KeepSound → TakingLeavesAttached → TakingLeavesScan → (parts : CoreParts) (seat : ℕ) (first : Submitted) (statements : List Submitted)
    → IsCore parts → first_of (statements_at parts.seats seat) ≡ Some first → IsSome (next_ready (state_of parts) seat)
    → seat_as (known_in parts.asked) statements ≡ with_taken (seat_as (known_in parts.asked) (statements_at parts.seats seat))
    → Becomes (forgotten_at seat first.number statements parts) (after_taking seat (state_of parts))
taking-becomes keep attaches scans parts seat first statements core is ready are =
    becomes-of later after same (record {
      sound = keep (Replying seat) (state_of parts) ready core.sound;
      tables = record { same = core.tables.same; keyed = core.tables.keyed };
      scanned = scans (state_of parts) parts.scan seat core.scanned;
      attached = core.attached ∙ sym (attaches (state_of parts) seat core.sound ready);
      beside = beside-kept parts.lives parts.lives parts.attached parts.attached first.number None parts.asked elsewhere (λ some. refl) core.beside;
      frames = core.frames;
      words = core.words;
    })
  where
    later : CoreParts
    later = forgotten_at seat first.number statements parts

    after : State
    after = after_taking seat (state_of parts)

    pending : (pending : Pending) × IsFirst parts seat first pending
    pending = first-is parts seat first core is

    elsewhere : LeavesOthers parts.lives parts.lives parts.attached parts.attached first.number
    elsewhere number apart = refl

    here : attached_for parts.lives parts.attached first.number ≡ None
    here = nothing-attached parts first.number core (taken-gets parts seat first pending.0 core pending.1 ready)

    forgets : map (forgotten first.number) (state_of parts).accepted ≡ after.accepted
    forgets =
        ap (λ n. map (forgotten n) (state_of parts).accepted) (sym pending.1.statement)
        ∙ sym (forgets-first (seat_at (state_of parts) seat).pending pending.0 (state_of parts).accepted pending.1.is)

    shown : List Accepted → List Seat → State
    shown accepted seats = record (state_of parts) { accepted = accepted; seats = seats }

    same : state_of later ≡ after
    same =
        state-seen later (map (forgotten first.number) (state_of parts).accepted) (known_in parts.asked) (reaches_in parts.lives.queries)
        (accepted-forgotten parts.lives parts.lives parts.attached parts.attached first.number parts.asked elsewhere here)
        (known-with_kept first.number None parts.asked) refl
        ∙ ap (shown (map (forgotten first.number) (state_of parts).accepted))
        (seats-taken (known_in parts.asked) parts.seats seat statements (seat_at (state_of parts) seat) (seat-of parts seat) are)
        ∙ ap (λ accepted. shown accepted after.seats) forgets
