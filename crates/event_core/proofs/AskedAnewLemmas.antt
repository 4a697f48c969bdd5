-- A query that is accepted stands behind the others, and changes nothing of what is known of them.
use Rattle.event_core.proofs.Words.{◌++◌, ◌+◌, ◌<◌, ◌∙◌, ◌∷◌, ◌≡◌, ◌≢◌, ◌≤◌, [], Accepted, accepted, accepted_as, accepted_in, after_outcome, after_submit, after_submitting, All, All-push, ap, arith, Asked, AskedQuery, attached_for, attached_or, Becomes, cond, CoreParts, false, flights_as, Free, get_or, Grouped, grouped_of, is_held_by, IsAsked, IsCore, IsNew, IsSome, Known, known_at, known_in, length, length-map, life_in, List, Lives, map, map_push, None, of-numbers, Option, option_and_then, option_map, option_map_or, Outcome, outcome_of, plain_version, position-Some, query_of, QueryLife, Reach, reach_at, reaches_in, refl, Replied, Seat, seat_as, slot_of, SlotState, Some, StarQuery, State, state_of, Statement, statements_at, Store, subst, sym, tables_of, Told, true, versions_in, ℕ}
use Rattle.std.proofs.lemmas.List.Elements.{All-weaker}
use Rattle.std.proofs.lemmas.List.Sums.{get_or-le-sum_by}
use Rattle.reply_text.specs.declared.reply.Reply.TheVariants as reply
use Rattle.star_store.specs.Outcome as outcome
use Rattle.pipeline_manager.specs.Sound as managed
use Rattle.pipeline_manager.specs.Sound.{FitsSlots, slots_held}
use Rattle.pipeline_manager.specs.declared.life.Life.TheVariants as managed_life
use Rattle.core_state.specs.State as state
use Rattle.event_core.proofs.FoundAgainLemmas.{found-last, found-nowhere, found-other}
use Rattle.event_core.proofs.RosterAgainLemmas.{flights-again}
use Rattle.event_core.proofs.SeenLemmas.{state-seen}
use Rattle.event_core.proofs.SubmittedCoreLemmas.{Laws, becomes-after, new-number}
use Rattle.event_core.proofs.SubmittedSeatLemmas.{seats-known, seats-one, statement_of}

-- a query that was not submitted holds no slot
unheld : (lives : Lives) (query : ℕ) → managed.AreSoundLives lives → IsNew query lives → slot_of lives query ≡ None
unheld lives query sound new = by_place (slot_of lives query) refl
  where
    missing : life_in lives.queries query ≡ None
    missing = ap (λ o. option_map (λ (e : QueryLife). e.life) o)
        (found-nowhere (λ (e : QueryLife). e.query) lives.queries query (λ k d low same. let below = new k d low in omega arith))

    by_place : (o : Option ℕ) → slot_of lives query ≡ o → slot_of lives query ≡ None
    by_place None is = is
    by_place (Some slot) is =
        let at = position-Some (is_held_by query) lives.slots slot Free is in
        let weight : SlotState → ℕ = λ s. cond {A = ℕ} (is_held_by query s) 1 0 in
        let here : weight (get_or lives.slots slot Free) ≡ 1 = ap (λ b. cond {A = ℕ} b 1 0) at.1 in
        let fits : FitsSlots None (slots_held query lives.slots) =
        subst (λ o. FitsSlots o (slots_held query lives.slots)) missing (sound.held query) in
        absurd (omega (arith, here, fits.1, get_or-le-sum_by weight lives.slots slot Free at.0))

-- the accepted queries have the numbers of what is known
numbers-known : (lives : Lives) (attached : List (Option Grouped)) (asked : List AskedQuery)
    → map (λ (a : Accepted). a.number) (accepted_in lives attached asked) ≡ map (λ (k : Known). k.number) (known_in asked)
numbers-known lives attached [] = refl
numbers-known lives attached (entry ∷ asked) = ap (λ rest. entry.number ∷ rest) (numbers-known lives attached asked)

-- a statement that is a query, which is accepted
pub becomes-accepted : Laws → (parts : CoreParts) (seat : ℕ) (statement : Statement) (query : StarQuery) (snapshot : ℕ) → IsCore parts
    → seat < length parts.seats
    → outcome_of (tables_of (state_of parts)) statement ≡ outcome.only_tells (outcome.Accepted (query_of query) snapshot)
    → Becomes (accepted seat (parts.numbers.statement + 1)
    (statements_at parts.seats seat ++ statement_of (parts.numbers.statement + 1) IsAsked ∷ [])
    (record { number = parts.numbers.statement + 1; seat = seat; query = query; snapshot = snapshot; kept = Some (grouped_of (query_of query) []) }) parts)
    (after_submitting seat statement (state_of parts))
becomes-accepted laws parts seat statement query snapshot core there tells =
    becomes-after laws parts new seat statement core there
    (state-seen new (accepted_before ++ one ∷ []) more farther as_accepted (map_push of_asked parts.asked entry) (map_push of_life parts.lives.queries life)
    ∙ ap (λ seats. state_by seats (flights_as more farther parts.flights) extent) same_seats
    ∙ ap (λ flights. state_by seats_now flights extent) same_flights
    ∙ ap (state_by seats_now (flights_as known reaches parts.flights)) same_extent
    ∙ sym (ap (λ (found : Outcome). after_outcome seat found (state_of parts)) tells))
    (record { scan = refl; attached = refl; settings = refl; made = refl; words = refl })
    (record {
      tables = record { same = core.tables.same; keyed = core.tables.keyed };
      beside = All-push (λ (a : AskedQuery). IsSome (attached_for new.lives new.attached a.number) → a.kept ≡ None) parts.asked entry core.beside
          (λ some. absurd (let both : false ≡ true =
          subst (λ o. IsSome (option_and_then (λ slot. get_or parts.attached slot None) o)) free some in cc));
    })
  where
    number : ℕ
    number = parts.numbers.statement + 1

    told : Told
    told = outcome.Accepted (query_of query) snapshot

    entry : AskedQuery
    entry = record { number = number; seat = seat; query = query; snapshot = snapshot; kept = Some (grouped_of (query_of query) []) }

    one : Accepted
    one = record { number = number; seat = seat; query = query_of query; snapshot = snapshot; groups = Some (grouped_of (query_of query) []) }

    new : CoreParts
    new = accepted seat number (statements_at parts.seats seat ++ statement_of number IsAsked ∷ []) entry parts

    extent : ℕ
    extent = length parts.tables.versions

    life : QueryLife
    life = record { query = number; extent = extent; life = managed_life.Waiting }

    of_asked : AskedQuery → Known
    of_asked asked = record { number = asked.number; query = query_of asked.query; snapshot = asked.snapshot }

    of_life : QueryLife → Reach
    of_life queried = record { number = queried.query; extent = queried.extent }

    known : List Known
    known = known_in parts.asked

    more : List Known
    more = known ++ of_asked entry ∷ []

    reaches : List Reach
    reaches = reaches_in parts.lives.queries

    farther : List Reach
    farther = reaches ++ of_life life ∷ []

    accepted_before : List Accepted
    accepted_before = accepted_in parts.lives parts.attached parts.asked

    seats_now : List Seat
    seats_now = (after_outcome seat (outcome.only_tells told) (state_of parts)).seats

    state_by : List Seat → List state.Flight → ℕ → State
    state_by seats flights extent = record (state_of parts) {
      seats = seats;
      accepted = accepted_before ++ one ∷ [];
      lives = after_submit number extent parts.lives;
      scan = record (state_of parts).scan { flights = flights };
      numbers = record parts.numbers { statement = number };
    }

    free : slot_of parts.lives number ≡ None
    free = unheld parts.lives number core.sound.slots.lives (new-number parts core.sound)

    as_accepted : accepted_in new.lives new.attached new.asked ≡ accepted_before ++ one ∷ []
    as_accepted =
        map_push (accepted_as new.lives new.attached) parts.asked entry
        ∙ ap (λ o. accepted_before ++ (let a : Accepted = record one {
          groups = attached_or (option_and_then (λ slot. get_or parts.attached slot None) o) (Some (grouped_of (query_of query) []));
        } in a) ∷ []) free

    apart : All (λ (k : Known). k.number ≢ number) known
    apart = of-numbers (λ n. n ≢ number) (λ (a : Accepted). a.number) (λ (k : Known). k.number) accepted_before known
        (numbers-known parts.lives parts.attached parts.asked)
        (λ k d low same. let given = (core.sound.queries.each k d low).number in omega arith)

    same : (n : ℕ) → n ≢ number → known_at more n ≡ known_at known n
    same n other = found-other (λ (k : Known). k.number) known (of_asked entry) n (λ is. other (sym is))

    far : (n : ℕ) → n ≢ number → reach_at farther n ≡ reach_at reaches n
    far n other = ap (λ o. option_map_or (λ (r : Reach). r.extent) o 0)
        (found-other (λ (r : Reach). r.number) reaches (of_life life) n (λ is. other (sym is)))

    same_flights : flights_as more farther parts.flights ≡ flights_as known reaches parts.flights
    same_flights = flights-again known more reaches farther number parts.flights same far
        (found-nowhere (λ (k : Known). k.number) known number apart) (λ k d low. (core.sound.batches k d low).slots)

    same_seats : map (seat_as more) new.seats ≡ seats_now
    same_seats = seats-one more known parts.seats seat number IsAsked told there
        (seats-known known more parts.seats (λ k d low.
        All-weaker (λ n. n ≤ parts.numbers.statement) (λ n. known_at more n ≡ known_at known n)
        (λ n low. same n (λ is. absurd (omega arith))) (get_or (map (seat_as known) parts.seats) k d).submitted (core.sound.seats.each k d low).given))
        (ap (λ o. Some (option_map_or (λ (k : Known). Asked k.query k.snapshot) o (Replied reply.Memory)))
        (found-last (λ (k : Known). k.number) known (of_asked entry) apart)) refl

    same_extent : extent ≡ versions_in (state_of parts)
    same_extent = sym (length-map parts.tables.versions plain_version) ∙ ap (λ (s : Store). length s.versions) core.tables.same
