-- The seats after one of them submits a statement.
use Rattle.event_core.proofs.Words.{◌++◌, ◌<◌, ◌∙◌, ◌∷◌, ◌≡◌, [], All, All-head, All-tail, ap, append-nil, Asked, Awaited, awaited_as, cons_option, empty_seat, filter_map, filter_map-append, get_or, get_or-map, IsAnswered, IsAsked, Known, known_at, length, List, map, map-set, map_push, None, Option, option_map, option_map_or, Pending, pending_as, refl, Replied, Seat, seat_as, set, Some, Standing, Submitted, sym, Told, ℕ}
use Rattle.reply_text.specs.declared.reply.Reply.TheVariants as reply
use Rattle.core_state.specs.State.{Taken}
use Rattle.core_state.specs.Submitting.{awaited_by, with_statement}
use Rattle.core_parts.specs.Seats.{took_as}

-- a statement of this number that stands so
abbrev pub statement_of : (number : ℕ) → Standing → Submitted
statement_of number standing = record { number = number; standing = standing }

-- a seat by its three lists
same-seat : (submitted others : List ℕ) (pending left : List Pending) (taken took : List Taken) → submitted ≡ others → pending ≡ left → taken ≡ took
    → (let seat : Seat = record { submitted = submitted; pending = pending; taken = taken } in seat)
    ≡ record { submitted = others; pending = left; taken = took }
same-seat submitted others pending left taken took one two three = cc

-- a seat with a statement more, behind the others
pub seat-one : (known : List Known) (statements : List Submitted) (number : ℕ) (standing : Standing) (told : Told)
    → awaited_as known number standing ≡ Some (awaited_by told) → took_as known number standing ≡ None
    → seat_as known (statements ++ statement_of number standing ∷ []) ≡ with_statement number told (seat_as known statements)
seat-one known statements number standing told waits took = same-seat
    (map (λ (s : Submitted). s.number) (statements ++ statement_of number standing ∷ [])) (map (λ (s : Submitted). s.number) statements ++ number ∷ [])
    (filter_map (pending_as known) (statements ++ statement_of number standing ∷ []))
    (filter_map (pending_as known) statements ++ record { statement = number; awaited = awaited_by told } ∷ [])
    (filter_map took_of (statements ++ statement_of number standing ∷ [])) (filter_map took_of statements)
    (map_push (λ (s : Submitted). s.number) statements (statement_of number standing))
    (filter_map-append (pending_as known) statements (statement_of number standing ∷ [])
    ∙ ap (λ o. filter_map (pending_as known) statements
    ++ cons_option (option_map (λ (awaited : Awaited). record { statement = number; awaited = awaited }) o) []) waits)
    (filter_map-append took_of statements (statement_of number standing ∷ [])
    ∙ ap (λ o. filter_map took_of statements ++ cons_option o []) took ∙ append-nil (filter_map took_of statements))
  where
    took_of : Submitted → Option Taken
    took_of s = took_as known s.number s.standing

-- the seats, of which one has a statement more
pub seats-one : (known old : List Known) (seats : List (List Submitted)) (seat number : ℕ) (standing : Standing) (told : Told) → seat < length seats
    → map (seat_as known) seats ≡ map (seat_as old) seats
    → awaited_as known number standing ≡ Some (awaited_by told) → took_as known number standing ≡ None
    → map (seat_as known) (set seats seat (get_or seats seat [] ++ statement_of number standing ∷ []))
    ≡ set (map (seat_as old) seats) seat (with_statement number told (get_or (map (seat_as old) seats) seat empty_seat))
seats-one known old seats seat number standing told there same waits took =
    map-set (seat_as known) seats seat (get_or seats seat [] ++ statement_of number standing ∷ [])
    ∙ ap (set (map (seat_as known) seats) seat)
    (seat-one known (get_or seats seat []) number standing told waits took
    ∙ ap (with_statement number told) (sym (get_or-map (seat_as known) seats seat [] empty_seat there)))
    ∙ ap (λ (all : List Seat). set all seat (with_statement number told (get_or all seat empty_seat))) same

-- what a statement waits for hangs on what is known of its number
awaited-same : (known more : List Known) (number : ℕ) (standing : Standing) → known_at more number ≡ known_at known number
    → awaited_as more number standing ≡ awaited_as known number standing
awaited-same known more number IsAsked same =
    ap (λ o. Some (option_map_or (λ (entry : Known). Asked entry.query entry.snapshot) o (Replied reply.Memory))) same
awaited-same known more number other same = refl

-- and so does what was taken as its reply
took-same : (known more : List Known) (number : ℕ) (standing : Standing) → known_at more number ≡ known_at known number
    → took_as more number standing ≡ took_as known number standing
took-same known more number IsAnswered same =
    ap (λ o. Some (record { statement = number; told = option_map_or (λ (entry : Known). Asked entry.query entry.snapshot) o (Replied reply.Memory) })) same
took-same known more number other same = refl

-- a seat of which nothing else is known
seat-known : (known more : List Known) (statements : List Submitted)
    → All (λ number. known_at more number ≡ known_at known number) (map (λ (s : Submitted). s.number) statements)
    → seat_as more statements ≡ seat_as known statements
seat-known known more [] same = refl
seat-known known more (first ∷ statements) same =
    let here : known_at more first.number ≡ known_at known first.number =
    All-head (λ number. known_at more number ≡ known_at known number) first.number (map (λ (s : Submitted). s.number) statements) same in
    ap (λ o. front (option_map (λ (awaited : Awaited). record { statement = first.number; awaited = awaited }) o)
    (took_as more first.number first.standing) (seat_as more statements)) (awaited-same known more first.number first.standing here)
    ∙ ap (λ o. front (pending_as known first) o (seat_as more statements)) (took-same known more first.number first.standing here)
    ∙ ap (front (pending_as known first) (took_as known first.number first.standing))
    (seat-known known more statements
    (All-tail (λ number. known_at more number ≡ known_at known number) first.number (map (λ (s : Submitted). s.number) statements) same))
  where
    front : Option Pending → Option Taken → Seat → Seat
    front pending taken seat = record {
      submitted = first.number ∷ seat.submitted;
      pending = cons_option pending seat.pending;
      taken = cons_option taken seat.taken;
    }

-- the seats of which nothing else is known
pub seats-known : (known more : List Known) (seats : List (List Submitted))
    → All (λ (seat : Seat). All (λ number. known_at more number ≡ known_at known number) seat.submitted) (map (seat_as known) seats)
    → map (seat_as more) seats ≡ map (seat_as known) seats
seats-known known more [] same = refl
seats-known known more (first ∷ seats) same =
    ap (λ seat. seat ∷ map (seat_as more) seats)
    (seat-known known more first
    (All-head (λ (seat : Seat). All (λ number. known_at more number ≡ known_at known number) seat.submitted) (seat_as known first) (map (seat_as known) seats) same))
    ∙ ap (λ rest. seat_as known first ∷ rest)
    (seats-known known more seats
    (All-tail (λ (seat : Seat). All (λ number. known_at more number ≡ known_at known number) seat.submitted) (seat_as known first) (map (seat_as known) seats) same))
