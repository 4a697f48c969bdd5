-- The seats of a board over a core: a new board, the seats that are made, those by which workers work, and those that are joined.
use Rattle.script_run.proofs.Words.{◌++◌, ◌+◌, ◌<◌, ◌∙◌, ◌∷◌, ◌≡◌, ◌≤◌, [], ap, append-nil, append_assoc, arith, drop, empty_core, get_or, length, List, None, Option, refl, RunSettings, Seat, Some, State, state_of, subst, sym, take, ℕ}
use mathlib.Core.List.{IsPrefix}
use mathlib.Core.Logic.{dite}
use native.Mathlib.Decide.{ℕ_discrete, dec_le}
use Rattle.std.proofs.Common.{replicate}
use Rattle.std.proofs.lemmas.List.{get_or-replicate, get_or_append_left, get_or_past, get_or_push, length-replicate, length_push, take_at}
use Rattle.std.specs.Option.{option_map}
use Rattle.std.specs.Prelude.{IsSomeAnd}
use Rattle.core_state.specs.Fronts.{Passes}
use Rattle.core_state.specs.Rows.{SeatRow, Sight, empty_row, row_of, sight_of}
use Rattle.board_lock.specs.Seats.{IsOf, IsOutside, IsSameSeat, view_of}
use Rattle.board_lock.specs.Views.{AreUnmadeEmpty, first_view, fixed_in, joined_view, list_in, new_view, row_in, split_view}
use Rattle.board_lock.specs.declared.seat.BoardLock.{BoardLock}
use Rattle.board_lock.specs.declared.seat.BoardSeat.{BoardSeat}
use Rattle.board_lock.specs.declared.view.View.{View}
use Rattle.shared_distributor.specs.Shared.{Lending}
use Rattle.event_core.specs.Board.{CoreRow, core_entries, core_row, core_settings, first_row}
use Rattle.event_core.specs.CoreParts.{Beside, CoreParts, Loan, beside_of, first_beside, loan_of}
use Rattle.worker_gate.specs.Turns.{IsReady, IsSeated, sight_in}
use Rattle.script_run.specs.BoardRun.{AreJoined, AreWorkers, HasJoined, IsAtStart, IsLeader, IsNewBoard, IsWorker, KnowsNew, KnowsSame, StaysLeader, StaysWorker}
use Rattle.script_run.specs.SeatTurns.{StaysReady}
use Rattle.script_run.specs.Shared.{nothing}
use Rattle.script_run.proofs.AloneLemmas.{new-seats}
use Rattle.script_run.proofs.SeatFrontLemmas.{same-number}

-- A new board.

-- the row of every number in an empty core is empty
pub new-row : (settings : RunSettings) (seat : ℕ) → row_of (empty_core settings) seat ≡ empty_row
new-row settings seat =
    let row : Seat → SeatRow =
    λ (s : Seat). record { submitted = s.submitted; made = []; pending = s.pending; taken = s.taken; hand = None } in
    ap row (new-seats settings seat)

-- nothing is lent of a core that lent nothing to any seat
none-at : (count seat : ℕ) → get_or (replicate {A = Option Lending} count None) seat None ≡ None
none-at count seat = dite (dec_le count seat)
    (λ past. get_or_past (replicate {A = Option Lending} count None) seat None
    (let long = length-replicate {A = Option Lending} count None in omega arith))
    (λ within. get_or-replicate {A = Option Lending} count seat None None (omega arith))

new-loan : (settings : RunSettings) (core : CoreParts) → beside_of core ≡ first_beside settings.seats → (seat : ℕ)
    → loan_of core seat ≡ None
new-loan settings core beside seat =
    ap (λ (lending : Option Lending). option_map (lent core) lending)
    (ap (λ (b : Beside). get_or b.out seat None) beside ∙ none-at settings.seats seat)
  where
    lent : CoreParts → Lending → Loan
    lent parts lending = record { slots = lending.slots; groups = lending.groups; tables = parts.tables }

-- nothing stands for a seat in a core to which nothing was given
pub new-rows : (settings : RunSettings) (core : CoreParts) → state_of core ≡ empty_core settings → beside_of core ≡ first_beside settings.seats
    → AreUnmadeEmpty core_row first_row 0 core
new-rows settings core empty beside k low = λ i. record { row = row i; loan = new-loan settings core beside k i }
  where
    row : row_of (state_of core) k ≡ empty_row
    row = ap (λ (state : State). row_of state k) empty ∙ new-row settings k

-- seat 0 sees nothing there
new-sight : (settings : RunSettings) (core : CoreParts) → state_of core ≡ empty_core settings → sight_of (state_of core) 0 ≡ nothing
new-sight settings core empty =
    let sight : SeatRow → Sight = λ (row : SeatRow). record { row = row; seen = [] } in
    ap (λ (state : State). sight_of state 0) empty ∙ ap sight (new-row settings 0)

-- the board over such a core, and its first seat
pub new-board : (settings : RunSettings) (core : CoreParts) (board : BoardLock CoreParts) (first : BoardSeat CoreParts)
    → state_of core ≡ empty_core settings → beside_of core ≡ first_beside settings.seats → IsOf board first → IsOutside first
    → view_of first ≡ first_view core
    → board.seats ≡ settings.seats → IsNewBoard settings board first
new-board settings core board first empty beside own outside is most = record {
  leader = record {
    own = own;
    outside = outside;
    first = ap (λ (view : View CoreParts). view.number) is;
    made = ap (λ (view : View CoreParts). view.made) is;
    unjoined = ap (λ (view : View CoreParts). view.joined) is;
  };
  knows = subst (KnowsNew settings) (sym is) (record {
    settled = ap (λ (state : State). Some state.settings) empty;
    sight = new-sight settings core empty;
    loan = new-loan settings core beside 0;
  });
  most = most;
}

-- What the first seat knows.

pub knows-same : (view : View CoreParts) → KnowsSame view view
knows-same view = record { number = refl; last = refl; seen = refl }

pub knows-then : (old between new : View CoreParts) → KnowsSame old between → KnowsSame between new → KnowsSame old new
knows-then old between new first second = record {
  number = second.number ∙ first.number;
  last = second.last ∙ first.last;
  seen = second.seen ∙ first.seen;
}

-- making a seat tells it nothing
pub knows-split : (old new : View CoreParts) → new ≡ split_view old → KnowsSame old new
knows-split old new is = record {
  number = ap (λ (view : View CoreParts). view.number) is;
  last = ap (λ (view : View CoreParts). view.last) is;
  seen = ap (λ (view : View CoreParts). view.seen) is;
}

-- nothing was given to the core still
pub knows-new : (settings : RunSettings) (old new : View CoreParts) → KnowsSame old new → KnowsNew settings old → KnowsNew settings new
knows-new settings old new same knows = record {
  settled = ap (fixed_in core_settings) same.last ∙ knows.settled;
  sight = seen ∙ knows.sight;
  loan = (λ i. (row_in core_row first_row (same.last i) (same.number i)).loan) ∙ knows.loan;
}
  where
    seen : sight_in new ≡ sight_in old
    seen = λ i. record { row = (row_in core_row first_row (same.last i) (same.number i)).row; seen = list_in core_entries (same.seen i) }

-- there is a seat for each number up to the workers'
some-high : (o : Option RunSettings) (low high : ℕ) → low ≤ high → IsSomeAnd o (λ settings. high < settings.seats)
    → IsSomeAnd o (λ settings. low < settings.seats)
some-high None low high less is = is
some-high (Some settings) low high less is = omega arith

pub seated-high : (old new : View CoreParts) (low high : ℕ) → KnowsSame old new → low ≤ high
    → IsSomeAnd (fixed_in core_settings old.last) (λ (settings : RunSettings). high < settings.seats)
    → IsSomeAnd (fixed_in core_settings new.last) (λ (settings : RunSettings). low < settings.seats)
seated-high old new low high same less is =
    subst (λ last. IsSomeAnd (fixed_in core_settings last) (λ (settings : RunSettings). low < settings.seats)) (sym same.last)
    (some-high (fixed_in core_settings old.last) low high less is)

pub seated-new : (settings : RunSettings) (view : View CoreParts) (high : ℕ) → KnowsNew settings view → high < settings.seats
    → IsSomeAnd (fixed_in core_settings view.last) (λ (settings : RunSettings). high < settings.seats)
seated-new settings view high knows less =
    subst (λ o. IsSomeAnd o (λ (settings : RunSettings). high < settings.seats)) (sym knows.settled) less

-- The first seat.

-- it made one seat more
pub leader-split : (board : BoardLock CoreParts) (others : ℕ) (old new : BoardSeat CoreParts) → IsLeader board others old → IsSameSeat old new
    → IsOutside new → view_of new ≡ split_view (view_of old) → IsLeader board (others + 1) new
leader-split board others old new leader same outside is = record {
  own = same.0 ∙ leader.own;
  outside = outside;
  first = ap (λ (view : View CoreParts). view.number) is ∙ leader.first;
  made = ap (λ (view : View CoreParts). view.made) is ∙ ap (λ n. n + 1) leader.made;
  unjoined = ap (λ (view : View CoreParts). view.joined) is ∙ leader.unjoined;
}

-- it took turns
pub leader-stays : (board : BoardLock CoreParts) (old new : BoardSeat CoreParts) → StaysReady board old new → StaysLeader board old new
leader-stays board old new seat = λ others leader. record {
  own = seat.out.own;
  outside = seat.out.outside;
  first = same-number old new seat.same ∙ leader.first;
  made = seat.team.0 ∙ leader.made;
  unjoined = seat.team.1 ∙ leader.unjoined;
}

-- the same seat of as many
pub leader-as : (board : BoardLock CoreParts) (others count : ℕ) (seat other : BoardSeat CoreParts) → count ≡ others → seat ≡ other
    → IsLeader board others seat → IsLeader board count other
leader-as board others count seat other many same leader =
    subst (IsLeader board count) same (subst (λ n. IsLeader board n seat) (sym many) leader)

-- it may take turns
pub leader-starts : (settings : RunSettings) (board : BoardLock CoreParts) (others : ℕ) (first : BoardSeat CoreParts) → IsLeader board others first
    → KnowsNew settings (view_of first) → 0 < settings.seats → IsAtStart board first
leader-starts settings board others first leader knows some = record {
  ready = record {
    own = leader.own;
    outside = leader.outside;
    seated = subst (λ n. IsSomeAnd (fixed_in core_settings (view_of first).last) (λ (settings : RunSettings). n < settings.seats))
        (sym leader.first) (seated-new settings (view_of first) 0 knows some);
    hand = record { hand = ap (λ (sight : Sight). sight.row.hand) knows.sight; loan = knows.loan };
  };
  first = leader.first;
  sight = knows.sight;
}

-- Seats of workers.

-- one that the first seat made
pub worker-made : (board : BoardLock CoreParts) (others : ℕ) (first seat : BoardSeat CoreParts) → IsLeader board others first
    → IsSomeAnd (fixed_in core_settings (view_of first).last) (λ (settings : RunSettings). others + 1 < settings.seats)
    → IsOf board seat → IsOutside seat → view_of seat ≡ new_view (view_of first)
    → row_in core_row first_row (view_of seat).last (view_of seat).number ≡ first_row → IsWorker board (others + 1) seat
worker-made board others first seat leader seated own outside is empty = record {
  ready = record {
    own = own;
    outside = outside;
    seated = subst IsSeated (sym is)
        (subst (λ n. IsSomeAnd (fixed_in core_settings (view_of first).last) (λ (settings : RunSettings). n < settings.seats))
        (sym leader.made) seated);
    hand = record { hand = ap (λ (row : CoreRow). row.row.hand) empty; loan = ap (λ (row : CoreRow). row.loan) empty };
  };
  numbered = ap (λ (view : View CoreParts). view.number) is ∙ leader.made;
  made = ap (λ (row : CoreRow). row.row.made) empty;
}

-- one by which a worker worked
pub worker-worked : (board : BoardLock CoreParts) (old new : BoardSeat CoreParts) → IsReady board None new → IsSameSeat old new
    → Passes (sight_in (view_of old)) (sight_in (view_of new)) → StaysWorker board old new
worker-worked board old new ready same passes = λ number worker. record {
  ready = ready;
  numbered = same-number old new same ∙ worker.numbered;
  made = passes.made ∙ worker.made;
}

-- the same seats by other names
pub worked-as : (board : BoardLock CoreParts) (old new lent left : BoardSeat CoreParts) → lent ≡ old → left ≡ new → StaysWorker board lent left
    → StaysWorker board old new
worked-as board old new lent left before behind stays =
    subst (λ (seat : BoardSeat CoreParts). StaysWorker board seat new) before
    (subst (λ (seat : BoardSeat CoreParts). StaysWorker board lent seat) behind stays)

-- one more of them
pub workers-pushed : (board : BoardLock CoreParts) (seats : List (BoardSeat CoreParts)) (seat : BoardSeat CoreParts) → AreWorkers board seats
    → IsWorker board (length seats + 1) seat → AreWorkers board (seats ++ seat ∷ [])
workers-pushed board seats seat workers worker place other low =
    let long = length_push seats seat in
    dite (ℕ_discrete place (length seats))
    (λ here. subst (λ n. IsWorker board (n + 1) (get_or (seats ++ seat ∷ []) n other)) (sym here)
    (subst (IsWorker board (length seats + 1)) (sym (get_or_push seats seat other (length seats) refl)) worker))
    (λ apart. subst (IsWorker board (place + 1)) (sym (get_or_append_left seats (seat ∷ []) other place (omega arith)))
    (workers place other (omega arith)))

-- all but the last, and the last
pub workers-popped : (board : BoardLock CoreParts) (seats rest : List (BoardSeat CoreParts)) (seat : BoardSeat CoreParts) → seats ≡ rest ++ seat ∷ []
    → AreWorkers board seats → AreWorkers board rest × IsWorker board (length rest + 1) seat
workers-popped board seats rest seat is workers =
    let long = ap length is ∙ length_push rest seat in (
      (λ place other low. subst (IsWorker board (place + 1))
          (ap (λ list. get_or list place other) is ∙ get_or_append_left rest (seat ∷ []) other place low)
          (workers place other (omega arith))),
      subst (IsWorker board (length rest + 1))
          (ap (λ list. get_or list (length rest) seat) is ∙ get_or_push rest seat seat (length rest) refl)
          (workers (length rest) seat (omega arith)),
    )

-- what was written over a list that was lent whole is the list
pub lent-whole : {A : Type 0} (count : ℕ) (before lent written : List A) → lent ≡ before → length written ≡ length lent
    → count ≡ length before → take count (written ++ drop (length written) before) ≡ written
lent-whole count before lent written is long counted =
    take_at written (drop (length written) before) count (let same = ap length is in omega arith)

-- each of them worked
pub workers-worked : (board : BoardLock CoreParts) (old new : List (BoardSeat CoreParts)) → length new ≡ length old
    → ((place : ℕ) (other : BoardSeat CoreParts) → place < length old → StaysWorker board (get_or old place other) (get_or new place other))
    → AreWorkers board old → AreWorkers board new
workers-worked board old new long stays workers place other low =
    stays place other (omega arith) (place + 1) (workers place other (omega arith))

-- Joining.

-- a beginning of a beginning
begins-then : {A : Type 0} (xs ys zs : List A) → IsPrefix xs ys → IsPrefix ys zs → IsPrefix xs zs
begins-then xs ys zs first second =
    (first.0 ++ second.0, sym (append_assoc xs first.0 second.0) ∙ ap (λ list. list ++ second.0) first.1 ∙ second.1)

-- nobody was joined
pub joined-none : (board : BoardLock CoreParts) (others : ℕ) (first : BoardSeat CoreParts) → IsLeader board others first
    → HasJoined board others others (view_of first) first
joined-none board others first leader = record {
  own = leader.own;
  outside = leader.outside;
  first = leader.first;
  made = leader.made;
  count = let none = ap length leader.unjoined in omega arith;
  joined = subst (λ list. AreJoined (others + 1) list) (sym leader.unjoined) tt;
  last = refl;
  goes_on = ([], append-nil (list_in core_entries (view_of first).seen));
}

-- the last of those that were left was joined
pub joined-more : (board : BoardLock CoreParts) (others left : ℕ) (old : View CoreParts) (first next seat : BoardSeat CoreParts)
    → HasJoined board others (left + 1) old first → IsWorker board (left + 1) seat → IsSameSeat first next → IsOutside next
    → view_of next ≡ joined_view core_entries (view_of first) (view_of seat)
    → IsPrefix (list_in core_entries (view_of first).seen) (list_in core_entries (view_of next).seen)
    → HasJoined board others left old next
joined-more board others left old first next seat has worker same outside is longer = record {
  own = same.0 ∙ has.own;
  outside = outside;
  first = ap (λ (view : View CoreParts). view.number) is ∙ has.first;
  made = ap (λ (view : View CoreParts). view.made) is ∙ has.made;
  count = let more = ap (λ (view : View CoreParts). length view.joined) is in let count = has.count in omega arith;
  joined = subst (λ (view : View CoreParts). AreJoined (left + 1) view.joined) (sym is) (worker.numbered, worker.made, has.joined);
  last = ap (λ (view : View CoreParts). view.last) is ∙ has.last;
  goes_on = begins-then (list_in core_entries old.seen) (list_in core_entries (view_of first).seen)
      (list_in core_entries (view_of next).seen) has.goes_on longer;
}
