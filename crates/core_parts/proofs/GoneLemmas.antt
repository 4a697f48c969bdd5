-- Statements that were let go, in front of others.
use Rattle.std.proofs.Common.{◌≡◌, ℕ, suc, ◌<◌, false, List, [], ◌∷◌, ◌++◌, take, drop, map, find, append_assoc, take-append-drop, refl, ap, sym, ◌∙◌, arith}
use Rattle.std.specs.List.{AllPairs, filter_map}
use Rattle.std.proofs.lemmas.List.{map-append}
use Rattle.std.proofs.lemmas.List.Elements.{All-append, All-head, All-tail, filter_map-append}
use Rattle.pipeline_manager.specs.Lives.{Lives}
use Rattle.star_values.specs.Faded.{Faded, items_of}
use Rattle.core_parts.specs.Seated.{Pending, Seat, with_taken, without_pending}
use Rattle.core_parts.specs.declared.submitted.Submitted.{Submitted}
use Rattle.core_parts.specs.Known.{Known}
use Rattle.core_parts.specs.Seats.{AreGone, AreInTurn, is_open_in, is_waited, pending_as, seat_as}
use Rattle.core_parts.proofs.SeatLemmas.{pending_as-none, same_seats, taken_as}

-- the first that is waited for stands behind them
pub first-behind : (gone rest : List Submitted) → AreGone gone
    → find (λ submitted. is_waited submitted.standing) rest ≡ find (λ submitted. is_waited submitted.standing) (gone ++ rest)
first-behind [] rest none = refl
first-behind (first ∷ gone) rest none =
    rw (All-head (λ (s : Submitted). is_waited s.standing ≡ false) first gone none)
    (first-behind gone rest (All-tail (λ (s : Submitted). is_waited s.standing ≡ false) first gone none))

-- and so does the first that may still be answered
pub open-behind : (lives : Lives) (gone rest : List Submitted) → AreGone gone
    → find (is_open_in lives) rest ≡ find (is_open_in lives) (gone ++ rest)
open-behind lives [] rest none = refl
open-behind lives (first ∷ gone) rest none =
    rw (All-head (λ (s : Submitted). is_waited s.standing ≡ false) first gone none)
    (open-behind lives gone rest (All-tail (λ (s : Submitted). is_waited s.standing ≡ false) first gone none))

-- none of them is pending
none-pending : (known : List Known) (gone : List Submitted) → AreGone gone → filter_map (pending_as known) gone ≡ []
none-pending known [] none = refl
none-pending known (first ∷ gone) none =
    rw (pending_as-none known first.number first.standing (All-head (λ (s : Submitted). is_waited s.standing ≡ false) first gone none))
    (none-pending known gone (All-tail (λ (s : Submitted). is_waited s.standing ≡ false) first gone none))

-- a seat that submitted and took more, before all others
abbrev behind : List Known → List Submitted → Seat → Seat
behind known gone seat = record {
  submitted = map (λ submitted. submitted.number) gone ++ seat.submitted;
  pending = seat.pending;
  taken = filter_map (taken_as known) gone ++ seat.taken;
}

-- it is what a seat is where these statements stand in front
seat-behind : (known : List Known) (gone rest : List Submitted) → AreGone gone → seat_as known (gone ++ rest) ≡ behind known gone (seat_as known rest)
seat-behind known gone rest none =
    same_seats _ _ (map-append (λ (s : Submitted). s.number) gone rest)
    (filter_map-append (pending_as known) gone rest ∙ ap (λ (list : List Pending). list ++ filter_map (pending_as known) rest) (none-pending known gone none))
    (filter_map-append (taken_as known) gone rest)

-- what is taken and given up behind them is so of all
pub taken-behind : (known : List Known) (gone old new : List Submitted) → AreGone gone → seat_as known new ≡ with_taken (seat_as known old)
    → seat_as known (gone ++ new) ≡ with_taken (seat_as known (gone ++ old))
taken-behind known gone old new none is =
    seat-behind known gone new none ∙ ap (behind known gone) is
    ∙ same_seats _ (with_taken (behind known gone (seat_as known old))) refl refl (sym (append_assoc (filter_map (taken_as known) gone) (seat_as known old).taken _))
    ∙ ap with_taken (sym (seat-behind known gone old none))

pub without-behind : (known : List Known) (number : ℕ) (gone old new : List Submitted) → AreGone gone
    → seat_as known new ≡ without_pending number (seat_as known old) → seat_as known (gone ++ new) ≡ without_pending number (seat_as known (gone ++ old))
without-behind known number gone old new none is =
    seat-behind known gone new none ∙ ap (behind known gone) is ∙ ap (without_pending number) (sym (seat-behind known gone old none))

-- numbers stay where those behind do
pub numbers-behind : (gone old new : List Submitted) → map (λ (s : Submitted). s.number) new ≡ map (λ (s : Submitted). s.number) old
    → map (λ (s : Submitted). s.number) (gone ++ new) ≡ map (λ (s : Submitted). s.number) (gone ++ old)
numbers-behind gone old new same =
    map-append (λ (s : Submitted). s.number) gone new
    ∙ ap (λ numbers. map (λ (s : Submitted). s.number) gone ++ numbers) same
    ∙ sym (map-append (λ (s : Submitted). s.number) gone old)

-- numbers that rise rise behind the first of them
pub rising-behind : (gone rest : List Submitted)
    → AllPairs (λ statement later. statement < later) (map (λ (s : Submitted). s.number) (gone ++ rest))
    → AllPairs (λ statement later. statement < later) (map (λ (s : Submitted). s.number) rest)
rising-behind [] rest rising = rising
rising-behind (first ∷ gone) rest rising =
    rising-behind gone rest (λ i j d before within. rising (suc i) (suc j) d (omega arith) (omega arith))

-- the first statements are let go
pub gone-more : (gone rest : List Submitted) (next : ℕ) → AreGone gone → AreInTurn next rest → AreGone (gone ++ take next rest)
gone-more gone rest next none turn =
    All-append (λ (s : Submitted). is_waited s.standing ≡ false) gone (take next rest) none turn.none_is_waited

pub turn-settled : (rest : List Submitted) (next : ℕ) → AreInTurn next rest → AreInTurn 0 (drop next rest)
turn-settled rest next turn = record {
  in_range = omega arith;
  none_is_waited = λ k d low. absurd (omega (arith, low));
  none_is_taken = turn.none_is_taken;
}

pub items-settled : {X : Type 0} (gone rest : List X) (next : ℕ) → (gone ++ take next rest) ++ drop next rest ≡ gone ++ rest
items-settled gone rest next =
    append_assoc gone (take next rest) (drop next rest) ∙ ap (λ list. gone ++ list) (take-append-drop next rest)

-- the members stay where both parts do
pub items-same : (old new : Faded Submitted) → new.gone ≡ old.gone → new.rest ≡ old.rest → items_of new ≡ items_of old
items-same old new gone rest = rw (gone, rest) refl
