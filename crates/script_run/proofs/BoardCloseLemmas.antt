-- The end of a board: every entry is of the front, and the front sees in the core what its seat knew last.
use Rattle.script_run.proofs.Words.{◌++◌, ◌+◌, ◌<◌, ◌∙◌, ◌∷◌, ◌≡◌, ◌≢◌, ◌≤◌, [], All, All-cons, All-head, All-nil, All-tail, ap, append-nil, append_assoc, arith, Bool, cond, Entry, eqb, false, IfSome, length, List, map, None, Option, refl, Some, state_of, subst, sym, true, ℕ}
use mathlib.Core.Logic.{dite}
use native.Mathlib.Decide.{ℕ_discrete, dec_le}
use Rattle.std.proofs.Common.{filter}
use Rattle.std.proofs.lemmas.Bool.{eqb-false}
use Rattle.star_io.specs.Link.{ReadingSide, WritingSide}
use Rattle.star_io.specs.declared.run_end.RunEnd.{RunEnd}
use Rattle.core_state.specs.Rows.{Sight, made_by, sight_of}
use Rattle.core_state.specs.Sent.{AreOfOthers}
use Rattle.board_lock.specs.Seats.{view_of}
use Rattle.board_lock.specs.Views.{AreUnmadeEmpty, Finds, list_in, row_in}
use Rattle.board_lock.specs.declared.seat.BoardLock.{BoardLock}
use Rattle.board_lock.specs.declared.seat.BoardSeat.{BoardSeat}
use Rattle.board_lock.specs.declared.view.Parted.{Parted}
use Rattle.board_lock.specs.declared.view.View.{View}
use Rattle.event_core.specs.Board.{CoreRow, core_entries, core_row, core_settings, first_row}
use Rattle.event_core.specs.CoreParts.{CoreParts}
use Rattle.worker_gate.specs.Turns.{sight_in}
use Rattle.script_run.specs.BoardRun.{AnswersBoard, AreJoined, HasJoined, HasRun, IsLeftBy}
use Rattle.script_run.specs.Shared.{AnswersSent, TellsSent, UnlessWanting}

-- Entries and who made them.

-- where a seat made none of some entries it made not the first, and none of the others
made-none : (seat : ℕ) (entry : Entry) (entries : List Entry) → made_by seat (entry ∷ entries) ≡ []
    → (entry.seat ≢ seat) × (made_by seat entries ≡ [])
made-none seat entry entries none = by_test (eqb entry.seat seat) refl none
  where
    by_test : (test : Bool) → eqb entry.seat seat ≡ test
        → map (λ (e : Entry). e.statement)
        (cond test (entry ∷ filter (λ (e : Entry). eqb e.seat seat) entries) (filter (λ (e : Entry). eqb e.seat seat) entries)) ≡ []
        → (entry.seat ≢ seat) × (made_by seat entries ≡ [])
    by_test true is e = absurd (let some : entry.statement ∷ made_by seat entries ≡ [] = e in cc)
    by_test false is e = ((λ same. eqb-false entry.seat seat is same), e)

-- where a seat made no more with one entry in front it made no more without
made-same : (seat : ℕ) (entry : Entry) (entries since : List Entry)
    → made_by seat (entry ∷ (entries ++ since)) ≡ made_by seat (entry ∷ entries) → made_by seat (entries ++ since) ≡ made_by seat entries
made-same seat entry entries since same = by_test (eqb entry.seat seat) same
  where
    by_test : (test : Bool)
        → map (λ (e : Entry). e.statement)
        (cond test (entry ∷ filter (λ (e : Entry). eqb e.seat seat) (entries ++ since))
        (filter (λ (e : Entry). eqb e.seat seat) (entries ++ since)))
        ≡ map (λ (e : Entry). e.statement)
        (cond test (entry ∷ filter (λ (e : Entry). eqb e.seat seat) entries) (filter (λ (e : Entry). eqb e.seat seat) entries))
        → made_by seat (entries ++ since) ≡ made_by seat entries
    by_test true e =
        let both : entry.statement ∷ made_by seat (entries ++ since) ≡ entry.statement ∷ made_by seat entries = e in cc
    by_test false e = e

-- where a seat made no more, what came is of others
pub others-came : (seat : ℕ) (entries since : List Entry) → made_by seat (entries ++ since) ≡ made_by seat entries → AreOfOthers seat since
others-came seat [] [] same = All-nil (λ (e : Entry). e.seat ≢ seat)
others-came seat [] (entry ∷ since) same =
    let none = made-none seat entry since same in
    All-cons (λ (e : Entry). e.seat ≢ seat) entry since none.0 (others-came seat [] since none.1)
others-came seat (entry ∷ entries) since same = others-came seat entries since (made-same seat entry entries since same)

-- where a seat made no more, and all entries are of it, none came
pub none-came : (seat : ℕ) (entries since : List Entry) → made_by seat (entries ++ since) ≡ made_by seat entries
    → All (λ entry. entry.seat ≡ seat) (entries ++ since) → since ≡ []
none-came seat [] [] same own = refl
none-came seat [] (entry ∷ since) same own =
    absurd ((made-none seat entry since same).0 (All-head (λ (e : Entry). e.seat ≡ seat) entry since own))
none-came seat (entry ∷ entries) since same own =
    none-came seat entries since (made-same seat entry entries since same)
    (All-tail (λ (e : Entry). e.seat ≡ seat) entry (entries ++ since) own)

-- where nobody but one seat made any of some entries they are of that seat
pub own-all : (seat : ℕ) (entries : List Entry) → ((other : ℕ) → other ≢ seat → made_by other entries ≡ [])
    → All (λ entry. entry.seat ≡ seat) entries
own-all seat [] none = All-nil (λ (e : Entry). e.seat ≡ seat)
own-all seat (entry ∷ entries) none = All-cons (λ (e : Entry). e.seat ≡ seat) entry entries
    (dite (ℕ_discrete entry.seat seat) (λ same. same)
    (λ apart. absurd ((made-none entry.seat entry entries (none entry.seat apart)).0 refl)))
    (own-all seat entries (λ other apart. (made-none other entry entries (none other apart)).1))

-- The rows of seats that were joined.

-- the row of a joined seat is as it was
abbrev IsKept : CoreParts → Parted CoreParts → Type 0
IsKept core parted = core_row core parted.number ≡ row_in core_row first_row parted.last parted.number

-- none of them made an entry
parted-none : (core : CoreParts) (from : ℕ) (joined : List (Parted CoreParts)) → AreJoined from joined → All (IsKept core) joined
    → (k : ℕ) → from ≤ k → k < from + length joined → made_by k (core_entries core) ≡ []
parted-none core from [] are kept k low high = absurd (omega arith)
parted-none core from (parted ∷ joined) (number, made, are) kept k low high = dite (ℕ_discrete k from)
    (λ here. subst (λ n. made_by n (core_entries core) ≡ []) (number ∙ sym here)
    (ap (λ (row : CoreRow). row.row.made) (All-head (IsKept core) parted joined kept) ∙ made))
    (λ apart. parted-none core (from + 1) joined are (All-tail (IsKept core) parted joined kept) k (omega arith) (omega arith))

-- what the front's seat left, where all others were joined
pub left-by : (board : BoardLock CoreParts) (others : ℕ) (old : View CoreParts) (seat : BoardSeat CoreParts) (core : CoreParts) → old.number ≡ 0
    → HasJoined board others 0 old seat → Finds core_row first_row core_entries core_settings (view_of seat) core
    → AreUnmadeEmpty core_row first_row (view_of seat).made core → IsLeftBy old core
left-by board others old seat core first has finds unmade = record {
  row = subst (λ n. core_row core n ≡ row_in core_row first_row (view_of seat).last n) has.first finds.own
      ∙ (λ i. row_in core_row first_row (has.last i) (sym first i));
  goes_on = (
    has.goes_on.0 ++ finds.goes_on.0,
    sym (append_assoc (list_in core_entries old.seen) has.goes_on.0 finds.goes_on.0)
        ∙ ap (λ list. list ++ finds.goes_on.0) has.goes_on.1 ∙ finds.goes_on.1,
  );
  own = own-all 0 (core_entries core) none;
}
  where
    none : (k : ℕ) → k ≢ 0 → made_by k (core_entries core) ≡ []
    none k apart =
        let count = has.count in let made = has.made in
        dite (dec_le k others)
        (λ low. parted-none core 1 (view_of seat).joined has.joined finds.joined k (omega arith) (omega arith))
        (λ high. ap (λ (row : CoreRow). row.row.made) (unmade k (omega arith)))

-- What the front sees.

-- it sees in the core what its seat knew last
pub front-sees : (view : View CoreParts) (core : CoreParts) → IsLeftBy view core → (sight_in view).row.made ≡ made_by 0 (sight_in view).seen
    → sight_of (state_of core) 0 ≡ sight_in view
front-sees view core left made = λ i. record { row = (left.row i).row; seen = entries i }
  where
    none : left.goes_on.0 ≡ []
    none = none-came 0 (sight_in view).seen left.goes_on.0
        (ap (made_by 0) left.goes_on.1 ∙ ap (λ (row : CoreRow). row.row.made) left.row ∙ made)
        (subst (All (λ (e : Entry). e.seat ≡ 0)) (sym left.goes_on.1) left.own)

    entries : core_entries core ≡ (sight_in view).seen
    entries = sym left.goes_on.1 ∙ ap (λ list. (sight_in view).seen ++ list) none ∙ append-nil (sight_in view).seen

-- what a run tells by the core that it hands back, if there is one
pub board-answers : (given : Option CoreParts) (core : CoreParts) (end : RunEnd) (view : View CoreParts) (from from' : ReadingSide)
    (to to' : WritingSide) → IfSome given (λ parts. parts ≡ core) → IsLeftBy view core
    → (sight_in view).row.made ≡ made_by 0 (sight_in view).seen
    → AnswersSent end (sight_in view) from from' to to' → AnswersBoard given end from from' to to'
board-answers given core end view from from' to to' is left made sent = by_given given is
  where
    sees : sight_of (state_of core) 0 ≡ sight_in view
    sees = front-sees view core left made

    own : All (λ (e : Entry). e.seat ≡ 0) (sight_in view).seen
    own = subst (All (λ (e : Entry). e.seat ≡ 0)) (ap (λ (sight : Sight). sight.seen) sees) left.own

    by_given : (given : Option CoreParts) → IfSome given (λ parts. parts ≡ core) → AnswersBoard given end from from' to to'
    by_given None same = ((sent own).0, tt)
    by_given (Some parts) same = (
      (sent own).0,
      subst (λ (sight : Sight). UnlessWanting end (TellsSent end from'.ended (sent own).0.wanted (sent own).0.given sight))
          (sym (ap (λ p. sight_of (state_of p) 0) same ∙ sees)) (sent own).1,
    )

-- what a run tells whose front ran, and whose board was ended
pub board-done : (given : Option CoreParts) (core : CoreParts) (end : RunEnd) (board : BoardLock CoreParts) (old seat : BoardSeat CoreParts)
    (view : View CoreParts) (from from' from'' : ReadingSide) (to to' to'' : WritingSide) → view_of seat ≡ view → from' ≡ from'' → to' ≡ to''
    → HasRun board end old seat from from' to to' → IsLeftBy view core → IfSome given (λ parts. parts ≡ core)
    → AnswersBoard given end from from'' to to''
board-done given core end board old seat view from from' from'' to to' to'' same read written run left is =
    subst (λ (source : ReadingSide). AnswersBoard given end from source to to'') read
    (subst (λ (sink : WritingSide). AnswersBoard given end from from' to sink) written
    (board-answers given core end (view_of seat) from from' to to' is
    (subst (λ (v : View CoreParts). IsLeftBy v core) (sym same) left) run.made run.answers))
