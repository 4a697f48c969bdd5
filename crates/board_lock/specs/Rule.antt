-- The rule that the table keeps between any two steps, and what each step tells its seat.
use Rattle.std.specs.Prelude.{◌≡◌, ◌≢◌, ◌⊎◌, ℕ, suc, ◌+◌, ◌≤◌, Bool, true, false, List, [], ◌∷◌, length, Option, Some, All}
use mathlib.Core.List.{IsPrefix}
use mathlib.Core.Option.{some, none}
use mathlib.Core.Option as maybe
use lib.ListN.{get_elem?}
use Rattle.atomic_table.specs.Table.{State, Me}
use Rattle.board_lock.specs.declared.view.View.{View}
use Rattle.board_lock.specs.declared.view.Parted.{Parted}
use Rattle.board_lock.specs.Views.{row_in, HasEmptyRow, list_in, fixed_in, longer_of, BeginsWithBoth, entered, left, spent_view, having_seen, Finds}

-- a seat that was not joined counts
abbrev pub one_if : Bool → ℕ
one_if true = 1
one_if false = 0

-- how many seats were not joined
abbrev pub seated : {S : Type 0} → List (View S) → ℕ
seated [] = 0
seated (view ∷ views) = one_if view.live + seated views

-- a seat that was joined is spent, its row is as it was, and the list begins with what it had seen
pub record Stays {S Row Entry : Type 0} (row : S → ℕ → Row) (empty : Row) (commits : S → List Entry)
    (views : List (View S)) (home : S) (parted : Parted S) : Type 0 where
  pub spent : get_elem? views parted.number ≡ some spent_view
  pub own : row home parted.number ≡ row_in row empty parted.last parted.number
  pub goes_on : IsPrefix (list_in commits parted.seen) (commits home)
  pub spare : (k : ℕ) → length views ≤ k → row_in row empty parted.seen k ≡ empty

-- the first seat knows how many were made, and has joined those that are spent
pub record Leads {S : Type 0} (views : List (View S)) (view : View S) : Type 0 where
  pub made : view.made ≡ length views
  pub counted : seated views + length view.joined ≡ length views

-- what the seat k knows is so
pub record KnowsRightly {S Row Entry Fixed : Type 0} (row : S → ℕ → Row) (empty : Row)
    (commits : S → List Entry) (fixed : S → Fixed)
    (turn : ℕ) (views : List (View S)) (home : S) (k : ℕ) (view : View S) : Type 0 where
  pub number : view.number ≡ k
  pub turned : view.inside ≡ true → turn ≡ suc k
  pub own : row home k ≡ row_in row empty view.last k
  pub goes_on : IsPrefix (list_in commits view.seen) (commits home)
  pub settled : fixed_in fixed view.last ≡ Some (fixed home)
  pub spare : (j : ℕ) → length views ≤ j → HasEmptyRow row empty view j
  pub parted : All (Stays row empty commits views home) view.joined
  pub leads : k ≡ 0 → Leads views view

-- a live seat that is inside took this state last
pub record TookLast {S : Type 0} (views : List (View S)) (home : S) (k : ℕ) (view : View S) :
    Type 0 where
  pub seat : get_elem? views k ≡ some view
  pub live : view.live ≡ true
  pub inside : view.inside ≡ true
  pub last : view.last ≡ Some home

-- the state is in its slot where the turn is 0, and else with the seat whose turn it is, which
-- noted what it found
abbrev pub IsStateHome : {S : Type 0} → ℕ → List (maybe.Option (Option S)) → List (View S) → S
    → Type 0
IsStateHome {S} turn homes views home =
    ((turn ≡ 0) × (homes ≡ some (Some home) ∷ []))
    ⊎ ((k : ℕ) × (view : View S) × (turn ≡ suc k) × (homes ≡ none ∷ [])
    × TookLast views home k view)

-- the table of a board: what each live seat knows is so, and numbers that no seat has yet have
-- empty rows
pub record IsBoard {S Row Entry Fixed : Type 0} (row : S → ℕ → Row) (empty : Row)
    (commits : S → List Entry) (fixed : S → Fixed)
    (table : State (Option S) (View S)) : Type 0 where
  pub turn : ℕ
  pub home : S
  pub words : table.words ≡ turn ∷ []
  pub place : IsStateHome turn table.homes table.views home
  pub each : (k : ℕ) (view : View S) → get_elem? table.views k ≡ some view → view.live ≡ true →
      KnowsRightly row empty commits fixed turn table.views home k view
  pub unmade : (k : ℕ) → length table.views ≤ k → row home k ≡ empty

-- a seat and the slots that are out with it
abbrev pub Sat : Type 0 → Type 0
Sat S = Me (Option S) (View S)

-- where the turn was free, the seat has it, and the state's slot
abbrev pub TakesTurn : {S Row Entry Fixed : Type 0} → (S → ℕ → Row) → Row → (S → List Entry) →
    (S → Fixed) → Sat S → ℕ → Sat S → Type 0
TakesTurn {S} row empty commits fixed before found after =
    (found ≡ 0 → (state : S) × (after ≡ (entered before.0 state, (0, Some state) ∷ []))
    × Finds row empty commits fixed before.0 state)
    × (found ≢ 0 → after ≡ before)

-- the seat gave the state back that its slot had
abbrev pub GivesBack : {S : Type 0} → Sat S → Sat S → Type 0
GivesBack {S} before after =
    (state : S) → before.1 ≡ (0, Some state) ∷ [] → after ≡ (left before.0 state, [])

-- the next number has an empty row in both states that the first seat noted
abbrev pub Looks : {S Row : Type 0} → (S → ℕ → Row) → Row → Sat S → Sat S → Type 0
Looks row empty before after =
    (after ≡ before) × HasEmptyRow row empty before.0 before.0.made

-- the seat has seen the longer list of the two, which begins with both
abbrev pub ComparesWith : {S Entry : Type 0} → (S → List Entry) → View S → List (Parted S) →
    View S → Type 0
ComparesWith commits view [] after = after ≡ view
ComparesWith commits view (parted ∷ others) after =
    (after ≡ having_seen view (longer_of commits view.seen parted.seen))
    × BeginsWithBoth commits view.seen parted.seen after.seen

-- the first seat compares what it has seen with what the seat had seen that it joined last
abbrev pub Compares : {S Entry : Type 0} → (S → List Entry) → Sat S → Sat S → Type 0
Compares commits before after =
    ComparesWith commits before.0 before.0.joined after.0 × (after.1 ≡ before.1)
