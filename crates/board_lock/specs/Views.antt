-- What a seat knows, as plain data, and what each call makes of it.
use Rattle.std.specs.Prelude.{◌≡◌, ◌≢◌, ℕ, ◌+◌, ◌≤◌, nat_le, List, [], ◌∷◌, length, true, false, if◌then◌else◌, Option, Some, None, All}
use mathlib.Core.List.{IsPrefix}
use Rattle.board_lock.specs.declared.view.View.{View}
use Rattle.board_lock.specs.declared.view.Parted.{Parted}

-- the row of a number in a noted state
abbrev pub row_in : {S Row : Type 0} → (S → ℕ → Row) → Row → Option S → ℕ → Row
row_in row empty None k = empty
row_in row empty (Some state) k = row state k

-- the row of a number is empty in both states that a seat noted
pub record HasEmptyRow {S Row : Type 0} (row : S → ℕ → Row) (empty : Row) (view : View S) (k : ℕ)
    : Type 0 where
  pub last : row_in row empty view.last k ≡ empty
  pub seen : row_in row empty view.seen k ≡ empty

-- the commits of a noted state
abbrev pub list_in : {S Entry : Type 0} → (S → List Entry) → Option S → List Entry
list_in commits None = []
list_in commits (Some state) = commits state

-- the fixed value of a noted state
abbrev pub fixed_in : {S Fixed : Type 0} → (S → Fixed) → Option S → Option Fixed
fixed_in fixed None = None
fixed_in fixed (Some state) = Some (fixed state)

-- of two noted states, the one with the longer list
abbrev pub longer_of : {S Entry : Type 0} → (S → List Entry) → Option S → Option S → Option S
longer_of commits a b =
    if nat_le (length (list_in commits a)) (length (list_in commits b)) then b else a

-- the list of a noted state begins with the lists of two others
pub record BeginsWithBoth {S Entry : Type 0} (commits : S → List Entry) (one other after : Option S)
    : Type 0 where
  pub mine : IsPrefix (list_in commits one) (list_in commits after)
  pub others : IsPrefix (list_in commits other) (list_in commits after)

module _ {S : Type 0} where
  -- the first seat knows the opening state
  abbrev pub first_view : S → View S
  first_view state = record {
    live = true;
    number = 0;
    made = 1;
    inside = false;
    last = Some state;
    seen = Some state;
    joined = [];
  }

  -- a seat that was joined knows nothing
  abbrev pub spent_view : View S
  spent_view = record {
    live = false;
    number = 0;
    made = 0;
    inside = false;
    last = None;
    seen = None;
    joined = [];
  }

  -- the seat took this state
  abbrev pub entered : View S → S → View S
  entered view state = record view { inside = true; last = Some state; seen = Some state }

  -- the seat left this state
  abbrev pub left : View S → S → View S
  left view state = record view { inside = false; last = Some state; seen = Some state }

  -- the first seat made one more
  abbrev pub split_view : View S → View S
  split_view view = record view { made = view.made + 1 }

  -- a new seat has the next number, and knows what the first one knows
  abbrev pub new_view : View S → View S
  new_view view = record {
    live = true;
    number = view.made;
    made = 0;
    inside = false;
    last = view.last;
    seen = view.seen;
    joined = [];
  }

  -- what the first seat keeps of one that it joins
  abbrev pub parted_of : View S → Parted S
  parted_of other = record { number = other.number; last = other.last; seen = other.seen }

  -- the first seat keeps what a joined seat knew
  abbrev pub with_parted : View S → View S → View S
  with_parted view other = record view { joined = parted_of other ∷ view.joined }

  -- the first seat has seen this state's list, too
  abbrev pub having_seen : View S → Option S → View S
  having_seen view state = record view { seen = state }

-- the first seat joined another, and has seen the longer of their lists
abbrev pub joined_view : {S Entry : Type 0} → (S → List Entry) → View S → View S → View S
joined_view commits view other =
    having_seen (with_parted view other) (longer_of commits view.seen other.seen)

-- each joined seat's row is as it was when it was joined
abbrev pub KeepsJoined : {S Row : Type 0} → (S → ℕ → Row) → Row → View S → S → Type 0
KeepsJoined row empty view state =
    All (λ parted. row state parted.number ≡ row_in row empty parted.last parted.number) view.joined

-- what holds of a state that a seat finds: its own row, all that it had seen, the fixed value, and,
-- of the first seat, the rows of those that it joined
pub record Finds {S Row Entry Fixed : Type 0} (row : S → ℕ → Row) (empty : Row)
    (commits : S → List Entry) (fixed : S → Fixed) (view : View S) (state : S) : Type 0 where
  pub own : row state view.number ≡ row_in row empty view.last view.number
  pub goes_on : IsPrefix (list_in commits view.seen) (commits state)
  pub settled : fixed_in fixed view.last ≡ Some (fixed state)
  pub joined : KeepsJoined row empty view state

-- what a seat that is inside has to keep of the state that it found
pub record Keeps {S Row Entry Fixed : Type 0} (row : S → ℕ → Row) (empty : Row)
    (commits : S → List Entry) (fixed : S → Fixed) (view : View S) (state : S) : Type 0 where
  pub others : (k : ℕ) → k ≢ view.number → row state k ≡ row_in row empty view.last k
  pub goes_on : IsPrefix (list_in commits view.last) (commits state)
  pub settled : fixed_in fixed view.last ≡ Some (fixed state)

-- numbers that no seat has yet have empty rows
abbrev pub AreUnmadeEmpty : {S Row : Type 0} → (S → ℕ → Row) → Row → ℕ → S → Type 0
AreUnmadeEmpty row empty made state = (k : ℕ) → made ≤ k → row state k ≡ empty
