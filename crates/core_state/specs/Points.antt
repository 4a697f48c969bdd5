-- Where in the list of entries the statements of a seat stand, in words that need no
-- recursion over what came between.
use Rattle.std.specs.Prelude.{◌≡◌, ℕ, ◌+◌, ◌≤◌, List, [], ◌∷◌, ◌++◌, length, take}
use Rattle.core_state.specs.Sent.{AreEntriesOf, Given, Lost, Sent, entry_made}
use Rattle.core_state.specs.State.{Entry}

-- the entry that was made of what was sent
abbrev pub entry_at : (seat : ℕ) → List Entry → Sent → List Entry
entry_at seat entries (Lost statement) = []
entry_at seat entries (Given number point statement) =
    entry_made seat number (take point entries) statement

-- points never fall, each is above that of an entry made before it, and none is past the entries
abbrev pub Rise : (seat : ℕ) → List Entry → (low : ℕ) → List Sent → Type 0
Rise seat entries low [] = low ≤ length entries
Rise seat entries low (Lost statement ∷ sent) = Rise seat entries low sent
Rise seat entries low (Given number point statement ∷ sent) =
    (low ≤ point)
    × Rise seat entries
    (point + length (entry_made seat number (take point entries) statement)) sent

-- the entry of what was sent stands at its point
abbrev pub StandsAtPoint : (seat : ℕ) → List Entry → Sent → Type 0
StandsAtPoint seat entries (Lost statement) = Unit {0}
StandsAtPoint seat entries (Given number point statement) =
    (rest : List Entry)
    × (entries
    ≡ take point entries ++ (entry_made seat number (take point entries) statement ++ rest))

-- the entries that came with all that was sent, in two parts: the first came with what was sent
-- first, and the others with what was sent later
pub record ComeInParts (seat : ℕ) (before : List Entry) (sent more : List Sent)
    (since : List Entry) : Type 0 where
  pub first : List Entry
  pub later : List Entry
  pub all : since ≡ first ++ later
  pub of_first : AreEntriesOf seat before sent first
  pub of_later : AreEntriesOf seat (before ++ first) more later
