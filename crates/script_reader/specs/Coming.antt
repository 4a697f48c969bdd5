-- What stays where the input has not ended, whatever bytes still come and
-- whether they are the last.
use Rattle.std.specs.Prelude.{◌≡◌, ℕ, Bool, true, false, List, ◌∷◌, ◌++◌, take, drop}
use Rattle.script_reader.specs.declared.closing.Closing.{Closing}
use Rattle.script_reader.specs.declared.closing.Closing.TheVariants.{Dot, Input}
use Rattle.script_reader.specs.declared.statement.Statement.{Statement}
use Rattle.script_reader.specs.declared.statement.Block.TheVariants.{Closed}
use Rattle.script_reader.specs.Script.{whole_lines, statements_of}
use Rattle.script_reader.specs.Cut.{statements_from, statements_from_load}

-- the statement stays the first, and the script goes on behind so many bytes of it
abbrev pub StaysFirst : Bool → List ℕ → Statement → ℕ → Type 0
StaysFirst ended script statement len =
    ended ≡ false → (more : List ℕ) (last : Bool)
    → statements_of last (script ++ more) ≡ statement ∷ statements_of last (drop len script ++ more)

-- the first line stays the first
abbrev pub StaysLine : Bool → List ℕ → ℕ → Type 0
StaysLine ended script len =
    ended ≡ false → (more : List ℕ) (last : Bool)
    → whole_lines last (script ++ more)
    ≡ take len script ∷ whole_lines last (drop len script ++ more)

-- no statement begins in front of that place
abbrev pub StaysPassed : Bool → List ℕ → ℕ → Type 0
StaysPassed ended script end =
    ended ≡ false → (more : List ℕ) (last : Bool)
    → statements_of last (drop end script ++ more) ≡ statements_of last (script ++ more)

-- the line in front of that place stays the first that begins a statement
abbrev pub StaysOpening : Bool → List ℕ → List ℕ → ℕ → Type 0
StaysOpening ended script text end =
    ended ≡ false → (more : List ℕ) (last : Bool)
    → statements_of last (script ++ more) ≡ statements_from last text (drop end script ++ more)

-- the block stays closed
abbrev pub StaysClosed : Bool → List ℕ → Closing → Type 0
StaysClosed ended rest (Dot len end) =
    ended ≡ false → (text more : List ℕ) (last : Bool)
    → statements_from_load last text (rest ++ more)
    ≡ record { line = text; block = Closed (take len rest) }
    ∷ statements_of last (drop end rest ++ more)
StaysClosed ended rest Input = ended ≡ true

-- the `load` with this text stays the first statement of what stands behind its line
abbrev pub StaysLoad : Bool → List ℕ → List ℕ → Statement → ℕ → Type 0
StaysLoad ended text rest statement len =
    ended ≡ false → (more : List ℕ) (last : Bool)
    → statements_from_load last text (rest ++ more)
    ≡ statement ∷ statements_of last (drop len rest ++ more)
