-- Which replies can be read: those of names, numbers, cells and rows as statements have them.
use Rattle.std.specs.Prelude.{◌≡◌, ℕ, ◌<◌, ◌≤◌, ◌^◌, List, length, All, FitsSigned}
use Rattle.std.specs.Int.{w64}
use Rattle.star_values.specs.SmallText.{IsSmallText}
use Rattle.star_values.specs.declared.cell.Cell.{Cell}
use Rattle.star_values.specs.declared.cell.Cell.TheVariants.{Null, Full}
use Rattle.star_values.specs.declared.value.Value.TheVariants.{Int, Str}
use Rattle.star_values.specs.declared.refusal.Refusal.{Refusal}
use Rattle.star_values.specs.declared.refusal.Refusal.TheVariants.{Syntax, UnknownName, AmbiguousName, DuplicateName, TypeMismatch, MissingJoin, MixedConjunct, NotGrouped, BadRecord, DuplicateKey, DanglingReference, Limit, OutOfOrder, NotUtf8}
use Rattle.star_lexer.specs.Written.{IsName}
use Rattle.star_lexer.specs.declared.reading.TheConstants.{MAX_NAME_BYTES}
use Rattle.reply_text.specs.declared.reply.Reply.{Reply}
use Rattle.reply_text.specs.declared.reply.Reply.TheVariants.{Table, Commit, Answer, Overflow, Memory, Refused, Waited}

-- a name of the language in lower case, of at most 63 bytes
pub record IsTableName (name : List ℕ) : Type 0 where
  pub name_of_the_language : IsName name
  pub short : length name ≤ MAX_NAME_BYTES

-- nothing, an integer of 64 bits with sign, or a text that a table may hold
abbrev pub IsCell : Cell → Type 0
IsCell Null = Unit {0}
IsCell (Full (Int n)) = FitsSigned w64 n
IsCell (Full (Str text)) = IsSmallText text

-- a row of so many cells
pub record IsRow (width : ℕ) (row : List Cell) : Type 0 where
  pub wide : length row ≡ width
  pub cells : All IsCell row

-- rows of one number of cells, which is at least 1; how many rows there are is a number of 64 bits
pub record AreRows (rows : List (List Cell)) : Type 0 where
  pub fits : length rows < 2 ^ 64
  pub even : (width : ℕ) × (0 < width) × All (IsRow width) rows

-- the place of a syntax fault is a number of 32 bits
abbrev pub IsRefusal : Refusal → Type 0
IsRefusal (Syntax place) = place < 2 ^ 32
IsRefusal UnknownName = Unit {0}
IsRefusal AmbiguousName = Unit {0}
IsRefusal DuplicateName = Unit {0}
IsRefusal TypeMismatch = Unit {0}
IsRefusal MissingJoin = Unit {0}
IsRefusal MixedConjunct = Unit {0}
IsRefusal NotGrouped = Unit {0}
IsRefusal BadRecord = Unit {0}
IsRefusal DuplicateKey = Unit {0}
IsRefusal DanglingReference = Unit {0}
IsRefusal Limit = Unit {0}
IsRefusal OutOfOrder = Unit {0}
IsRefusal NotUtf8 = Unit {0}

-- a reply that a statement may have: its name, numbers, rows and refusal are such as there are
abbrev pub IsWellFormed : Reply → Type 0
IsWellFormed (Table name) = IsTableName name
IsWellFormed (Commit number rows) = (number < 2 ^ 64) × (rows < 2 ^ 64)
IsWellFormed (Answer snapshot rows) = (snapshot < 2 ^ 64) × AreRows rows
IsWellFormed (Overflow snapshot) = snapshot < 2 ^ 64
IsWellFormed Memory = Unit {0}
IsWellFormed (Refused refusal) = IsRefusal refusal
IsWellFormed Waited = Unit {0}
