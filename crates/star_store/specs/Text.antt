-- What a statement means by its text alone, and why its text is refused: the first of three tests
-- that it does not pass. No table is looked at.
use Rattle.std.specs.Prelude.{◌≡◌, ◌⊎◌, ℕ, Bool, true, false, not, ◌&&◌, List, length, Result, Ok, Err, if◌then◌else◌}
use Rattle.std.specs.Str.{IsUtf8, is_utf8}
use Rattle.star_values.specs.declared.refusal.Refusal.{Refusal}
use Rattle.star_values.specs.declared.refusal.Refusal.TheVariants as refusal
use Rattle.script_reader.specs.declared.statement.Statement.{Statement}
use Rattle.script_reader.specs.declared.statement.Block.{Block}
use Rattle.script_reader.specs.declared.statement.Block.TheVariants.{Absent, Closed, Unclosed}
use Rattle.star_lexer.specs.Limits.{IsOverLimit}
use Rattle.star_parser.specs.Statement as written
use Rattle.star_parser.specs.Sentence.{IsSentence, IsStop}
use Rattle.star_parser.specs.Parsed.{Parsed, Over, Stopped, Means, parsed_of}

-- a function of the value at `Ok`
abbrev pub map_ok : {A B E : Type 0} → (A → B) → Result A E → Result B E
map_ok f (Ok x) = Ok (f x)
map_ok f (Err e) = Err e

-- the declaration of a dimension
abbrev pub is_dimension : written.Statement → Bool
is_dimension (written.Dimension name columns) = true
is_dimension other = false

-- a load
abbrev pub is_load : written.Statement → Bool
is_load (written.Load name header) = true
is_load other = false

-- a statement that may change the tables: a declaration, a load or a delete
abbrev pub is_change : written.Statement → Bool
is_change (written.Dimension name columns) = true
is_change (written.Fact name columns) = true
is_change (written.Load name header) = true
is_change (written.Delete name condition) = true
is_change other = false

-- a text that means such a statement; one that is refused changes nothing
abbrev pub may_change_tables : Result written.Statement Refusal → Bool
may_change_tables (Ok meaning) = is_change meaning
may_change_tables (Err reason) = false

-- a dot line ended the block
abbrev pub is_closed : Block → Bool
is_closed Absent = false
is_closed (Closed block) = true
is_closed (Unclosed block) = false

-- a load without a closed block; the block of any other statement is not looked at
abbrev pub lacks_block : written.Statement → Block → Bool
lacks_block meaning block = is_load meaning && not (is_closed block)

-- what a line of so many bytes that is UTF-8 means, with what stands behind it, or why it is
-- refused: it is over a limit, or no statement from a place on
abbrev pub parsed_meaning : ℕ → Block → Parsed → Result written.Statement Refusal
parsed_meaning end block Over = Err refusal.Limit
parsed_meaning end block (Stopped place) = Err (refusal.Syntax place)
parsed_meaning end block (Means meaning) =
    if lacks_block meaning block then Err (refusal.Syntax end) else Ok meaning

-- what a statement means, or why its text is refused
unfoldable pub meaning_of : Statement → Result written.Statement Refusal
meaning_of statement =
    if is_utf8 statement.line
    then parsed_meaning (length statement.line) statement.block (parsed_of statement.line)
    else Err refusal.NotUtf8

-- The same in the words of the limits and the grammar.

-- the line is UTF-8 and within its limits
abbrev pub IsWithin : List ℕ → Type 0
IsWithin line = IsUtf8 line × ¬ (IsOverLimit line)

-- the line is the statement of this meaning, and does not lack a block
abbrev pub IsWhole : Statement → written.Statement → Type 0
IsWhole statement meaning =
    IsSentence statement.line meaning × (lacks_block meaning statement.block ≡ false)

-- the line ends in this place, and is a load without a closed block
abbrev pub EndsTooSoon : Statement → ℕ → Type 0
EndsTooSoon statement place =
    (meaning : written.Statement) × IsSentence statement.line meaning
    × (lacks_block meaning statement.block ≡ true)
    × (place ≡ length statement.line)

-- the first place where the line is the front of no statement, or the end of a
-- load without a closed block
abbrev pub StopsAt : Statement → ℕ → Type 0
StopsAt statement place = IsStop statement.line place ⊎ EndsTooSoon statement place
