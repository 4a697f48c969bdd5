-- The lines of a script, and the statements that they are cut into. Nothing here knows of pieces.
use Rattle.std.specs.Prelude.{ℕ, ◌+◌, ◌-◌, Bool, ◌||◌, ◌==◌, nat_eq, nat_lt, List, [], ◌∷◌, ◌++◌, length, map, take, drop, filter, take_while, codes, Option, Some, None, if◌then◌else◌}
use Rattle.std.specs.List.{list_any, prefix_len, starts_with, ends_with}
use Rattle.std.specs.Char.{is_ascii_alphanumeric}
use Rattle.std.specs.Str.{bytes_eq, is_utf8, str_eq_ignore_ascii_case}
use Rattle.script_reader.specs.declared.clipping.TheConstants.{LINE_LIMIT}
use Rattle.script_reader.specs.declared.statement.Statement.{Statement}
use Rattle.script_reader.specs.declared.statement.Block.TheVariants.{Absent, Closed, Unclosed}

-- a byte put at the front of the first line
abbrev pub put_before : ℕ → List (List ℕ) → List (List ℕ)
put_before byte [] = (byte ∷ []) ∷ []
put_before byte (line ∷ lines) = (byte ∷ line) ∷ lines

-- the bytes cut behind each line feed; the last line may be without one
abbrev pub lines_of : List ℕ → List (List ℕ)
lines_of [] = []
lines_of (byte ∷ bytes) =
    if byte == 10 then (byte ∷ []) ∷ lines_of bytes else put_before byte (lines_of bytes)

-- the line has its line feed
abbrev pub is_ended : List ℕ → Bool
is_ended line = list_any (λ byte. byte == 10) line

-- the lines that have come: where the input has not ended, a line without its line feed is no line
abbrev pub whole_lines : Bool → List ℕ → List (List ℕ)
whole_lines ended script = filter (λ line. ended || is_ended line) (lines_of script)

-- the bytes without a last byte of this value
abbrev pub without_last : ℕ → List ℕ → List ℕ
without_last byte bytes =
    if ends_with nat_eq bytes (byte ∷ []) then take (length bytes - 1) bytes else bytes

-- a line without its line feed, and then without one carriage return at its end
abbrev pub line_text : List ℕ → List ℕ
line_text line = without_last 13 (without_last 10 line)

-- a space or a tab
abbrev pub is_blank : ℕ → Bool
is_blank byte = byte == 32 || byte == 9

-- what stands behind the spaces and tabs at the front
abbrev pub without_blanks : List ℕ → List ℕ
without_blanks bytes = drop (prefix_len is_blank bytes) bytes

-- spaces and tabs alone, or a comment: `--` stands first behind them
abbrev pub is_no_statement : List ℕ → Bool
is_no_statement text =
    let rest = without_blanks text in length rest == 0 || starts_with nat_eq rest (codes "--")

-- an ASCII letter, a digit or an underscore
abbrev pub is_word_byte : ℕ → Bool
is_word_byte byte = is_ascii_alphanumeric byte || byte == 95

-- the longest run of letters, digits and underscores behind the spaces and tabs at the front
abbrev pub first_word : List ℕ → List ℕ
first_word text = take_while is_word_byte (without_blanks text)

-- the first word is `load`, in any case of its letters: a block follows the line
abbrev pub has_block : List ℕ → Bool
has_block text = str_eq_ignore_ascii_case (first_word text) (codes "load")

-- what stands for a text that is too long to be read: more letters `x` than a line may have, or
-- the byte 0xFF where the text is not UTF-8. What is answered of it is answered of the text
abbrev pub stand_in : (limit : ℕ) → List ℕ → List ℕ
stand_in limit text = if is_utf8 text then map (λ _. 120) (take (limit + 1) text) else 255 ∷ []

-- the text, but for one of more bytes than the limit what stands for it
unfoldable pub clipped_to : (limit : ℕ) → List ℕ → List ℕ
clipped_to limit text = if nat_lt limit (length text) then stand_in limit text else text

-- what a statement has of the text of its line
abbrev pub clipped : List ℕ → List ℕ
clipped text = clipped_to LINE_LIMIT text

-- a line that is a single dot, which closes a block
abbrev pub is_dot_line : List ℕ → Bool
is_dot_line line = bytes_eq (line_text line) (codes ".")

-- the statements of lines. Where a block is open, `load` is what the statement has of its line and
-- the bytes of the block's lines so far
abbrev pub statements_in : Bool → Option (List ℕ × List ℕ) → List (List ℕ) → List Statement
statements_in ended None [] = []
statements_in ended None (line ∷ lines) =
    let text = line_text line in
    if is_no_statement text then statements_in ended None lines
    else (if has_block text then statements_in ended (Some (clipped text, [])) lines
    else (record { line = clipped text; block = Absent } ∷ statements_in ended None lines))
statements_in ended (Some load) [] =
    if ended then record { line = load.0; block = Unclosed load.1 } ∷ [] else []
statements_in ended (Some load) (line ∷ lines) =
    if is_dot_line line
    then record { line = load.0; block = Closed load.1 } ∷ statements_in ended None lines
    else statements_in ended (Some (load.0, load.1 ++ line)) lines

-- the statements of a script in order. Where the input has not ended, a `load` whose
-- block is open is no statement
abbrev pub statements_of : Bool → List ℕ → List Statement
statements_of ended script = statements_in ended None (whole_lines ended script)
