-- How a reply is read from the front of bytes: a reader of each part gives what it read, and the
-- bytes behind it. That a reader reads each text of its part, and no other bytes, is proved.
use Rattle.std.specs.Prelude.{ℕ, zero, suc, ◌<◌, ◌^◌, ◌==◌, Bool, true, false, not, ◌&&◌, ◌||◌, nat_eq, nat_lt, nat_le, List, [], ◌∷◌, ◌++◌, length, take, drop, find, codes, decimal, bytes_eq, ℤ, Option, Some, None, option_map, if◌then◌else◌}
use Rattle.std.specs.Option.{option_map_or, option_and_then, option_or}
use Rattle.std.specs.List.{list_all, list_any, prefix_len, starts_with}
use Rattle.std.specs.Char.{is_ascii_digit}
use Rattle.std.specs.Fmt.{signed_decimal}
use Rattle.std.specs.Str.Parse.{IsNumeral, digits_value}
use Rattle.star_values.specs.Integer.{integer_in}
use Rattle.star_values.specs.SmallText.{is_small_text}
use Rattle.star_values.specs.declared.cell.Cell.{Cell}
use Rattle.star_values.specs.declared.cell.Cell.TheVariants.{Null, Full}
use Rattle.star_values.specs.declared.value.Value.TheVariants.{Int, Str}
use Rattle.star_values.specs.declared.refusal.Refusal.{Refusal}
use Rattle.star_values.specs.declared.refusal.Refusal.TheVariants as refusal
use Rattle.star_lexer.specs.Keyword.{keyword_of}
use Rattle.star_lexer.specs.Written.{begins_name, is_name_byte}
use Rattle.star_lexer.specs.declared.reading.TheConstants.{MAX_NAME_BYTES}
use Rattle.reply_text.specs.declared.reply.Reply.{Reply}
use Rattle.reply_text.specs.declared.reply.Reply.TheVariants.{Table, Commit, Answer, Overflow, Memory, Refused, Waited}

-- what was read at the front, and the bytes behind it
abbrev pub Found : Type 0 → Type 0
Found A = Option (A × List ℕ)

-- the bytes behind a word at the front
unfoldable pub behind : List ℕ → List ℕ → Option (List ℕ)
behind word bytes = if starts_with nat_eq bytes word then Some (drop (length word) bytes) else None

-- a part that a word ends
abbrev pub ended_by : {A : Type 0} → List ℕ → Found A → Found A
ended_by word found =
    option_and_then (λ f. option_map (λ rest. (f.0, rest)) (behind word f.1)) found

-- a part that is all bytes at the front that pass a test
abbrev pub part_at : {A : Type 0} → (ℕ → Bool) → (List ℕ → Option A) → List ℕ → Found A
part_at test read bytes =
    option_map (λ x. (x, drop (prefix_len test bytes) bytes))
    (read (take (prefix_len test bytes) bytes))

-- one or more digits that write a number below 2^64
pub record IsNumber (bytes : List ℕ) : Type 0 where
  pub numeral : IsNumeral 10 bytes
  pub fits : digits_value 10 bytes < 2 ^ 64

-- the number below 2^64 whose decimal text the bytes are
unfoldable pub number_in : List ℕ → Option ℕ
number_in bytes =
    if nat_lt (digits_value 10 bytes) (2 ^ 64) && bytes_eq (decimal (digits_value 10 bytes)) bytes
    then Some (digits_value 10 bytes) else None

-- the number that all digits at the front are
unfoldable pub number_at : List ℕ → Found ℕ
number_at bytes = part_at is_ascii_digit number_in bytes

-- the same, where a word ends it
abbrev pub number_then : List ℕ → List ℕ → Found ℕ
number_then word bytes = ended_by word (number_at bytes)

-- a keyword of the language
unfoldable pub is_keyword : List ℕ → Bool
is_keyword word = option_map_or (λ k. true) (keyword_of word) false

-- a name of the language in lower case, of at most 63 bytes
unfoldable pub is_table_name : List ℕ → Bool
is_table_name name =
    list_any begins_name (take 1 name)
    && (list_all is_name_byte name
    && (nat_le (length name) MAX_NAME_BYTES && not (is_keyword name)))

-- the bytes, where they are such a name
abbrev pub table_name_in : List ℕ → Option (List ℕ)
table_name_in name = if is_table_name name then Some name else None

-- the name that all bytes of a name at the front are
unfoldable pub name_at : List ℕ → Found (List ℕ)
name_at bytes = part_at is_name_byte table_name_in bytes

-- the name of a declared table
unfoldable pub table_name_at : List ℕ → Found (List ℕ)
table_name_at bytes =
    option_and_then (λ b. ended_by (codes "\n") (name_at b)) (behind (codes "table ") bytes)

-- a declared table
unfoldable pub table_at : List ℕ → Found Reply
table_at bytes = option_map (λ f. (Table f.0, f.1)) (table_name_at bytes)

-- two numbers, the first behind one word and the second behind another, and a line feed
unfoldable pub numbers_at : List ℕ → List ℕ → List ℕ → Option (ℕ × ℕ × List ℕ)
numbers_at word second bytes =
    option_and_then (λ b.
    option_and_then (λ f. option_map (λ g. (f.0, g.0, g.1)) (number_then (codes "\n") f.1))
    (number_then second b)) (behind word bytes)

-- the numbers of a commit
unfoldable pub commit_at : List ℕ → Found Reply
commit_at bytes =
    option_map (λ f. (Commit f.0 f.1, f.2)) (numbers_at (codes "commit ") (codes " rows ") bytes)

-- the number of an overflow
unfoldable pub overflow_at : List ℕ → Found Reply
overflow_at bytes =
    option_and_then (λ b. option_map (λ f. (Overflow f.0, f.1)) (number_then (codes "\n") b))
    (behind (codes "overflow ") bytes)

-- the refusals without a place, each with its number, its words and the line feed
unfoldable pub reasons : List (List ℕ × Refusal)
reasons =
    (codes "2 unknown name\n", refusal.UnknownName)
    ∷ (codes "3 ambiguous name\n", refusal.AmbiguousName)
    ∷ (codes "4 duplicate name\n", refusal.DuplicateName)
    ∷ (codes "5 type mismatch\n", refusal.TypeMismatch)
    ∷ (codes "6 missing join\n", refusal.MissingJoin)
    ∷ (codes "7 mixed conjunct\n", refusal.MixedConjunct)
    ∷ (codes "8 not grouped\n", refusal.NotGrouped) ∷ (codes "9 bad record\n", refusal.BadRecord)
    ∷ (codes "10 duplicate key\n", refusal.DuplicateKey)
    ∷ (codes "11 dangling reference\n", refusal.DanglingReference)
    ∷ (codes "12 limit\n", refusal.Limit) ∷ (codes "13 out of order\n", refusal.OutOfOrder)
    ∷ (codes "14 not UTF-8\n", refusal.NotUtf8) ∷ []

-- the first line of a table that stands at the front, with its refusal
abbrev pub entry_in : List (List ℕ × Refusal) → List ℕ → Option (List ℕ × Refusal)
entry_in table bytes = find (λ entry. starts_with nat_eq bytes entry.0) table

-- the refusal of that line, and the bytes behind it
abbrev pub reason_in : List (List ℕ × Refusal) → List ℕ → Found Refusal
reason_in table bytes =
    option_and_then (λ entry. option_map (λ rest. (entry.1, rest)) (behind entry.0 bytes))
    (entry_in table bytes)

-- the same of all refusals without a place
unfoldable pub reason_at : List ℕ → Found Refusal
reason_at bytes = reason_in reasons bytes

-- the refusal of a syntax fault, whose place is a number below 2^32
unfoldable pub syntax_at : List ℕ → Found Refusal
syntax_at bytes =
    option_and_then (λ b.
    option_and_then (λ f. if nat_lt f.0 (2 ^ 32) then Some (refusal.Syntax f.0, f.1) else None)
    (number_then (codes "\n") b)) (behind (codes "1 syntax at ") bytes)

-- a refusal
unfoldable pub refused_at : List ℕ → Found Reply
refused_at bytes =
    option_and_then (λ b.
    option_map (λ f. (Refused f.0, f.1)) (option_or (syntax_at b) (reason_at b)))
    (behind (codes "refused ") bytes)

-- a reply that is one word
abbrev pub word_at : List ℕ → Reply → List ℕ → Found Reply
word_at word reply bytes = option_map (λ rest. (reply, rest)) (behind word bytes)

-- a digit or a minus
abbrev pub is_integer_byte : ℕ → Bool
is_integer_byte byte = is_ascii_digit byte || byte == 45

-- the integer of 64 bits whose decimal text the bytes are
unfoldable pub plain_integer_in : List ℕ → Option ℤ
plain_integer_in bytes =
    option_and_then (λ n. if bytes_eq (signed_decimal n) bytes then Some n else None)
    (integer_in bytes)

-- the cell of such an integer
abbrev pub integer_cell_in : List ℕ → Option Cell
integer_cell_in bytes = option_map (λ n. Full (Int n)) (plain_integer_in bytes)

-- the integer that all digits and minuses at the front are
unfoldable pub integer_at : List ℕ → Found Cell
integer_at bytes = part_at is_integer_byte integer_cell_in bytes

-- a cell of no value
unfoldable pub null_at : List ℕ → Found Cell
null_at bytes = option_map (λ rest. (Null, rest)) (behind (codes "null") bytes)

-- the content of a text from behind its first quote, or from behind a quote that ends it
-- where no other one follows
abbrev pub content_at : Bool → List ℕ → Found (List ℕ)
content_at quoted [] = None
content_at false (byte ∷ bytes) =
    if byte == 39 then content_at true bytes
    else option_map (λ f. (byte ∷ f.0, f.1)) (content_at false bytes)
content_at true (byte ∷ bytes) =
    if byte == 39 then option_map (λ f. (byte ∷ f.0, f.1)) (content_at false bytes)
    else Some ([], byte ∷ bytes)

-- a text between quotes
unfoldable pub text_at : List ℕ → Found Cell
text_at bytes =
    option_and_then (λ b.
    option_and_then (λ f. if is_small_text f.0 then Some (Full (Str f.0), f.1) else None)
    (content_at false b))
    (behind (codes "'") bytes)

-- a cell; no two of the three begin with the same byte
unfoldable pub cell_at : List ℕ → Found Cell
cell_at bytes = option_or (text_at bytes) (option_or (null_at bytes) (integer_at bytes))

-- whether a cell is the last of its row, by the line feed or the comma behind it
unfoldable pub end_at : List ℕ → Found Bool
end_at bytes =
    option_or (option_map (λ rest. (true, rest)) (behind (codes "\n") bytes))
    (option_map (λ rest. (false, rest)) (behind (codes ",") bytes))

-- a cell, whether it is the last of its row, and what stands behind its end
unfoldable pub ended_cell_at : List ℕ → Option (Cell × Bool × List ℕ)
ended_cell_at bytes =
    option_and_then (λ f. option_map (λ g. (f.0, g.0, g.1)) (end_at f.1)) (cell_at bytes)

-- what was read first, in front of what was read behind it
abbrev pub with_front : {A : Type 0} → List A → Found (List A) → Found (List A)
with_front front found = option_map (λ f. (front ++ f.0, f.1)) found

-- the cells of a row, which are no more than the first list has members
abbrev pub cells_in : List ℕ → List ℕ → Found (List Cell)
cells_in [] bytes = None
cells_in (byte ∷ most) bytes =
    option_and_then (λ f.
    if f.1 then Some (f.0 ∷ [], f.2) else with_front (f.0 ∷ []) (cells_in most f.2))
    (ended_cell_at bytes)

-- a row, which has no more cells than there are bytes
unfoldable pub row_at : List ℕ → Found (List Cell)
row_at bytes = cells_in bytes bytes

-- so many rows
abbrev pub rows_in : ℕ → List ℕ → Found (List (List Cell))
rows_in zero bytes = Some ([], bytes)
rows_in (suc count) bytes =
    option_and_then (λ f. with_front (f.0 ∷ []) (rows_in count f.1)) (row_at bytes)

-- all rows have as many cells as the first
unfoldable pub are_even : List (List Cell) → Bool
are_even [] = true
are_even (row ∷ rows) = list_all (λ other. length other == length row) rows

-- so many rows, all with as many cells
unfoldable pub even_rows_at : ℕ → List ℕ → Found (List (List Cell))
even_rows_at count bytes =
    option_and_then (λ f. if are_even f.0 then Some f else None) (rows_in count bytes)

-- an answer with its rows
unfoldable pub answer_at : List ℕ → Found Reply
answer_at bytes =
    option_and_then (λ f. option_map (λ g. (Answer f.0 g.0, g.1)) (even_rows_at f.1 f.2))
    (numbers_at (codes "answer ") (codes " rows ") bytes)

-- a reply that is one line, other than that of a declared table
unfoldable pub line_at : List ℕ → Found Reply
line_at bytes =
    option_or (commit_at bytes) (option_or (overflow_at bytes) (option_or (refused_at bytes)
    (option_or (word_at (codes "memory\n") Memory bytes)
    (word_at (codes "waited\n") Waited bytes))))

-- a reply; no two of its forms begin with the same byte
unfoldable pub reply_at : List ℕ → Found Reply
reply_at bytes = option_or (table_at bytes) (option_or (answer_at bytes) (line_at bytes))
