-- A line that is coming, kept short: bytes that mean the same in its place, whatever still comes. The
-- clauses of the private functions cite these.
use Rattle.std.specs.Prelude.{◌≡◌, ℕ, ◌+◌, ◌-◌, ◌<◌, Bool, false, nat_lt, List, [], ◌++◌, length, map, take, drop, codes, if◌then◌else◌}
use Rattle.std.specs.Str.Lossy.{utf8_valid_len}
use Rattle.script_reader.specs.declared.pending_bytes.TheConstants.{SHORTENED_BYTES}
use Rattle.script_reader.specs.declared.long_line.TheConstants.{CHAR_BYTES, WORD_BYTES}
use Rattle.script_reader.specs.Script.{has_block, is_ended, is_no_statement, statements_of, without_blanks}

-- what is kept of the first word: all that stands behind the blanks, or once those are five bytes
-- a word that begins the same, no statement, a `load` or any other statement
abbrev pub kept_word : List ℕ → List ℕ
kept_word text =
    let rest = without_blanks text in
    if nat_lt (length rest) WORD_BYTES then rest
    else (if is_no_statement text then codes "--"
    else (if has_block text then codes "load " else codes ";"))

-- the bytes from the place on where a text stops to be UTF-8, as many as a character has at most
abbrev pub unread : List ℕ → List ℕ
unread text = take CHAR_BYTES (drop (utf8_valid_len text) text)

-- what is kept behind that word
abbrev pub kept_rest : List ℕ → List ℕ
kept_rest text = if nat_lt (length (without_blanks text)) WORD_BYTES then [] else unread text

-- a short text in the place of a long one
unfoldable pub short_text : (limit : ℕ) → List ℕ → List ℕ
short_text limit text =
    (map (λ _. 32) (take (limit + 1) text) ++ kept_word text) ++ kept_rest text

-- a short line in the place of a long one: the last byte stays
abbrev pub short_line : (limit : ℕ) → List ℕ → List ℕ
short_line limit line =
    short_text limit (take (length line - 1) line) ++ drop (length line - 1) line

-- the bytes mean the same in the place of others, whatever comes behind
abbrev pub StandsFor : (new : List ℕ) → (old : List ℕ) → Type 0
StandsFor new old =
    (more : List ℕ) (last : Bool)
    → statements_of last (new ++ more) ≡ statements_of last (old ++ more)

-- a line that is coming has become a short one, or stays where it is not long
pub record IsShortened (old : List ℕ) (new : List ℕ) : Type 0 where
  pub stands : StandsFor new old
  pub none : is_ended new ≡ false
  pub short : length new < SHORTENED_BYTES
  pub empty : old ≡ [] → new ≡ []
