-- A word in lower case is ASCII, and a name where it is no keyword.
use Rattle.std.proofs.Common.{◌≡◌, ℕ, ◌<◌, ◌≤◌, ◌||◌, Bool, true, false, List, [], ◌∷◌, take, map, None, refl, arith}
use Rattle.std.specs.Char.{to_ascii_lowercase}
use Rattle.std.specs.List.{All, list_all, list_any}
use Rattle.std.specs.Str.{IsAscii}
use Rattle.std.proofs.lemmas.Bool.{and_parts}
use Rattle.std.proofs.lemmas.Bool.Decides.{nat_tests}
use Rattle.std.proofs.lemmas.List.Elements.{All-nil, All-cons}
use Rattle.std.proofs.lemmas.Str.{IsUtf8-from_ascii}
use Rattle.std.proofs.lemmas.Str.Ascii.{IsAscii-cons, IsAscii-nil}
use Rattle.star_lexer.specs.Token.{begins_word, is_word_byte}
use Rattle.star_lexer.specs.Keyword.{keyword_of}
use Rattle.star_lexer.specs.Read.{IsWord, IsPlain}
use Rattle.star_lexer.specs.Written.{begins_name, is_name_byte, IsName}

lower_plain : (b : ℕ) → is_word_byte b ≡ true → (32 ≤ to_ascii_lowercase b) × (to_ascii_lowercase b < 128)
lower_plain b h = grind (arith, nat_tests)

lower_goes_on : (b : ℕ) → is_word_byte b ≡ true → is_name_byte (to_ascii_lowercase b) ≡ true
lower_goes_on b h = grind (arith, nat_tests)

lower_begins : (b : ℕ) → begins_word b ≡ true → begins_name (to_ascii_lowercase b) ≡ true
lower_begins b h = grind (arith, nat_tests)

-- what a word in lower case is, byte by byte
record IsLowered (name : List ℕ) : Type 0 where
  pub printable : All (λ byte. 32 ≤ byte) name
  pub ascii : IsAscii name
  pub goes_on : list_all is_name_byte name ≡ true

lowered : (word : List ℕ) → list_all is_word_byte word ≡ true → IsLowered (map to_ascii_lowercase word)
lowered [] h = record { printable = All-nil _; ascii = IsAscii-nil; goes_on = refl }
lowered (b ∷ word) h =
    let here = and_parts (is_word_byte b) (list_all is_word_byte word) h in
    let rest = lowered word here.1 in
    let low = lower_plain b here.0 in
    record {
      printable = All-cons (λ byte. 32 ≤ byte) (to_ascii_lowercase b) (map to_ascii_lowercase word) low.0 rest.printable;
      ascii = IsAscii-cons (to_ascii_lowercase b) (map to_ascii_lowercase word) low.1 rest.ascii;
      goes_on = rw (lower_goes_on b here.0) rest.goes_on;
    }

-- a word in lower case may stand in a table, where it is not too long
pub IsPlain-lower : (word name : List ℕ) → IsWord word → name ≡ map to_ascii_lowercase word → IsPlain name
IsPlain-lower word name h e =
    let all = lowered word h.goes_on in
    rw e (record { printable = all.printable; utf8 = IsUtf8-from_ascii _ all.ascii })

lower_begins_word : (word : List ℕ) → list_any begins_word (take 1 word) ≡ true → list_any begins_name (take 1 (map to_ascii_lowercase word)) ≡ true
lower_begins_word [] h = absurd (cc)
lower_begins_word (b ∷ word) h = lower_by b (begins_word b) refl h
  where
    lower_by : (b : ℕ) (t : Bool) → begins_word b ≡ t → (t || false) ≡ true → (begins_name (to_ascii_lowercase b) || false) ≡ true
    lower_by b true e h = rw (lower_begins b e) refl
    lower_by b false e h = absurd (cc)

-- a word in lower case is a name, where it is no keyword
pub IsName-lower : (word name : List ℕ) → IsWord word → name ≡ map to_ascii_lowercase word → keyword_of name ≡ None → IsName name
IsName-lower word name h e free =
    record {
      begins = rw e (lower_begins_word word h.begins);
      goes_on = rw e (lowered word h.goes_on).goes_on;
      free = free;
    }
