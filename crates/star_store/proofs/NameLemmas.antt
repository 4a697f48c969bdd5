-- The names and the places that a line tells: a name of a table is one of the language and short, and a place is inside.
use Rattle.std.proofs.Common.{◌≡◌, ℕ, zero, suc, ◌+◌, ◌-◌, ◌<◌, Bool, true, false, ◌||◌, ◌&&◌, List, [], ◌∷◌, length, take, drop, Option, Some, None, All, refl, sym, ap, subst, ◌∙◌, arith}
use Rattle.std.specs.Prelude.{IfSome, codes, nat_eq, map, slice_index_or, option_map, if◌then◌else◌}
use Rattle.std.specs.Char.{to_ascii_lowercase}
use Rattle.std.specs.List.{list_all, list_any, prefix_len, starts_with}
use Rattle.std.specs.Option.{option_map_or, option_or}
use Rattle.std.proofs.lemmas.Bool.Decides.{nat_tests}
use Rattle.std.proofs.lemmas.List.Elements.{All-cons, All-map, All-nil}
use Rattle.star_values.specs.Integer.{integer_in}
use Rattle.star_lexer.specs.Line.{Lexed, is_blank, lexed, lexed_in, put_first, token_of}
use Rattle.star_lexer.specs.Token.{begins_word, integer_at, is_word_byte, number_len, sign_at, sign_of, text_at, text_len, token_at, word_at}
use Rattle.star_lexer.specs.declared.token.Lexeme.{Lexeme}
use Rattle.star_lexer.specs.declared.token.Lexeme.TheVariants.{Word, Integer, Text}
use Rattle.star_lexer.specs.declared.token.Token.{Token}
use Rattle.star_lexer.specs.Keyword.{keyword_of}
use Rattle.star_lexer.specs.Symbol.{symbol_from, symbol_of, symbols_of, token_bytes, word_symbol}
use Rattle.star_lexer.specs.Written.{IsName, begins_name, is_name_byte}
use Rattle.star_lexer.specs.declared.keyword.Keyword.{Keyword}
use Rattle.star_lexer.specs.declared.symbol.Symbol.{Symbol}
use Rattle.star_lexer.specs.declared.symbol.Symbol.TheVariants as symbol
use Rattle.star_store.proofs.ValueLemmas.{either, map_or}

-- ---- bytes

word-begins : (byte : ℕ) → begins_word byte ≡ true → begins_name (to_ascii_lowercase byte) ≡ true
word-begins byte h = grind (arith, nat_tests)

word-goes_on : (byte : ℕ) → is_word_byte byte ≡ true → is_name_byte (to_ascii_lowercase byte) ≡ true
word-goes_on byte h = grind (arith, nat_tests)

begins-goes_on : (byte : ℕ) → begins_word byte ≡ true → is_word_byte byte ≡ true
begins-goes_on byte h = grind (arith, nat_tests)

-- ---- words

-- the bytes are a word
pub record IsWordText (text : List ℕ) : Type 0 where
  pub begins : list_any begins_word (take 1 text) ≡ true
  pub goes_on : list_all is_word_byte text ≡ true

one-more : (n : ℕ) → 1 + n ≡ suc n
one-more n = omega arith

prefix-all : (p : ℕ → Bool) (xs : List ℕ) → list_all p (take (prefix_len p xs) xs) ≡ true
prefix-all p [] = refl
prefix-all p (x ∷ xs) = by (p x) refl (prefix-all p xs)
  where
    by : (t : Bool) → p x ≡ t → list_all p (take (prefix_len p xs) xs) ≡ true → list_all p (take (prefix_len p (x ∷ xs)) (x ∷ xs)) ≡ true
    by true e h = rw (e, one-more (prefix_len p xs), e) h
    by false e h = rw e refl

or-false : (b : Bool) → (b || false) ≡ true → b ≡ true
or-false true h = refl
or-false false h = h

-- a word stands at the front, with so many bytes
abbrev IsWordAt : List ℕ → Lexeme × ℕ → Type 0
IsWordAt bytes found = found.0 ≡ Word → (0 < found.1) × IsWordText (take found.1 bytes)

word_at-is : (bytes : List ℕ) → IfSome (word_at bytes) (IsWordAt bytes)
word_at-is [] = tt
word_at-is (byte ∷ bytes) = by (list_any begins_word (byte ∷ [])) refl
  where
    by : (t : Bool) → list_any begins_word (byte ∷ []) ≡ t → IfSome (if t then Some (Word, prefix_len is_word_byte (byte ∷ bytes)) else None) (IsWordAt (byte ∷ bytes))
    by false e = tt
    by true e =
        let first = or-false (begins_word byte) e in
        let here = begins-goes_on byte first in
        let all = prefix-all is_word_byte (byte ∷ bytes) in
        λ _. (rw here (omega arith), record { begins = rw (here, one-more (prefix_len is_word_byte bytes)) e; goes_on = all })

mapped : {A B : Type 0} (P : B → Type 0) (f : A → B) (o : Option A) → ((x : A) → P (f x)) → IfSome (option_map f o) P
mapped P f None h = tt
mapped P f (Some x) h = h x

one-of : {A : Type 0} (P : A → Type 0) (o other : Option A) → IfSome o P → IfSome other P → IfSome (option_or o other) P
one-of P None other h k = k
one-of P (Some x) other h k = h

sign_of-is : (bytes part : List ℕ) → IfSome (sign_of part) (IsWordAt bytes)
sign_of-is bytes part = mapped (IsWordAt bytes) _ _ (λ number e. absurd (cc (e, e)))

token_at-is : (bytes : List ℕ) → IfSome (token_at bytes) (IsWordAt bytes)
token_at-is bytes =
    one-of (IsWordAt bytes) (option_or (word_at bytes) (integer_at bytes)) (option_or (text_at bytes) (sign_at bytes))
    (one-of (IsWordAt bytes) (word_at bytes) (integer_at bytes) (word_at-is bytes)
    (either (λ o. IfSome o (IsWordAt bytes)) (list_any is_word_byte (take 1 (drop (number_len bytes) bytes))) None
    (option_map (λ value. (Integer value, number_len bytes)) (integer_in (take (number_len bytes) bytes))) tt
    (mapped (IsWordAt bytes) (λ value. (Integer value, number_len bytes)) (integer_in (take (number_len bytes) bytes)) (λ value e. absurd (cc (e, e))))))
    (one-of (IsWordAt bytes) (text_at bytes) (sign_at bytes)
    (either (λ o. IfSome o (IsWordAt bytes)) (starts_with nat_eq bytes (codes "'")) (option_map (λ len. (Text, 1 + len)) (text_len (drop 1 bytes))) None
    (mapped (IsWordAt bytes) (λ len. (Text, 1 + len)) (text_len (drop 1 bytes)) (λ len e. absurd (cc (e, e)))) tt)
    (one-of (IsWordAt bytes) (sign_of (take 2 bytes)) (sign_of (take 1 bytes)) (sign_of-is bytes (take 2 bytes)) (sign_of-is bytes (take 1 bytes))))

-- ---- tokens

-- a token begins inside the line, and one that is a word has the bytes of a word
pub record IsInside (line : List ℕ) (token : Token) : Type 0 where
  pub begins : token.first < length line
  pub word : token.what ≡ Word → IsWordText (token_bytes line token)

-- the same of all tokens, and the place where none can be read is inside
abbrev pub AreInside : List ℕ → Lexed → Type 0
AreInside line tokens = All (IsInside line) tokens.tokens × IfSome tokens.bad (λ place. place < length line)

drop-next : (place : ℕ) (line : List ℕ) (byte : ℕ) (bytes : List ℕ) → drop place line ≡ byte ∷ bytes → (drop (suc place) line ≡ bytes) × (place < length line)
drop-next zero [] byte bytes e = absurd (cc (e, e))
drop-next zero (x ∷ xs) byte bytes e = (ap (drop 1) e, omega arith)
drop-next (suc place) [] byte bytes e = absurd (cc (e, e))
drop-next (suc place) (x ∷ xs) byte bytes e = let rest = drop-next place xs byte bytes e in (rest.0, omega (arith, rest.1))

token-inside : (line : List ℕ) (place : ℕ) (bytes : List ℕ) (found : Lexeme × ℕ) → drop place line ≡ bytes → place < length line → IsWordAt bytes found
    → IsInside line (token_of place found)
token-inside line place bytes found here low h = record {
  begins = low;
  word = λ e.
      let at = h e in
      let count : place + found.1 - 1 + 1 - place ≡ found.1 = omega (arith, at.0) in
      subst IsWordText (ap (λ n. take n bytes) (sym count) ∙ ap (take (place + found.1 - 1 + 1 - place)) (sym here)) at.1;
}

lexed-inside : (line : List ℕ) (place inside : ℕ) (bytes : List ℕ) → drop place line ≡ bytes → AreInside line (lexed_in place inside bytes)
lexed-inside line place zero [] here = (All-nil (IsInside line), tt)
lexed-inside line place (suc inside) [] here = (All-nil (IsInside line), tt)
lexed-inside line place (suc inside) (byte ∷ bytes) here = lexed-inside line (suc place) inside bytes (drop-next place line byte bytes here).0
lexed-inside line place zero (byte ∷ bytes) here =
    let next = drop-next place line byte bytes here in
    either (AreInside line) (is_blank byte) (lexed_in (suc place) 0 bytes) _ (lexed-inside line (suc place) 0 bytes next.0)
    (map_or (IsWordAt (byte ∷ bytes)) (AreInside line) (λ found. put_first (token_of place found) (lexed_in (suc place) (found.1 - 1) bytes)) (token_at (byte ∷ bytes))
    (record { tokens = []; bad = Some place }) (token_at-is (byte ∷ bytes))
    (λ found h.
    let rest = lexed-inside line (suc place) (found.1 - 1) bytes next.0 in
    (All-cons (IsInside line) (token_of place found) (lexed_in (suc place) (found.1 - 1) bytes).tokens (token-inside line place (byte ∷ bytes) found here next.1 h) rest.0, rest.1))
    (All-nil (IsInside line), next.1))

pub line-inside : (line : List ℕ) → AreInside line (lexed line)
line-inside line = lexed-inside line 0 0 line refl

-- ---- names

-- a symbol that is a name is one of the language
abbrev pub IsNamed : Symbol → Type 0
IsNamed its = (name : List ℕ) → its ≡ symbol.Name name → IsName name

lower-begins : (word : List ℕ) → list_any begins_word (take 1 word) ≡ true → list_any begins_name (take 1 (map to_ascii_lowercase word)) ≡ true
lower-begins [] h = h
lower-begins (byte ∷ bytes) h = rw (word-begins byte (or-false (begins_word byte) h)) refl

and-parts : (a b : Bool) → (a && b) ≡ true → (a ≡ true) × (b ≡ true)
and-parts true b h = (refl, h)
and-parts false b h = absurd (cc (h, h))

lower-goes_on : (word : List ℕ) → list_all is_word_byte word ≡ true → list_all is_name_byte (map to_ascii_lowercase word) ≡ true
lower-goes_on [] h = refl
lower-goes_on (byte ∷ bytes) h =
    let parts = and-parts (is_word_byte byte) (list_all is_word_byte bytes) h in
    rw (word-goes_on byte parts.0) (lower-goes_on bytes parts.1)

-- the name in a symbol
abbrev name_in : Symbol → List ℕ
name_in (symbol.Name name) = name
name_in other = []

word-named : (word : List ℕ) → IsWordText word → IsNamed (word_symbol word)
word-named word h = by (keyword_of (map to_ascii_lowercase word)) refl
  where
    by : (o : Option Keyword) → keyword_of (map to_ascii_lowercase word) ≡ o → IsNamed (option_map_or symbol.Keyword o (symbol.Name (map to_ascii_lowercase word)))
    by (Some k) e = λ name is. absurd (cc (is, is))
    by None e = λ name is.
        subst IsName (ap name_in is) (record { begins = lower-begins word h.begins; goes_on = lower-goes_on word h.goes_on; free = e })

from-named : (bytes : List ℕ) (what : Lexeme) → (what ≡ Word → IsWordText bytes) → IsNamed (symbol_from bytes what)
from-named bytes Word h = word-named bytes (h refl)
from-named bytes other h = λ name is. absurd (cc (is, is))

pub symbols-named : (line : List ℕ) → All IsNamed (symbols_of line)
symbols-named line =
    All-map IsNamed (symbol_of line) (lexed line).tokens (λ k d low.
    from-named (token_bytes line (slice_index_or (lexed line).tokens k d)) (slice_index_or (lexed line).tokens k d).what ((line-inside line).0 k d low).word)
