-- The text of a symbol that can be written is one token, whatever stands behind it, and the token is the symbol.
use Rattle.std.proofs.Common.{◌≡◌, ℕ, ℤ, pos, negsuc, suc, ◌+◌, ◌<◌, ◌≤◌, ◌==◌, ◌||◌, nat_lt, Bool, true, false, List, [], ◌∷◌, ◌++◌, length, take, drop, map, flat_map, Option, Some, None, option_map, refl, ap, ◌∙◌, arith, length-append, append_assoc, FitsSigned, w64}
use Rattle.std.specs.Char.{to_ascii_lowercase, is_ascii_digit}
use Rattle.std.specs.Fmt.{decimal, signed_decimal}
use Rattle.std.specs.List.{list_all, list_any, prefix_len}
use Rattle.std.specs.Option.{option_or, option_map_or}
use Rattle.std.specs.Str.{IsUtf8, IsAscii}
use Rattle.std.specs.Str.Parse.{AllDigits}
use Rattle.std.proofs.lemmas.Bool.{and_parts}
use Rattle.std.proofs.lemmas.Bool.Decides.{nat_tests}
use Rattle.std.proofs.lemmas.Fmt.{decimal_is_IsNumeral, IsAscii-from_digits}
use Rattle.std.proofs.lemmas.List.{take_at, drop_at}
use Rattle.std.proofs.lemmas.Str.{IsUtf8-from_ascii}
use Rattle.std.proofs.lemmas.Str.Ascii.{IsAscii-cons, IsAscii-nil}
use Rattle.std.proofs.lemmas.Str.Parse.{digit_from_value}
use Rattle.star_values.specs.Integer.{integer_in}
use Rattle.star_values.specs.SmallText.{IsSmallText}
use Rattle.star_values.specs.Value.{quoted_byte, quoted}
use Rattle.star_values.specs.declared.value.Value.TheVariants as value
use Rattle.star_lexer.specs.declared.token.Lexeme.{Lexeme}
use Rattle.star_lexer.specs.declared.token.Lexeme.TheVariants as lexeme
use Rattle.star_lexer.specs.Line.{is_blank}
use Rattle.star_lexer.specs.Token.{begins_word, is_word_byte, word_at, minus_len, number_len, integer_at, text_len, text_at, sign_at, token_at}
use Rattle.star_lexer.specs.declared.keyword.Keyword.{Keyword}
use Rattle.star_lexer.specs.declared.keyword.Keyword.TheVariants as keyword
use Rattle.star_lexer.specs.declared.sign.Sign.{Sign}
use Rattle.star_lexer.specs.declared.sign.Sign.TheVariants as sign
use Rattle.star_lexer.specs.declared.symbol.Symbol.{Symbol}
use Rattle.star_lexer.specs.declared.symbol.Symbol.TheVariants as symbol
use Rattle.star_lexer.specs.Keyword.{keyword_text, keyword_of, keywords}
use Rattle.star_lexer.specs.Sign.{sign_text}
use Rattle.star_lexer.specs.Symbol.{symbol_from}
use Rattle.star_lexer.specs.Written.{symbol_text, begins_name, is_name_byte, IsName, IsWritable}
use Rattle.star_lexer.proofs.QuotedLemmas.{EndsSymbol, text_len-quoted, content-quoted, IsUtf8-quoted}

-- the number that a sign has as a token
abbrev pub number_of : Sign → ℕ
number_of sign.Open = 0
number_of sign.Close = 1
number_of sign.Comma = 2
number_of sign.Dot = 3
number_of sign.Semicolon = 4
number_of sign.Star = 5
number_of sign.Equal = 6
number_of sign.NotEqual = 7
number_of sign.Less = 9
number_of sign.LessOrEqual = 10
number_of sign.Greater = 11
number_of sign.GreaterOrEqual = 12

-- what the token of a symbol is
abbrev pub lexeme_of : Symbol → Lexeme
lexeme_of (symbol.Keyword k) = lexeme.Word
lexeme_of (symbol.Name name) = lexeme.Word
lexeme_of (symbol.Literal (value.Int n)) = lexeme.Integer n
lexeme_of (symbol.Literal (value.Str text)) = lexeme.Text
lexeme_of (symbol.Sign s) = lexeme.Sign (number_of s)

-- the text of a symbol, as a token in front of any rest
pub record IsSpelled (text : List ℕ) (what : Lexeme) (s : Symbol) : Type 0 where
  pub token : (rest : List ℕ) → EndsSymbol rest → token_at (text ++ rest) ≡ Some (what, length text)
  pub some : 0 < length text
  pub no_blank : list_any is_blank (take 1 text) ≡ false
  pub stands : symbol_from text what ≡ s
  pub utf8 : IsUtf8 text

-- a run of bytes that pass a test ends where none follows that does
prefix_by : (p : ℕ → Bool) (byte : ℕ) (rest : List ℕ) (b : Bool) → p byte ≡ b → (b || false) ≡ false → prefix_len p (byte ∷ rest) ≡ 0
prefix_by p byte rest true e h = absurd (cc)
prefix_by p byte rest false e h = rw e

prefix_all : (p : ℕ → Bool) (text rest : List ℕ) → list_all p text ≡ true → list_any p (take 1 rest) ≡ false → prefix_len p (text ++ rest) ≡ length text
prefix_all p [] [] h g = refl
prefix_all p [] (byte ∷ rest) h g = prefix_by p byte rest (p byte) refl (ap (λ b. b || false) refl ∙ g)
prefix_all p (byte ∷ text) rest h g =
    let here = and_parts (p byte) (list_all p text) h in
    let one : 1 + prefix_len p (text ++ rest) ≡ suc (length text) = omega (arith, prefix_all p text rest here.1 g) in
    rw here.0 one

ends_word : (rest : List ℕ) → EndsSymbol rest → list_any is_word_byte (take 1 rest) ≡ false
ends_word [] h = refl
ends_word (byte ∷ rest) h = rw h

ends_digits : (rest : List ℕ) → EndsSymbol rest → list_any is_ascii_digit (take 1 rest) ≡ false
ends_digits [] h = refl
ends_digits (byte ∷ rest) h = rw h

-- what is asked of a word that a line has for a keyword or a name
record IsLowerWord (text : List ℕ) : Type 0 where
  pub begins : list_any begins_name (take 1 text) ≡ true
  pub goes_on : list_all is_name_byte text ≡ true

name_begins : (b : ℕ) → begins_name b ≡ true → (begins_word b ≡ true) × (is_blank b ≡ false)
name_begins b h = (grind (arith, nat_tests), grind (arith, nat_tests))

name_byte : (b : ℕ) → is_name_byte b ≡ true → (is_word_byte b ≡ true) × (to_ascii_lowercase b ≡ b) × (b < 128)
name_byte b h = (grind (arith, nat_tests), grind (arith, nat_tests), grind (arith, nat_tests))

either : (x : Bool) → (x || false) ≡ true → x ≡ true
either true h = refl
either false h = absurd (cc)

-- the same of a word of the lexer
record IsPlainWord (text : List ℕ) : Type 0 where
  pub words : list_all is_word_byte text ≡ true
  pub lower : map to_ascii_lowercase text ≡ text
  pub ascii : IsAscii text

plain_word : (text : List ℕ) → list_all is_name_byte text ≡ true → IsPlainWord text
plain_word [] h = record { words = refl; lower = refl; ascii = IsAscii-nil }
plain_word (b ∷ text) h =
    let here = and_parts (is_name_byte b) (list_all is_name_byte text) h in
    let byte = name_byte b here.0 in
    let rest = plain_word text here.1 in
    record {
      words = rw byte.0 rest.words;
      lower = rw (byte.1, rest.lower);
      ascii = IsAscii-cons b text byte.2 rest.ascii;
    }

word_token : (b : ℕ) (text rest : List ℕ) → IsLowerWord (b ∷ text) → EndsSymbol rest → token_at (b ∷ text ++ rest) ≡ Some (lexeme.Word, length (b ∷ text))
word_token b text rest h ends =
    let plain = plain_word (b ∷ text) h.goes_on in
    let begins : begins_word b ≡ true = (name_begins b (either (begins_name b) h.begins)).0 in
    let len : prefix_len is_word_byte (b ∷ text ++ rest) ≡ length (b ∷ text) = prefix_all is_word_byte (b ∷ text) rest plain.words (ends_word rest ends) in
    let word : word_at (b ∷ text ++ rest) ≡ Some (lexeme.Word, length (b ∷ text)) = rw begins (ap (λ k. Some (lexeme.Word, k)) len) in
    ap (λ w. option_or (option_or w (integer_at (b ∷ text ++ rest))) (option_or (text_at (b ∷ text ++ rest)) (sign_at (b ∷ text ++ rest)))) word

word_spelled : (text : List ℕ) (s : Symbol) → IsLowerWord text → symbol_from text lexeme.Word ≡ s → IsSpelled text lexeme.Word s
word_spelled [] s h e = let wrong = h.begins in absurd (cc)
word_spelled (b ∷ text) s h e =
    let blank : is_blank b ≡ false = (name_begins b (either (begins_name b) h.begins)).1 in
    record {
      token = λ rest. word_token b text rest h;
      some = omega arith;
      no_blank = rw blank;
      stands = e;
      utf8 = IsUtf8-from_ascii (b ∷ text) (plain_word (b ∷ text) h.goes_on).ascii;
    }

-- each keyword is found by its text
record IsKeywordText (k : Keyword) : Type 0 where
  pub word : IsLowerWord (keyword_text k)
  pub found : keyword_of (keyword_text k) ≡ Some k

keyword_found : (k : Keyword) → IsKeywordText k
unfolding keyword_of keywords
keyword_found keyword.And = record { word = record { begins = refl; goes_on = refl }; found = refl }
keyword_found keyword.Between = record { word = record { begins = refl; goes_on = refl }; found = refl }
keyword_found keyword.By = record { word = record { begins = refl; goes_on = refl }; found = refl }
keyword_found keyword.Count = record { word = record { begins = refl; goes_on = refl }; found = refl }
keyword_found keyword.Delete = record { word = record { begins = refl; goes_on = refl }; found = refl }
keyword_found keyword.Dimension = record { word = record { begins = refl; goes_on = refl }; found = refl }
keyword_found keyword.Fact = record { word = record { begins = refl; goes_on = refl }; found = refl }
keyword_found keyword.From = record { word = record { begins = refl; goes_on = refl }; found = refl }
keyword_found keyword.Group = record { word = record { begins = refl; goes_on = refl }; found = refl }
keyword_found keyword.Header = record { word = record { begins = refl; goes_on = refl }; found = refl }
keyword_found keyword.In = record { word = record { begins = refl; goes_on = refl }; found = refl }
keyword_found keyword.Int = record { word = record { begins = refl; goes_on = refl }; found = refl }
keyword_found keyword.Is = record { word = record { begins = refl; goes_on = refl }; found = refl }
keyword_found keyword.Key = record { word = record { begins = refl; goes_on = refl }; found = refl }
keyword_found keyword.Load = record { word = record { begins = refl; goes_on = refl }; found = refl }
keyword_found keyword.Max = record { word = record { begins = refl; goes_on = refl }; found = refl }
keyword_found keyword.Min = record { word = record { begins = refl; goes_on = refl }; found = refl }
keyword_found keyword.Not = record { word = record { begins = refl; goes_on = refl }; found = refl }
keyword_found keyword.Null = record { word = record { begins = refl; goes_on = refl }; found = refl }
keyword_found keyword.Or = record { word = record { begins = refl; goes_on = refl }; found = refl }
keyword_found keyword.References = record { word = record { begins = refl; goes_on = refl }; found = refl }
keyword_found keyword.Select = record { word = record { begins = refl; goes_on = refl }; found = refl }
keyword_found keyword.Sum = record { word = record { begins = refl; goes_on = refl }; found = refl }
keyword_found keyword.Text = record { word = record { begins = refl; goes_on = refl }; found = refl }
keyword_found keyword.Wait = record { word = record { begins = refl; goes_on = refl }; found = refl }
keyword_found keyword.Where = record { word = record { begins = refl; goes_on = refl }; found = refl }

word_stands : (text : List ℕ) (o : Option Keyword) → map to_ascii_lowercase text ≡ text → keyword_of text ≡ o
    → symbol_from text lexeme.Word ≡ option_map_or symbol.Keyword o (symbol.Name text)
word_stands text o lower found = rw (lower, found)

keyword_spelled : (k : Keyword) → IsSpelled (keyword_text k) lexeme.Word (symbol.Keyword k)
keyword_spelled k =
    let known = keyword_found k in
    word_spelled (keyword_text k) (symbol.Keyword k) known.word
    (word_stands (keyword_text k) (Some k) (plain_word (keyword_text k) known.word.goes_on).lower known.found)

name_spelled : (name : List ℕ) → IsName name → IsSpelled name lexeme.Word (symbol.Name name)
name_spelled name h =
    word_spelled name (symbol.Name name) (record { begins = h.begins; goes_on = h.goes_on })
    (word_stands name None (plain_word name h.goes_on).lower h.free)

sign_at_end : (s : Sign) → token_at (sign_text s ++ []) ≡ Some (lexeme.Sign (number_of s), length (sign_text s))
sign_at_end sign.Open = refl
sign_at_end sign.Close = refl
sign_at_end sign.Comma = refl
sign_at_end sign.Dot = refl
sign_at_end sign.Semicolon = refl
sign_at_end sign.Star = refl
sign_at_end sign.Equal = refl
sign_at_end sign.NotEqual = refl
sign_at_end sign.Less = refl
sign_at_end sign.LessOrEqual = refl
sign_at_end sign.Greater = refl
sign_at_end sign.GreaterOrEqual = refl

sign_at_space : (s : Sign) (rest : List ℕ) → token_at (sign_text s ++ 32 ∷ rest) ≡ Some (lexeme.Sign (number_of s), length (sign_text s))
sign_at_space sign.Open rest = refl
sign_at_space sign.Close rest = refl
sign_at_space sign.Comma rest = refl
sign_at_space sign.Dot rest = refl
sign_at_space sign.Semicolon rest = refl
sign_at_space sign.Star rest = refl
sign_at_space sign.Equal rest = refl
sign_at_space sign.NotEqual rest = refl
sign_at_space sign.Less rest = refl
sign_at_space sign.LessOrEqual rest = refl
sign_at_space sign.Greater rest = refl
sign_at_space sign.GreaterOrEqual rest = refl

sign_token : (s : Sign) (rest : List ℕ) → EndsSymbol rest → token_at (sign_text s ++ rest) ≡ Some (lexeme.Sign (number_of s), length (sign_text s))
sign_token s [] h = sign_at_end s
sign_token s (byte ∷ rest) h = rw h (sign_at_space s rest)

-- what else is found by looking at each sign
record IsSignText (s : Sign) : Type 0 where
  pub some : 0 < length (sign_text s)
  pub no_blank : list_any is_blank (take 1 (sign_text s)) ≡ false
  pub stands : symbol_from (sign_text s) (lexeme.Sign (number_of s)) ≡ symbol.Sign s
  pub ascii : list_all (λ b. nat_lt b 128) (sign_text s) ≡ true

sign_found : (s : Sign) → IsSignText s
sign_found sign.Open = record { some = omega arith; no_blank = refl; stands = refl; ascii = refl }
sign_found sign.Close = record { some = omega arith; no_blank = refl; stands = refl; ascii = refl }
sign_found sign.Comma = record { some = omega arith; no_blank = refl; stands = refl; ascii = refl }
sign_found sign.Dot = record { some = omega arith; no_blank = refl; stands = refl; ascii = refl }
sign_found sign.Semicolon = record { some = omega arith; no_blank = refl; stands = refl; ascii = refl }
sign_found sign.Star = record { some = omega arith; no_blank = refl; stands = refl; ascii = refl }
sign_found sign.Equal = record { some = omega arith; no_blank = refl; stands = refl; ascii = refl }
sign_found sign.NotEqual = record { some = omega arith; no_blank = refl; stands = refl; ascii = refl }
sign_found sign.Less = record { some = omega arith; no_blank = refl; stands = refl; ascii = refl }
sign_found sign.LessOrEqual = record { some = omega arith; no_blank = refl; stands = refl; ascii = refl }
sign_found sign.Greater = record { some = omega arith; no_blank = refl; stands = refl; ascii = refl }
sign_found sign.GreaterOrEqual = record { some = omega arith; no_blank = refl; stands = refl; ascii = refl }

ascii_tested : (bytes : List ℕ) → list_all (λ b. nat_lt b 128) bytes ≡ true → IsAscii bytes
ascii_tested [] h = IsAscii-nil
ascii_tested (b ∷ bytes) h =
    let here = and_parts (nat_lt b 128) (list_all (λ x. nat_lt x 128) bytes) h in
    let low : nat_lt b 128 ≡ true = here.0 in
    IsAscii-cons b bytes (grind (arith, nat_tests)) (ascii_tested bytes here.1)

sign_spelled : (s : Sign) → IsSpelled (sign_text s) (lexeme.Sign (number_of s)) (symbol.Sign s)
sign_spelled s =
    let known = sign_found s in
    record {
      token = sign_token s;
      some = known.some;
      no_blank = known.no_blank;
      stands = known.stands;
      utf8 = IsUtf8-from_ascii (sign_text s) (ascii_tested (sign_text s) known.ascii);
    }

digits_test : (ds : List ℕ) → AllDigits 10 ds → list_all is_ascii_digit ds ≡ true
digits_test [] h = refl
digits_test (d ∷ ds) h =
    let digit = digit_from_value d h.0 in
    let here : is_ascii_digit d ≡ true = grind (arith, nat_tests) in
    rw here (digits_test ds h.1)

-- what begins no word and has this count of bytes of a number in front of the rest is an integer
integer_token : (text rest : List ℕ) (n : ℤ) → list_any begins_word (take 1 (text ++ rest)) ≡ false → number_len (text ++ rest) ≡ length text
    → integer_in text ≡ Some n → EndsSymbol rest → token_at (text ++ rest) ≡ Some (lexeme.Integer n, length text)
integer_token text rest n other len reads ends =
    let front : take (length text) (text ++ rest) ≡ text = take_at text rest (length text) refl in
    let back : drop (length text) (text ++ rest) ≡ rest = drop_at text rest (length text) refl in
    let word : word_at (text ++ rest) ≡ None = rw other in
    let number : integer_at (text ++ rest) ≡ Some (lexeme.Integer n, length text) = rw (len, back, ends_word rest ends, front, reads) in
    ap (λ w. option_or (option_or w (integer_at (text ++ rest))) (option_or (text_at (text ++ rest)) (sign_at (text ++ rest)))) word
    ∙ ap (λ i. option_or i (option_or (text_at (text ++ rest)) (sign_at (text ++ rest)))) number

digit_byte : (d : ℕ) → (48 ≤ d) × (d ≤ 57) → (begins_word d ≡ false) × (is_blank d ≡ false) × ((45 == d) ≡ false)
digit_byte d h = (grind (arith, nat_tests), grind (arith, nat_tests), grind (arith, nat_tests))

-- digits in front of the rest
plain_token : (ds rest : List ℕ) (n : ℤ) → 0 < length ds → AllDigits 10 ds → integer_in ds ≡ Some n → EndsSymbol rest
    → (token_at (ds ++ rest) ≡ Some (lexeme.Integer n, length ds)) × (list_any is_blank (take 1 ds) ≡ false)
plain_token [] rest n some h reads ends = absurd (omega arith)
plain_token (d ∷ ds) rest n some h reads ends =
    let digit = digit_byte d (digit_from_value d h.0) in
    let run : prefix_len is_ascii_digit (d ∷ ds ++ rest) ≡ length (d ∷ ds) =
    prefix_all is_ascii_digit (d ∷ ds) rest (digits_test (d ∷ ds) h) (ends_digits rest ends) in
    let none : minus_len (d ∷ ds ++ rest) ≡ 0 = rw digit.2 in
    let len : number_len (d ∷ ds ++ rest) ≡ length (d ∷ ds) =
    ap (λ k. k + prefix_len is_ascii_digit (drop k (d ∷ ds ++ rest))) none ∙ (let e : 0 + prefix_len is_ascii_digit (d ∷ ds ++ rest) ≡ length (d ∷ ds) = omega (arith, run) in e) in
    let other : list_any begins_word (take 1 (d ∷ ds ++ rest)) ≡ false = rw digit.0 in
    (integer_token (d ∷ ds) rest n other len reads ends, rw digit.1)

-- a minus and digits in front of the rest
minus_token : (ds rest : List ℕ) (n : ℤ) → AllDigits 10 ds → integer_in (45 ∷ ds) ≡ Some n → EndsSymbol rest
    → token_at (45 ∷ ds ++ rest) ≡ Some (lexeme.Integer n, length (45 ∷ ds))
minus_token ds rest n h reads ends =
    let run : prefix_len is_ascii_digit (ds ++ rest) ≡ length ds = prefix_all is_ascii_digit ds rest (digits_test ds h) (ends_digits rest ends) in
    let len : number_len (45 ∷ ds ++ rest) ≡ length (45 ∷ ds) =
    (let e : 1 + prefix_len is_ascii_digit (ds ++ rest) ≡ suc (length ds) = omega (arith, run) in e) in
    integer_token (45 ∷ ds) rest n refl len reads ends

-- the decimal text of each integer of 64 bits is read as that integer
abbrev pub IsReadBack : Type 0
IsReadBack = (n : ℤ) → FitsSigned w64 n → integer_in (signed_decimal n) ≡ Some n

integer_spelled : (n : ℤ) → FitsSigned w64 n → IsReadBack → IsSpelled (signed_decimal n) (lexeme.Integer n) (symbol.Literal (value.Int n))
integer_spelled (pos n) fits back =
    let small = fits.sfits in
    let numeral = (decimal_is_IsNumeral n (omega arith)).0 in
    record {
      token = λ rest ends. (plain_token (decimal n) rest (pos n) numeral.0 numeral.1 (back (pos n) fits) ends).0;
      some = numeral.0;
      no_blank = (plain_token (decimal n) [] (pos n) numeral.0 numeral.1 (back (pos n) fits) tt).1;
      stands = refl;
      utf8 = IsUtf8-from_ascii (decimal n) (IsAscii-from_digits (decimal n) numeral.1);
    }
integer_spelled (negsuc n) fits back =
    let small = fits.sfits in
    let numeral = (decimal_is_IsNumeral (suc n) (omega arith)).0 in
    record {
      token = λ rest ends. minus_token (decimal (suc n)) rest (negsuc n) numeral.1 (back (negsuc n) fits) ends;
      some = omega arith;
      no_blank = refl;
      stands = refl;
      utf8 = IsUtf8-from_ascii (45 ∷ decimal (suc n)) (IsAscii-cons 45 (decimal (suc n)) (omega arith) (IsAscii-from_digits (decimal (suc n)) numeral.1));
    }

-- what begins with a quote is a text, where its length is found
text_found : (bytes : List ℕ) (len : ℕ) → text_len bytes ≡ Some len → token_at (39 ∷ bytes) ≡ Some (lexeme.Text, 1 + len)
text_found bytes len h =
    ap (λ o. option_or (option_or (word_at (39 ∷ bytes)) (integer_at (39 ∷ bytes)))
    (option_or (option_map {T = ℕ} {U = Lexeme × ℕ} (λ k. (lexeme.Text, 1 + k)) o) (sign_at (39 ∷ bytes)))) h

text_token : (text rest : List ℕ) → IsSmallText text → EndsSymbol rest → token_at (quoted text ++ rest) ≡ Some (lexeme.Text, length (quoted text))
text_token text rest h ends =
    let joined : (flat_map quoted_byte text ++ 39 ∷ []) ++ rest ≡ flat_map quoted_byte text ++ 39 ∷ rest =
    append_assoc (flat_map quoted_byte text) (39 ∷ []) rest in
    let count : 1 + (length (flat_map quoted_byte text) + 1) ≡ length (quoted text) = omega (arith, length-append (flat_map quoted_byte text) (39 ∷ [])) in
    ap (λ bytes. token_at (39 ∷ bytes)) joined
    ∙ text_found (flat_map quoted_byte text ++ 39 ∷ rest) (length (flat_map quoted_byte text) + 1) (text_len-quoted text rest h.printable ends)
    ∙ ap (λ k. Some (lexeme.Text, k)) count

text_spelled : (text : List ℕ) → IsSmallText text → IsSpelled (quoted text) lexeme.Text (symbol.Literal (value.Str text))
text_spelled text h = record {
  token = λ rest. text_token text rest h;
  some = omega arith;
  no_blank = refl;
  stands = ap (λ bytes. symbol.Literal (value.Str bytes)) (content-quoted text);
  utf8 = IsUtf8-quoted text h.utf8;
}

-- the text of a symbol that can be written is its token
pub spelled : (s : Symbol) → IsReadBack → IsWritable s → IsSpelled (symbol_text s) (lexeme_of s) s
spelled (symbol.Keyword k) back h = keyword_spelled k
spelled (symbol.Name name) back h = name_spelled name h
spelled (symbol.Literal (value.Int n)) back h = integer_spelled n h back
spelled (symbol.Literal (value.Str text)) back h = text_spelled text h
spelled (symbol.Sign s) back h = sign_spelled s
