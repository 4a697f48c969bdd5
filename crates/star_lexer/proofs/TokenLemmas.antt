-- What the token at the front of bytes says of them.
use Rattle.std.proofs.Common.{◌≡◌, ℕ, ℤ, suc, ◌+◌, ◌-◌, ◌<◌, ◌≤◌, ◌==◌, ◌&&◌, ◌||◌, Bool, true, false, cond, List, [], ◌∷◌, ◌++◌, length, take, drop, get_or, map, Option, Some, None, option_map, refl, ap, sym, subst, ◌∙◌, arith, length-drop, IfSome}
use Rattle.std.specs.List.{All, list_all, list_any, prefix_len}
use Rattle.std.specs.Option.{option_or}
use Rattle.std.specs.Str.{IsUtf8}
use Rattle.std.proofs.lemmas.Bool.Decides.{Decides-eqb, nat_tests}
use Rattle.std.proofs.lemmas.List.{drop-drop, get_or-drop, map_more}
use Rattle.std.proofs.lemmas.List.Elements.{All-nil, All-cons, All-push}
use Rattle.std.proofs.lemmas.Str.{IsUtf8-drop, IsCharBoundary-after_ascii}
use Rattle.star_values.specs.Integer.{integer_in}
use Rattle.star_lexer.specs.declared.token.Lexeme.{Lexeme}
use Rattle.star_lexer.specs.declared.token.Lexeme.TheVariants as lexeme
use Rattle.star_lexer.specs.declared.token.Token.{Token}
use Rattle.star_lexer.specs.Token.{begins_word, is_word_byte, word_at, number_len, integer_at, text_len, text_at, sign_of, sign_at, token_at}
use Rattle.star_lexer.specs.Spaced.{AreSpaced, IsTokenAt}
use Rattle.star_lexer.specs.declared.symbol.Symbol.{Symbol}
use Rattle.star_lexer.specs.Limits.{IsTooLong}
use Rattle.star_lexer.specs.Symbol.{content, token_bytes, symbol_of}
use Rattle.star_lexer.specs.Written.{IsWritable}
use Rattle.star_lexer.specs.Read.{IsReadIn, IsWord, IsPlain}
use Rattle.star_lexer.proofs.ContentLemmas.{cut, IsUtf8-content}

-- the four kinds of token, each with what is said of its length
abbrev pub IsWordOr : (ℕ → Type 0) → Option (Lexeme × ℕ) → Type 0
IsWordOr P found = IfSome found (λ f. (f.0 ≡ lexeme.Word) × P f.1)

abbrev pub IsTextOr : (ℕ → Type 0) → Option (Lexeme × ℕ) → Type 0
IsTextOr P found = IfSome found (λ f. (f.0 ≡ lexeme.Text) × P f.1)

abbrev pub IsIntegerOr : Option (Lexeme × ℕ) → Type 0
IsIntegerOr found = IfSome found (λ f. (n : ℤ) × (f.0 ≡ lexeme.Integer n))

abbrev pub IsSignOr : Option (Lexeme × ℕ) → Type 0
IsSignOr found = IfSome found (λ f. (k : ℕ) × (f.0 ≡ lexeme.Sign k))

same_found : (f g : Lexeme × ℕ) → Some f ≡ Some g → f ≡ g
same_found f g e = cc

picked_word : (P Q : ℕ → Type 0) (w i t s : Option (Lexeme × ℕ)) (len : ℕ) → IsWordOr P w → IsIntegerOr i → IsTextOr Q t → IsSignOr s
    → option_or (option_or w i) (option_or t s) ≡ Some (lexeme.Word, len) → P len
picked_word P Q (Some f) i t s len w' i' t' s' e =
    let same = same_found f (lexeme.Word, len) e in subst (λ (g : Lexeme × ℕ). P g.1) same w'.1
picked_word P Q None (Some f) t s len w' i' t' s' e =
    let same = same_found f (lexeme.Word, len) e in
    let what : lexeme.Word ≡ lexeme.Integer i'.0 = ap (λ (g : Lexeme × ℕ). g.0) (sym same) ∙ i'.1 in absurd (cc)
picked_word P Q None None (Some f) s len w' i' t' s' e =
    let same = same_found f (lexeme.Word, len) e in
    let what : lexeme.Word ≡ lexeme.Text = ap (λ (g : Lexeme × ℕ). g.0) (sym same) ∙ t'.0 in absurd (cc)
picked_word P Q None None None (Some f) len w' i' t' s' e =
    let same = same_found f (lexeme.Word, len) e in
    let what : lexeme.Word ≡ lexeme.Sign s'.0 = ap (λ (g : Lexeme × ℕ). g.0) (sym same) ∙ s'.1 in absurd (cc)
picked_word P Q None None None None len w' i' t' s' e = absurd (cc)

picked_text : (P Q : ℕ → Type 0) (w i t s : Option (Lexeme × ℕ)) (len : ℕ) → IsWordOr P w → IsIntegerOr i → IsTextOr Q t → IsSignOr s
    → option_or (option_or w i) (option_or t s) ≡ Some (lexeme.Text, len) → Q len
picked_text P Q (Some f) i t s len w' i' t' s' e =
    let same = same_found f (lexeme.Text, len) e in
    let what : lexeme.Text ≡ lexeme.Word = ap (λ (g : Lexeme × ℕ). g.0) (sym same) ∙ w'.0 in absurd (cc)
picked_text P Q None (Some f) t s len w' i' t' s' e =
    let same = same_found f (lexeme.Text, len) e in
    let what : lexeme.Text ≡ lexeme.Integer i'.0 = ap (λ (g : Lexeme × ℕ). g.0) (sym same) ∙ i'.1 in absurd (cc)
picked_text P Q None None (Some f) s len w' i' t' s' e =
    let same = same_found f (lexeme.Text, len) e in subst (λ (g : Lexeme × ℕ). Q g.1) same t'.1
picked_text P Q None None None (Some f) len w' i' t' s' e =
    let same = same_found f (lexeme.Text, len) e in
    let what : lexeme.Text ≡ lexeme.Sign s'.0 = ap (λ (g : Lexeme × ℕ). g.0) (sym same) ∙ s'.1 in absurd (cc)
picked_text P Q None None None None len w' i' t' s' e = absurd (cc)

-- the front that passes a test passes it
front_passes_by : (p : ℕ → Bool) (byte : ℕ) (bytes : List ℕ) (b : Bool) → p byte ≡ b → list_all p (take (prefix_len p bytes) bytes) ≡ true
    → list_all p (take (cond b (1 + prefix_len p bytes) 0) (byte ∷ bytes)) ≡ true
front_passes_by p byte bytes true e h =
    let one : 1 + prefix_len p bytes ≡ suc (prefix_len p bytes) = omega arith in
    ap (λ k. list_all p (take k (byte ∷ bytes))) one ∙ ap (λ b. b && list_all p (take (prefix_len p bytes) bytes)) e ∙ h
front_passes_by p byte bytes false e h = refl

front_passes : (p : ℕ → Bool) (bytes : List ℕ) → list_all p (take (prefix_len p bytes) bytes) ≡ true
front_passes p [] = refl
front_passes p (byte ∷ bytes) = front_passes_by p byte bytes (p byte) refl (front_passes p bytes)

word_byte : (b : ℕ) → begins_word b ≡ true → is_word_byte b ≡ true
word_byte b h = grind (arith, nat_tests)

first_begins : (bytes : List ℕ) → list_any begins_word (take 1 bytes) ≡ true → list_any begins_word (take 1 (take (prefix_len is_word_byte bytes) bytes)) ≡ true
first_begins [] h = absurd (cc)
first_begins (byte ∷ bytes) h = first_by byte bytes (begins_word byte) refl h
  where
    first_by : (byte : ℕ) (bytes : List ℕ) (b : Bool) → begins_word byte ≡ b → (b || false) ≡ true
        → list_any begins_word (take 1 (take (prefix_len is_word_byte (byte ∷ bytes)) (byte ∷ bytes))) ≡ true
    first_by byte bytes true e h =
        let one : prefix_len is_word_byte (byte ∷ bytes) ≡ suc (prefix_len is_word_byte bytes) =
        rw (word_byte byte e) (omega arith) in
        rw one (ap (λ b. b || false) e)
    first_by byte bytes false e h = absurd (cc)

word_by : (bytes : List ℕ) (b : Bool) → list_any begins_word (take 1 bytes) ≡ b
    → IsWordOr (λ len. IsWord (take len bytes)) (cond {A = Option (Lexeme × ℕ)} b (Some (lexeme.Word, prefix_len is_word_byte bytes)) None)
word_by bytes true e = (refl, record { begins = first_begins bytes e; goes_on = front_passes is_word_byte bytes })
word_by bytes false e = tt

word_kind : (bytes : List ℕ) → IsWordOr (λ len. IsWord (take len bytes)) (word_at bytes)
word_kind bytes = word_by bytes (list_any begins_word (take 1 bytes)) refl

integer_by : (b : Bool) (len : ℕ) (o : Option ℤ)
    → IsIntegerOr (cond {A = Option (Lexeme × ℕ)} b None (option_map {T = ℤ} {U = Lexeme × ℕ} (λ value. (lexeme.Integer value, len)) o))
integer_by true len o = tt
integer_by false len None = tt
integer_by false len (Some n) = (n, refl)

integer_kind : (bytes : List ℕ) → IsIntegerOr (integer_at bytes)
integer_kind bytes =
    integer_by (list_any is_word_byte (take 1 (drop (number_len bytes) bytes))) (number_len bytes) (integer_in (take (number_len bytes) bytes))

sign_by : (len : ℕ) (o : Option ℕ) → IsSignOr (option_map {T = ℕ} {U = Lexeme × ℕ} (λ number. (lexeme.Sign number, len)) o)
sign_by len None = tt
sign_by len (Some n) = (n, refl)

either_sign : (a b : Option (Lexeme × ℕ)) → IsSignOr a → IsSignOr b → IsSignOr (option_or a b)
either_sign (Some f) b p q = p
either_sign None b p q = q

sign_kind : (bytes : List ℕ) → IsSignOr (sign_at bytes)
sign_kind bytes = either_sign (sign_of (take 2 bytes)) (sign_of (take 1 bytes)) (sign_by _ _) (sign_by _ _)

-- a quote stands at the front, and the text behind it has a length
abbrev pub IsQuoted : List ℕ → ℕ → Type 0
IsQuoted bytes len =
    (more : List ℕ) × (inner : ℕ) × (bytes ≡ 39 ∷ more) × (len ≡ suc inner) × (text_len more ≡ Some inner)

text_by : (byte : ℕ) (bytes : List ℕ) (b : Bool) (o : Option ℕ) → (39 == byte) ≡ b → text_len bytes ≡ o
    → IsTextOr (IsQuoted (byte ∷ bytes)) (cond {A = Option (Lexeme × ℕ)} (b && true) (option_map {T = ℕ} {U = Lexeme × ℕ} (λ len. (lexeme.Text, 1 + len)) o) None)
text_by byte bytes true None e f = tt
text_by byte bytes true (Some inner) e f =
    let same : 39 ≡ byte = (Decides-eqb 39 byte).0 e in
    (refl, (bytes, inner, ap (λ b. b ∷ bytes) (sym same), omega arith, f))
text_by byte bytes false o e f = tt

text_kind : (bytes : List ℕ) → IsTextOr (IsQuoted bytes) (text_at bytes)
text_kind [] = tt
text_kind (byte ∷ bytes) = text_by byte bytes (39 == byte) (text_len bytes) refl refl

pub word_read : (bytes : List ℕ) (len : ℕ) → token_at bytes ≡ Some (lexeme.Word, len) → IsWord (take len bytes)
word_read bytes len h =
    picked_word (λ k. IsWord (take k bytes)) (IsQuoted bytes) (word_at bytes) (integer_at bytes) (text_at bytes) (sign_at bytes) len
    (word_kind bytes) (integer_kind bytes) (text_kind bytes) (sign_kind bytes) h

text_read : (bytes : List ℕ) (len : ℕ) → token_at bytes ≡ Some (lexeme.Text, len) → IsQuoted bytes len
text_read bytes len h =
    picked_text (λ k. IsWord (take k bytes)) (IsQuoted bytes) (word_at bytes) (integer_at bytes) (text_at bytes) (sign_at bytes) len
    (word_kind bytes) (integer_kind bytes) (text_kind bytes) (sign_kind bytes) h

read_as : (line : List ℕ) (token : Token) (what : Lexeme) → IsReadIn line token → token.what ≡ what
    → token_at (drop token.first line) ≡ Some (what, token.last + 1 - token.first)
read_as line token what h e = h.read ∙ ap (λ w. Some (w, token.last + 1 - token.first)) e

-- the bytes of a word are a word
pub IsWord-token : (line : List ℕ) (token : Token) (bytes : List ℕ) → IsReadIn line token → token.what ≡ lexeme.Word → bytes ≡ token_bytes line token → IsWord bytes
IsWord-token line token bytes h e f =
    subst IsWord (sym f) (word_read (drop token.first line) (token.last + 1 - token.first) (read_as line token lexeme.Word h e))

-- the content of a text may stand in a table, where it is not too long
pub IsPlain-token : (line : List ℕ) (token : Token) (bytes : List ℕ) → IsUtf8 line → IsReadIn line token → token.what ≡ lexeme.Text
    → bytes ≡ token_bytes line token → IsPlain (content (drop 1 bytes))
IsPlain-token line token bytes utf8 h e f =
    let found = text_read (drop token.first line) (token.last + 1 - token.first) (read_as line token lexeme.Text h e) in
    let more = found.0 in
    let inner = found.1 in
    let begins : drop token.first line ≡ 39 ∷ more = found.2 in
    let all = cut more inner found.4 in
    let bytes_are : bytes ≡ 39 ∷ take inner more = f ∙ ap (λ k. take k (drop token.first line)) found.3 ∙ ap (take (suc inner)) begins in
    let content_is : content (drop 1 bytes) ≡ content more = ap (λ bs. content (drop 1 bs)) bytes_are ∙ all.0 in
    let quote : get_or line token.first 0 ≡ 39 =
    let zero_more : token.first + 0 ≡ token.first = omega arith in
    ap (λ k. get_or line k 0) (sym zero_more) ∙ sym (get_or-drop token.first line 0 0) ∙ ap (λ bs. get_or bs 0 0) begins in
    let within : token.first < length line = let ordered = h.ordered in let end = h.within in omega arith in
    let more_is : drop (token.first + 1) line ≡ more = sym (drop-drop 1 token.first line) ∙ ap (drop 1) begins in
    let more_utf8 : IsUtf8 more =
    subst IsUtf8 more_is (IsUtf8-drop line (token.first + 1) utf8 (IsCharBoundary-after_ascii line token.first utf8 within (omega arith))) in
    subst IsPlain (sym content_is) (record { printable = all.1; utf8 = IsUtf8-content more more_utf8 })

read_at : (line : List ℕ) (place : ℕ) (token : Token) → place ≤ length line → IsTokenAt place (drop place line) token → IsReadIn line token
read_at line place token few h =
    let behind = h.behind in
    let ordered = h.ordered in
    let within = h.within in
    let place_is : place + (token.first - place) ≡ token.first = omega arith in
    record {
      ordered = ordered;
      within = omega (arith, length-drop place line);
      read = ap (λ k. token_at (drop k line)) (sym place_is) ∙ ap token_at (sym (drop-drop (token.first - place) place line)) ∙ h.longest;
    }

-- tokens that are spaced in a line are read in it
pub spaced_read : (line : List ℕ) (place : ℕ) (tokens : List Token) (bad : Option ℕ) → place ≤ length line → AreSpaced place (drop place line) tokens bad
    → All (IsReadIn line) tokens
spaced_read line place [] bad few h = All-nil _
spaced_read line place (token ∷ tokens) bad few h =
    let here = read_at line place token few h.0 in
    let end = here.within in
    let behind = h.0.behind in
    let ordered = here.ordered in
    let place_is : place + (token.last + 1 - place) ≡ token.last + 1 = omega arith in
    let rest_is : drop (token.last + 1 - place) (drop place line) ≡ drop (token.last + 1) line =
    drop-drop (token.last + 1 - place) place line ∙ ap (λ k. drop k line) place_is in
    All-cons (IsReadIn line) token tokens here
    (spaced_read line (token.last + 1) tokens bad (omega arith)
    (subst (λ (rest : List ℕ). AreSpaced (token.last + 1) rest tokens bad) rest_is h.1))

-- what a loop over tokens keeps: its symbols are those of the tokens so far, can be written and are short enough
abbrev pub AreSoFar : List ℕ → List Token → ℕ → List Symbol → Type 0
AreSoFar line tokens count symbols =
    (symbols ≡ map (symbol_of line) (take count tokens)) × All IsWritable symbols × All (λ s. ¬ (IsTooLong s)) symbols

-- one token more
pub one_more : (line : List ℕ) (tokens : List Token) (count : ℕ) (d : Token) (symbols symbols' : List Symbol) (s : Symbol) → count < length tokens
    → AreSoFar line tokens count symbols → s ≡ symbol_of line (get_or tokens count d) → IsWritable s → ¬ (IsTooLong s) → symbols' ≡ symbols ++ s ∷ []
    → AreSoFar line tokens (count + 1) symbols'
one_more line tokens count d symbols symbols' s more h one writable short e = (
  e ∙ ap (λ front. front ++ s ∷ []) h.0 ∙ ap (λ last. map (symbol_of line) (take count tokens) ++ last ∷ []) one
      ∙ sym (map_more (symbol_of line) tokens count d more),
  rw e (All-push IsWritable symbols s h.1 writable),
  rw e (All-push (λ x. ¬ (IsTooLong x)) symbols s h.2 short),
)
