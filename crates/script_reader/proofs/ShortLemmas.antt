-- A short text in the place of a long one: statements see no difference, whatever comes behind.
use Rattle.std.proofs.Common.{◌≡◌, ℕ, zero, suc, ◌+◌, ◌<◌, ◌≤◌, Bool, true, false, ◌&&◌, ◌||◌, nat_eq, nat_lt, ◌==◌, List, [], ◌∷◌, ◌++◌, length, map, take, get_or, refl, sym, ap, subst, ◌∙◌, ⊎_elim, arith, append_assoc}
use Rattle.std.specs.Prelude.{codes, if◌then◌else◌, take_while}
use Rattle.std.specs.Char.{to_ascii_lowercase}
use Rattle.std.specs.List.{prefix_len, starts_with}
use Rattle.std.specs.Str.{bytes_eq, is_utf8, str_eq_ignore_ascii_case}
use Rattle.std.proofs.lemmas.Bool.{cond-false, cond-true, eqb-true, lt-ltb, ltb-false, ne_eqb, or_cases}
use Rattle.std.proofs.lemmas.List.{length-append, length-map, length-take-le}
use Rattle.std.proofs.lemmas.List.Sums.{take_while-cons}
use Rattle.script_reader.specs.Script.{clipped_to, has_block, is_blank, is_no_statement, is_word_byte, stand_in, without_blanks}
use Rattle.script_reader.specs.Short.{kept_rest, kept_word, short_text, unread}
use Rattle.script_reader.proofs.Utf8Lemmas.{utf8_behind_byte, utf8_unread}

-- ---- the blanks at the front

past_blank : (x : ℕ) (xs : List ℕ) → is_blank x ≡ true → without_blanks (x ∷ xs) ≡ without_blanks xs
past_blank x xs e =
    let one : 1 + prefix_len is_blank xs ≡ suc (prefix_len is_blank xs) = omega arith in rw (e, one) refl

at_word : (x : ℕ) (xs : List ℕ) → is_blank x ≡ false → without_blanks (x ∷ xs) ≡ x ∷ xs
at_word x xs e = rw e refl

behind_step : (x : ℕ) (xs more : List ℕ) (blank : Bool) → is_blank x ≡ blank
    → without_blanks (xs ++ more) ≡ without_blanks (without_blanks xs ++ more)
    → without_blanks ((x ∷ xs) ++ more) ≡ without_blanks (without_blanks (x ∷ xs) ++ more)
behind_step x xs more true e rest =
    past_blank x (xs ++ more) e ∙ rest ∙ ap (λ front. without_blanks (front ++ more)) (sym (past_blank x xs e))
behind_step x xs more false e rest = ap (λ front. without_blanks (front ++ more)) (sym (at_word x xs e))

behind_blanks : (text more : List ℕ) → without_blanks (text ++ more) ≡ without_blanks (without_blanks text ++ more)
behind_blanks [] more = refl
behind_blanks (x ∷ xs) more = behind_step x xs more (is_blank x) refl (behind_blanks xs more)

blank_low : (x : ℕ) → is_blank x ≡ true → x < 128
blank_low x e = ⊎_elim
    (λ (space : (x == 32) ≡ true). let is : x ≡ 32 = eqb-true x 32 space in omega arith)
    (λ (tab : (x == 9) ≡ true). let is : x ≡ 9 = eqb-true x 9 tab in omega arith)
    (or_cases (x == 32) (x == 9) e)

utf8_step : (x : ℕ) (xs more : List ℕ) (blank : Bool) → is_blank x ≡ blank
    → is_utf8 (xs ++ more) ≡ is_utf8 (without_blanks xs ++ more)
    → is_utf8 ((x ∷ xs) ++ more) ≡ is_utf8 (without_blanks (x ∷ xs) ++ more)
utf8_step x xs more true e rest =
    utf8_behind_byte x (xs ++ more) (blank_low x e) ∙ rest ∙ ap (λ front. is_utf8 (front ++ more)) (sym (past_blank x xs e))
utf8_step x xs more false e rest = ap (λ front. is_utf8 (front ++ more)) (sym (at_word x xs e))

utf8_blanks : (text more : List ℕ) → is_utf8 (text ++ more) ≡ is_utf8 (without_blanks text ++ more)
utf8_blanks [] more = refl
utf8_blanks (x ∷ xs) more = utf8_step x xs more (is_blank x) refl (utf8_blanks xs more)

first_step : (y : ℕ) (ys : List ℕ) (blank : Bool) → is_blank y ≡ blank
    → ((x : ℕ) (xs : List ℕ) → without_blanks ys ≡ x ∷ xs → is_blank x ≡ false)
    → (x : ℕ) (xs : List ℕ) → without_blanks (y ∷ ys) ≡ x ∷ xs → is_blank x ≡ false
first_step y ys true e rest x xs is = rest x xs (sym (past_blank y ys e) ∙ is)
first_step y ys false e rest x xs is =
    let same : y ∷ ys ≡ x ∷ xs = sym (at_word y ys e) ∙ is in
    ap (λ (list : List ℕ). is_blank (get_or list 0 0)) (sym same) ∙ e

-- behind them stands no blank
first_byte : (text : List ℕ) (x : ℕ) (xs : List ℕ) → without_blanks text ≡ x ∷ xs → is_blank x ≡ false
first_byte [] x xs is = let wrong : length {A = ℕ} [] ≡ length (x ∷ xs) = ap length is in absurd (omega arith)
first_byte (y ∷ ys) x xs is = first_step y ys (is_blank y) refl (first_byte ys) x xs is

some_behind : (text rest more : List ℕ) → without_blanks text ≡ rest → 0 < length rest
    → without_blanks (text ++ more) ≡ rest ++ more
some_behind text [] more is some = absurd (omega arith)
some_behind text (x ∷ xs) more is some =
    behind_blanks text more ∙ ap (λ front. without_blanks (front ++ more)) is
    ∙ at_word x (xs ++ more) (first_byte text x xs is)

behind_pad : (xs more : List ℕ) → without_blanks (map {B = ℕ} (λ _. 32) xs ++ more) ≡ without_blanks more
behind_pad [] more = refl
behind_pad (x ∷ xs) more = past_blank 32 (map {B = ℕ} (λ _. 32) xs ++ more) refl ∙ behind_pad xs more

utf8_pad : (xs more : List ℕ) → is_utf8 (map {B = ℕ} (λ _. 32) xs ++ more) ≡ is_utf8 more
utf8_pad [] more = refl
utf8_pad (x ∷ xs) more = utf8_behind_byte 32 (map {B = ℕ} (λ _. 32) xs ++ more) (omega arith) ∙ utf8_pad xs more

-- ---- what the first bytes behind them tell

abbrev no_statement_by : List ℕ → Bool
no_statement_by rest = length rest == 0 || starts_with nat_eq rest (codes "--")

abbrev block_by : List ℕ → Bool
block_by rest = str_eq_ignore_ascii_case (take_while is_word_byte rest) (codes "load")

by_dashes : (x : ℕ) (xs : List ℕ) → no_statement_by (x ∷ xs) ≡ starts_with nat_eq (x ∷ xs) (codes "--")
by_dashes x xs =
    let some : (length (x ∷ xs) == 0) ≡ false = ne_eqb (length (x ∷ xs)) 0 (λ e. omega arith) in rw some refl

two_bytes : (rest more : List ℕ) → 1 < length rest → no_statement_by (rest ++ more) ≡ no_statement_by rest
two_bytes [] more long = absurd (omega arith)
two_bytes (x ∷ []) more long = absurd (omega arith)
two_bytes (x ∷ y ∷ rest) more long = by_dashes x (y ∷ rest ++ more) ∙ sym (by_dashes x (y ∷ rest))

abbrev word_is : List ℕ → List ℕ → Bool
word_is word name = bytes_eq (map to_ascii_lowercase word) name

word_ends : (inside : Bool) (x : ℕ) (xs ys : List ℕ)
    → word_is (if inside then x ∷ xs else []) [] ≡ word_is (if inside then x ∷ ys else []) []
word_ends true x xs ys = refl
word_ends false x xs ys = refl

word_more : (inside : Bool) (x y : ℕ) (xs ys name : List ℕ) → word_is xs name ≡ word_is ys name
    → word_is (if inside then x ∷ xs else []) (y ∷ name) ≡ word_is (if inside then x ∷ ys else []) (y ∷ name)
word_more true x y xs ys name same = ap (λ more. nat_eq (to_ascii_lowercase x) y && more) same
word_more false x y xs ys name same = refl

-- bytes more than a name has tell whether the first word is that name
word_same : (name rest more : List ℕ) → length name < length rest
    → word_is (take_while is_word_byte (rest ++ more)) name ≡ word_is (take_while is_word_byte rest) name
word_same [] [] more long = absurd (omega arith)
word_same [] (x ∷ xs) more long =
    ap (λ word. word_is word []) (take_while-cons is_word_byte x (xs ++ more))
    ∙ word_ends (is_word_byte x) x (take_while is_word_byte (xs ++ more)) (take_while is_word_byte xs)
    ∙ sym (ap (λ word. word_is word []) (take_while-cons is_word_byte x xs))
word_same (y ∷ name) [] more long = absurd (omega arith)
word_same (y ∷ name) (x ∷ xs) more long =
    ap (λ word. word_is word (y ∷ name)) (take_while-cons is_word_byte x (xs ++ more))
    ∙ word_more (is_word_byte x) x y (take_while is_word_byte (xs ++ more)) (take_while is_word_byte xs) name
    (word_same name xs more (omega arith))
    ∙ sym (ap (λ word. word_is word (y ∷ name)) (take_while-cons is_word_byte x xs))

five_bytes : (rest more : List ℕ) → 4 < length rest → block_by (rest ++ more) ≡ block_by rest
five_bytes rest more long = word_same (map to_ascii_lowercase (codes "load")) rest more long

-- ---- the word that is kept

abbrev pub word_of : (none block : Bool) → List ℕ
word_of none block = if none then codes "--" else (if block then codes "load " else codes ";")

word_none : (none block : Bool) (more : List ℕ) → is_no_statement (word_of none block ++ more) ≡ none
word_none true block more = by_dashes 45 (45 ∷ more)
word_none false true more = by_dashes 108 (111 ∷ 97 ∷ 100 ∷ 32 ∷ more)
word_none false false more = by_dashes 59 more

word_block : (block : Bool) (more : List ℕ) → has_block (word_of false block ++ more) ≡ block
word_block true more = refl
word_block false more = refl

word_utf8 : (none block : Bool) (more : List ℕ) → is_utf8 (word_of none block ++ more) ≡ is_utf8 more
word_utf8 true block more =
    utf8_behind_byte 45 (45 ∷ more) (omega arith) ∙ utf8_behind_byte 45 more (omega arith)
word_utf8 false true more =
    utf8_behind_byte 108 (111 ∷ 97 ∷ 100 ∷ 32 ∷ more) (omega arith)
    ∙ utf8_behind_byte 111 (97 ∷ 100 ∷ 32 ∷ more) (omega arith)
    ∙ utf8_behind_byte 97 (100 ∷ 32 ∷ more) (omega arith)
    ∙ utf8_behind_byte 100 (32 ∷ more) (omega arith)
    ∙ utf8_behind_byte 32 more (omega arith)
word_utf8 false false more = utf8_behind_byte 59 more (omega arith)

-- ---- both texts

-- statements see no difference between the texts of two lines
pub record SameText (limit : ℕ) (text other : List ℕ) : Type 0 where
  pub none : is_no_statement text ≡ is_no_statement other
  pub block : is_no_statement other ≡ false → has_block text ≡ has_block other
  pub line : clipped_to limit text ≡ clipped_to limit other

letters_same : (n : ℕ) (xs ys : List ℕ) → n ≤ length xs → n ≤ length ys
    → map {B = ℕ} (λ _. 120) (take n xs) ≡ map {B = ℕ} (λ _. 120) (take n ys)
letters_same zero xs ys long long' = refl
letters_same (suc n) [] ys long long' = absurd (omega arith)
letters_same (suc n) (x ∷ xs) [] long long' = absurd (omega arith)
letters_same (suc n) (x ∷ xs) (y ∷ ys) long long' =
    ap (λ letters. 120 ∷ letters) (letters_same n xs ys (omega arith) (omega arith))

clipped_same : (limit : ℕ) (text other : List ℕ) → limit < length text → limit < length other
    → is_utf8 text ≡ is_utf8 other → clipped_to limit text ≡ clipped_to limit other
unfolding clipped_to
clipped_same limit text other long long' same =
    let letters = letters_same (limit + 1) text other (omega (arith, long)) (omega (arith, long')) in
    let stands : stand_in limit text ≡ stand_in limit other = λ i. if same i then letters i else 255 ∷ [] in
    cond-true (nat_lt limit (length text)) (stand_in limit text) text (lt-ltb limit (length text) long)
    ∙ stands ∙ sym (cond-true (nat_lt limit (length other)) (stand_in limit other) other (lt-ltb limit (length other) long'))

-- the parts of the short text
abbrev pub pad : ℕ → List ℕ → List ℕ
pad limit text = map {B = ℕ} (λ _. 32) (take (limit + 1) text)

parts : (limit : ℕ) (text word rest more : List ℕ) → kept_word text ≡ word → kept_rest text ≡ rest
    → short_text limit text ++ more ≡ pad limit text ++ (word ++ (rest ++ more))
unfolding short_text
parts limit text word rest more is_word is_rest =
    append_assoc (pad limit text ++ kept_word text) (kept_rest text) more
    ∙ append_assoc (pad limit text) (kept_word text) (kept_rest text ++ more)
    ∙ (λ i. pad limit text ++ (is_word i ++ (is_rest i ++ more)))

pad_long : (limit : ℕ) (text more : List ℕ) → limit < length text → limit < length (pad limit text ++ more)
pad_long limit text more long =
    let one = length-take-le (limit + 1) text (omega (arith, long)) in
    let two = length-map {B = ℕ} (take (limit + 1) text) (λ _. 32) in
    omega (arith, one, two, length-append (pad limit text) more)

more_long : (limit : ℕ) (text more : List ℕ) → limit < length text → limit < length (text ++ more)
more_long limit text more long = omega (arith, long, length-append text more)

-- a short text in parts is as the long one, where its word and its rest are
by_parts : (limit : ℕ) (text word rest more : List ℕ) → limit < length text
    → kept_word text ≡ word → kept_rest text ≡ rest
    → is_no_statement (word ++ (rest ++ more)) ≡ is_no_statement (text ++ more)
    → (is_no_statement (text ++ more) ≡ false → has_block (word ++ (rest ++ more)) ≡ has_block (text ++ more))
    → is_utf8 (word ++ (rest ++ more)) ≡ is_utf8 (text ++ more)
    → SameText limit (short_text limit text ++ more) (text ++ more)
by_parts limit text word rest more long is_word is_rest none block utf8 =
    let all = parts limit text word rest more is_word is_rest in
    let back = sym all in
    let blanks = behind_pad (take (limit + 1) text) (word ++ (rest ++ more)) in
    subst (λ short. SameText limit short (text ++ more)) back (record {
      none = ap no_statement_by blanks ∙ none;
      block = λ begins. ap block_by blanks ∙ block begins;
      line = clipped_same limit (pad limit text ++ (word ++ (rest ++ more))) (text ++ more)
          (pad_long limit text (word ++ (rest ++ more)) long) (more_long limit text more long)
          (utf8_pad (take (limit + 1) text) (word ++ (rest ++ more)) ∙ utf8);
    })

few_behind : (limit : ℕ) (text more : List ℕ) → limit < length text → nat_lt (length (without_blanks text)) 5 ≡ true
    → SameText limit (short_text limit text ++ more) (text ++ more)
few_behind limit text more long few =
    by_parts limit text (without_blanks text) [] more long
    (cond-true (nat_lt (length (without_blanks text)) 5) (without_blanks text) (word_of (is_no_statement text) (has_block text)) few)
    (cond-true (nat_lt (length (without_blanks text)) 5) [] (unread text) few)
    (ap no_statement_by (sym (behind_blanks text more)))
    (λ begins. ap block_by (sym (behind_blanks text more)))
    (sym (utf8_blanks text more))

many_behind : (limit : ℕ) (text more : List ℕ) → limit < length text → nat_lt (length (without_blanks text)) 5 ≡ false
    → SameText limit (short_text limit text ++ more) (text ++ more)
many_behind limit text more long many =
    let rest = without_blanks text in
    let five : 5 ≤ length rest = ltb-false (length rest) 5 many in
    let some : 0 < length rest = omega (arith, five) in
    let two : 1 < length rest = omega (arith, five) in
    let behind = some_behind text rest more refl some in
    let none : is_no_statement (text ++ more) ≡ is_no_statement text = ap no_statement_by behind ∙ two_bytes rest more two in
    let block : has_block (text ++ more) ≡ has_block text = ap block_by behind ∙ five_bytes rest more (omega (arith, five)) in
    let tail = unread text ++ more in
    by_parts limit text (word_of (is_no_statement text) (has_block text)) (unread text) more long
    (cond-false (nat_lt (length rest) 5) rest (word_of (is_no_statement text) (has_block text)) many)
    (cond-false (nat_lt (length rest) 5) [] (unread text) many)
    (word_none (is_no_statement text) (has_block text) tail ∙ sym none)
    (λ begins.
    let here : is_no_statement text ≡ false = sym none ∙ begins in
    ap (λ skips. has_block (word_of skips (has_block text) ++ tail)) here ∙ word_block (has_block text) tail ∙ sym block)
    (word_utf8 (is_no_statement text) (has_block text) tail ∙ utf8_unread text more)

short_cases : (limit : ℕ) (text more : List ℕ) (few : Bool) → nat_lt (length (without_blanks text)) 5 ≡ few → limit < length text
    → SameText limit (short_text limit text ++ more) (text ++ more)
short_cases limit text more true is long = few_behind limit text more long is
short_cases limit text more false is long = many_behind limit text more long is

-- whatever comes behind, a short text is as the long one
pub short_same : (limit : ℕ) (text : List ℕ) → limit < length text → (more : List ℕ)
    → SameText limit (short_text limit text ++ more) (text ++ more)
short_same limit text long more = short_cases limit text more (nat_lt (length (without_blanks text)) 5) refl long
