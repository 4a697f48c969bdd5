-- The tokens of a line stand behind one another, with blanks between.
use Rattle.std.proofs.Common.{◌≡◌, ℕ, suc, ◌+◌, ◌-◌, ◌<◌, ◌≤◌, Bool, true, false, cond, ◌&&◌, List, [], ◌∷◌, ◌++◌, length, take, drop, Option, Some, None, refl, ap, sym, subst, ◌∙◌, arith, append-nil, append_assoc, length-drop}
use Rattle.std.specs.List.{list_all, prefix_len}
use Rattle.star_lexer.specs.declared.token.Lexeme.{Lexeme}
use Rattle.star_lexer.specs.declared.token.Token.{Token}
use Rattle.star_lexer.specs.Token.{token_at}
use Rattle.star_lexer.specs.Line.{is_blank, token_of}
use Rattle.star_lexer.specs.Spaced.{AreSpaced, BeginsBlank, IsBadAt, IsTokenAt}

front_by : (byte : ℕ) (bytes : List ℕ) (blank : Bool) → is_blank byte ≡ blank → BeginsBlank (prefix_len is_blank bytes) bytes
    → BeginsBlank (cond blank (1 + prefix_len is_blank bytes) 0) (byte ∷ bytes)
front_by byte bytes true e h =
    let one : 1 + prefix_len is_blank bytes ≡ suc (prefix_len is_blank bytes) = omega arith in
    ap (λ k. list_all is_blank (take k (byte ∷ bytes))) one
    ∙ ap (λ b. b && list_all is_blank (take (prefix_len is_blank bytes) bytes)) e ∙ h
front_by byte bytes false e h = refl

front_blank : (bytes : List ℕ) → BeginsBlank (prefix_len is_blank bytes) bytes
front_blank [] = refl
front_blank (byte ∷ bytes) = front_by byte bytes (is_blank byte) refl (front_blank bytes)

blank_for : (n k : ℕ) (bytes : List ℕ) → n ≡ prefix_len is_blank bytes → k ≡ n → BeginsBlank k bytes
blank_for n k bytes e f = ap (λ m. list_all is_blank (take m bytes)) (f ∙ e) ∙ front_blank bytes

-- nothing stands behind the blanks
pub spaced_end : (bytes : List ℕ) (n : ℕ) (rest : List ℕ) → n ≡ prefix_len is_blank bytes → n ≤ length bytes → rest ≡ drop n bytes → length rest ≡ 0
    → BeginsBlank (length bytes) bytes
spaced_end bytes n rest e few f none =
    let left : length (drop n bytes) ≡ 0 = ap length (sym f) ∙ none in
    blank_for n (length bytes) bytes e (omega (arith, length-drop n bytes))

-- what stands behind the blanks is no token
pub spaced_bad : (place : ℕ) (bytes : List ℕ) (n : ℕ) (rest : List ℕ) → n ≡ prefix_len is_blank bytes → rest ≡ drop n bytes → 0 < length rest → token_at rest ≡ None
    → IsBadAt place bytes (place + n)
spaced_bad place bytes n rest e f some h =
    let back : place + n - place ≡ n = omega arith in
    let left : length rest ≡ length (drop n bytes) = ap length f in
    record {
      behind = omega arith;
      within = omega (arith, length-drop n bytes);
      blanks = blank_for n (place + n - place) bytes e back;
      unread = ap (λ k. token_at (drop k bytes)) back ∙ ap token_at (sym f) ∙ h;
    }

-- a token stands behind the blanks
pub spaced_token : (place : ℕ) (bytes : List ℕ) (n : ℕ) (rest : List ℕ) (what : Lexeme) (len : ℕ) → n ≡ prefix_len is_blank bytes → rest ≡ drop n bytes
    → token_at rest ≡ Some (what, len) → 0 < len → len ≤ length rest → IsTokenAt place bytes (token_of (place + n) (what, len))
spaced_token place bytes n rest what len e f h some few =
    let back : place + n - place ≡ n = omega arith in
    let left : length rest ≡ length (drop n bytes) = ap length f in
    let whole : place + n + len - 1 + 1 - (place + n) ≡ len = omega arith in
    record {
      behind = omega arith;
      ordered = omega arith;
      within = omega (arith, length-drop n bytes);
      blanks = blank_for n (place + n - place) bytes e back;
      longest = ap (λ k. token_at (drop k bytes)) back ∙ ap token_at (sym f) ∙ h ∙ ap (λ k. Some (what, k)) (sym whole);
    }

-- tokens so far, in front of any that are spaced in the rest, are spaced in the line
abbrev pub SpacesOn : List ℕ → List Token → ℕ → List ℕ → Type 0
SpacesOn line tokens place rest =
    (more : List Token) (bad : Option ℕ) → AreSpaced place rest more bad → AreSpaced 0 line (tokens ++ more) bad

-- one token more
pub spaces_one_more : (line : List ℕ) (tokens tokens' : List Token) (place : ℕ) (rest rest' : List ℕ) (token : Token)
    → SpacesOn line tokens place rest → IsTokenAt place rest token → tokens' ≡ tokens ++ token ∷ [] → rest' ≡ drop (token.last + 1 - place) rest
    → SpacesOn line tokens' (token.last + 1) rest'
spaces_one_more line tokens tokens' place rest rest' token way one e f more bad h =
    let all : tokens ++ token ∷ more ≡ tokens' ++ more = sym (append_assoc tokens (token ∷ []) more) ∙ ap (λ front. front ++ more) (sym e) in
    subst (λ (ts : List Token). AreSpaced 0 line ts bad) all
    (way (token ∷ more) bad (one, subst (λ (left : List ℕ). AreSpaced (token.last + 1) left more bad) f h))

-- the last token was read
pub spaces_all : (line : List ℕ) (tokens : List Token) (place : ℕ) (rest : List ℕ) (bad : Option ℕ)
    → SpacesOn line tokens place rest → AreSpaced place rest [] bad → AreSpaced 0 line tokens bad
spaces_all line tokens place rest bad way h =
    subst (λ (ts : List Token). AreSpaced 0 line ts bad) (append-nil tokens) (way [] bad h)
