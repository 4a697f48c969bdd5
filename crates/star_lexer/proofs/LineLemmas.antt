-- The tokens of a line go on behind its blanks and behind each token.
use Rattle.std.proofs.Common.{◌≡◌, ℕ, zero, suc, ◌+◌, ◌-◌, ◌<◌, ◌≤◌, Bool, true, false, cond, List, [], ◌∷◌, length, drop, Some, None, refl, ap, sym, ◌∙◌, arith}
use Rattle.std.specs.Option.{option_map_or}
use Rattle.std.proofs.lemmas.List.{drop-drop}
use Rattle.std.specs.List.{prefix_len}
use Rattle.star_lexer.specs.declared.token.Lexeme.{Lexeme}
use Rattle.star_lexer.specs.Token.{token_at}
use Rattle.star_lexer.specs.Line.{Lexed, is_blank, token_of, put_first, lexed_in}

-- the tokens of bytes that do not begin with a blank
abbrev pub unblanked : ℕ → List ℕ → Lexed
unblanked place [] = record { tokens = []; bad = None }
unblanked place (byte ∷ bytes) =
    option_map_or (λ found. put_first (token_of place found) (lexed_in (suc place) (found.1 - 1) bytes))
    (token_at (byte ∷ bytes)) (record { tokens = []; bad = Some place })

blanks_by : (place byte : ℕ) (bytes : List ℕ) (blank : Bool)
    → lexed_in (suc place) 0 bytes ≡ unblanked (suc place + prefix_len is_blank bytes) (drop (prefix_len is_blank bytes) bytes)
    → cond blank (lexed_in (suc place) 0 bytes) (unblanked place (byte ∷ bytes))
    ≡ unblanked (place + cond blank (1 + prefix_len is_blank bytes) 0) (drop (cond blank (1 + prefix_len is_blank bytes) 0) (byte ∷ bytes))
blanks_by place byte bytes true h =
    let e : place + (1 + prefix_len is_blank bytes) ≡ suc place + prefix_len is_blank bytes = omega arith in
    let one : 1 + prefix_len is_blank bytes ≡ suc (prefix_len is_blank bytes) = omega arith in
    h ∙ ap (λ first. unblanked first (drop (prefix_len is_blank bytes) bytes)) (sym e)
    ∙ ap (λ k. unblanked (place + (1 + prefix_len is_blank bytes)) (drop k (byte ∷ bytes))) (sym one)
blanks_by place byte bytes false h =
    let e : place + 0 ≡ place = omega arith in
    ap (λ first. unblanked first (byte ∷ bytes)) (sym e)

-- blanks are passed
pub behind_blanks : (place : ℕ) (bytes : List ℕ)
    → lexed_in place 0 bytes ≡ unblanked (place + prefix_len is_blank bytes) (drop (prefix_len is_blank bytes) bytes)
behind_blanks place [] = refl
behind_blanks place (byte ∷ bytes) = blanks_by place byte bytes (is_blank byte) (behind_blanks (suc place) bytes)

-- the rest of a token is passed
pub behind_token : (place inside : ℕ) (bytes : List ℕ) → inside ≤ length bytes
    → lexed_in place inside bytes ≡ lexed_in (place + inside) 0 (drop inside bytes)
behind_token place zero bytes h = let e : place + 0 ≡ place = omega arith in ap (λ first. lexed_in first 0 bytes) (sym e)
behind_token place (suc inside) [] h = absurd (omega arith)
behind_token place (suc inside) (byte ∷ bytes) h =
    let e : place + suc inside ≡ suc place + inside = omega arith in
    behind_token (suc place) inside bytes (omega arith) ∙ ap (λ first. lexed_in first 0 (drop inside bytes)) (sym e)

unblanked-some : (place byte : ℕ) (bytes : List ℕ) (what : Lexeme) (len : ℕ) → token_at (byte ∷ bytes) ≡ Some (what, len) → 0 < len → len ≤ suc (length bytes)
    → unblanked place (byte ∷ bytes) ≡ put_first (token_of place (what, len)) (lexed_in (place + len) 0 (drop len (byte ∷ bytes)))
unblanked-some place byte bytes what zero h some few = absurd (omega arith)
unblanked-some place byte bytes what (suc inside) h some few =
    let e : place + suc inside ≡ suc place + inside = omega arith in
    let less : suc inside - 1 ≡ inside = omega arith in
    ap (λ found. option_map_or (λ f. put_first (token_of place f) (lexed_in (suc place) (f.1 - 1) bytes)) found (record { tokens = []; bad = Some place })) h
    ∙ ap (put_first (token_of place (what, suc inside)))
    (ap (λ k. lexed_in (suc place) k bytes) less
    ∙ behind_token (suc place) inside bytes (omega arith) ∙ ap (λ first. lexed_in first 0 (drop inside bytes)) (sym e))

unblanked-none : (place byte : ℕ) (bytes : List ℕ) → token_at (byte ∷ bytes) ≡ None
    → unblanked place (byte ∷ bytes) ≡ record { tokens = []; bad = Some place }
unblanked-none place byte bytes h =
    ap (λ found. option_map_or (λ f. put_first (token_of place f) (lexed_in (suc place) (f.1 - 1) bytes)) found (record { tokens = []; bad = Some place })) h

at_rest : (place : ℕ) (bytes : List ℕ) (n : ℕ) (rest : List ℕ) → n ≡ prefix_len is_blank bytes → rest ≡ drop n bytes
    → lexed_in place 0 bytes ≡ unblanked (place + n) rest
at_rest place bytes n rest e f =
    behind_blanks place bytes ∙ ap (λ k. unblanked (place + k) (drop k bytes)) (sym e) ∙ ap (unblanked (place + n)) (sym f)

-- nothing stands behind the blanks
pub next_end : (place : ℕ) (bytes : List ℕ) (n : ℕ) (rest : List ℕ) → n ≡ prefix_len is_blank bytes → rest ≡ drop n bytes → length rest ≡ 0
    → lexed_in place 0 bytes ≡ record { tokens = []; bad = None }
next_end place bytes n [] e f none = at_rest place bytes n [] e f
next_end place bytes n (byte ∷ rest) e f none = absurd (omega arith)

-- what stands behind the blanks is no token
pub next_bad : (place : ℕ) (bytes : List ℕ) (n : ℕ) (rest : List ℕ) → n ≡ prefix_len is_blank bytes → rest ≡ drop n bytes → 0 < length rest → token_at rest ≡ None
    → lexed_in place 0 bytes ≡ record { tokens = []; bad = Some (place + n) }
next_bad place bytes n [] e f some h = absurd (omega arith)
next_bad place bytes n (byte ∷ rest) e f some h = at_rest place bytes n (byte ∷ rest) e f ∙ unblanked-none (place + n) byte rest h

-- a token stands behind the blanks
pub next_token : (place : ℕ) (bytes : List ℕ) (n : ℕ) (rest : List ℕ) (what : Lexeme) (len : ℕ) → n ≡ prefix_len is_blank bytes → rest ≡ drop n bytes
    → token_at rest ≡ Some (what, len) → 0 < len → len ≤ length rest
    → lexed_in place 0 bytes ≡ put_first (token_of (place + n) (what, len)) (lexed_in (place + n + len - 1 + 1) 0 (drop (place + n + len - 1 + 1 - place) bytes))
next_token place bytes n [] what len e f h some few = absurd (omega arith)
next_token place bytes n (byte ∷ rest) what len e f h some few =
    let behind : place + n + len - 1 + 1 ≡ place + n + len = omega arith in
    let passed : place + n + len - 1 + 1 - place ≡ n + len = omega arith in
    let more : drop len (byte ∷ rest) ≡ drop (n + len) bytes = ap (drop len) f ∙ drop-drop len n bytes in
    at_rest place bytes n (byte ∷ rest) e f ∙ unblanked-some (place + n) byte rest what len h some few
    ∙ ap (put_first (token_of (place + n) (what, len)))
    (ap (λ left. lexed_in (place + n + len) 0 left) more
    ∙ ap (λ k. lexed_in (place + n + len) 0 (drop k bytes)) (sym passed)
    ∙ ap (λ first. lexed_in first 0 (drop (place + n + len - 1 + 1 - place) bytes)) (sym behind))
