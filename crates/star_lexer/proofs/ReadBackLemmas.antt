-- A written line is read as the symbols that it was written from.
use Rattle.std.proofs.Common.{◌≡◌, ℕ, suc, ◌+◌, ◌-◌, ◌<◌, false, cond, List, [], ◌∷◌, ◌++◌, length, take, drop, map, Some, None, refl, ap, sym, subst, ◌∙◌, arith, length-append, append_assoc}
use Rattle.std.specs.List.{All, list_any}
use Rattle.std.specs.Option.{option_map_or}
use Rattle.std.specs.Str.{IsUtf8}
use Rattle.std.proofs.lemmas.Bool.{or_parts}
use Rattle.std.proofs.lemmas.List.{take_at, drop_at}
use Rattle.std.proofs.lemmas.List.Elements.{All-head, All-tail}
use Rattle.std.proofs.lemmas.Str.{IsUtf8-nil, IsUtf8-append, IsUtf8-from_ascii}
use Rattle.std.proofs.lemmas.Str.Ascii.{IsAscii-cons, IsAscii-nil}
use Rattle.star_lexer.specs.declared.token.Lexeme.{Lexeme}
use Rattle.star_lexer.specs.Line.{is_blank, token_of, put_first, lexed_in, lexed}
use Rattle.star_lexer.specs.Token.{token_at}
use Rattle.star_lexer.specs.declared.symbol.Symbol.{Symbol}
use Rattle.star_lexer.specs.Symbol.{symbol_from, symbol_of, symbols_of}
use Rattle.star_lexer.specs.Written.{symbol_text, spaced_text, line_of, IsWritable}
use Rattle.star_lexer.proofs.QuotedLemmas.{EndsSymbol}
use Rattle.star_lexer.proofs.SpellingLemmas.{IsReadBack, IsSpelled, lexeme_of, spelled}
use Rattle.star_lexer.proofs.WrittenLemmas.{line_of-cons}

-- the rest of a token is passed
passed : (place : ℕ) (text rest : List ℕ) → lexed_in place (length text) (text ++ rest) ≡ lexed_in (place + length text) 0 rest
passed place [] rest = let e : place ≡ place + 0 = omega arith in ap (λ first. lexed_in first 0 rest) e
passed place (b ∷ text) rest =
    let e : suc place + length text ≡ place + suc (length text) = omega arith in
    passed (suc place) text rest ∙ ap (λ first. lexed_in first 0 rest) e

-- a token in front of a rest is the first, and then come those of the rest
first_token : (place : ℕ) (text rest : List ℕ) (what : Lexeme) → 0 < length text → list_any is_blank (take 1 text) ≡ false
    → token_at (text ++ rest) ≡ Some (what, length text)
    → lexed_in place 0 (text ++ rest) ≡ put_first (token_of place (what, length text)) (lexed_in (place + length text) 0 rest)
first_token place [] rest what some blank h = absurd (omega arith)
first_token place (b ∷ text) rest what some blank h =
    let no_blank : is_blank b ≡ false = (or_parts (is_blank b) false blank).0 in
    let less : suc (length text) - 1 ≡ length text = omega arith in
    let e : suc place + length text ≡ place + suc (length text) = omega arith in
    ap (λ t. cond t (lexed_in (suc place) 0 (text ++ rest))
    (option_map_or (λ f. put_first (token_of place f) (lexed_in (suc place) (f.1 - 1) (text ++ rest))) (token_at (b ∷ text ++ rest)) (record { tokens = []; bad = Some place }))) no_blank
    ∙ ap (λ found. option_map_or (λ f. put_first (token_of place f) (lexed_in (suc place) (f.1 - 1) (text ++ rest))) found (record { tokens = []; bad = Some place })) h
    ∙ ap (put_first (token_of place (what, suc (length text))))
    (ap (λ k. lexed_in (suc place) k (text ++ rest)) less ∙ passed (suc place) text rest ∙ ap (λ first. lexed_in first 0 rest) e)

-- of a line, the bytes from a place on are read as these symbols and to the end
record IsReadAs (line : List ℕ) (place : ℕ) (bytes : List ℕ) (symbols : List Symbol) : Type 0 where
  pub same : map (symbol_of line) (lexed_in place 0 bytes).tokens ≡ symbols
  pub whole : (lexed_in place 0 bytes).bad ≡ None

symbol_there : (line front text rest : List ℕ) (what : Lexeme) (s : Symbol) → line ≡ front ++ (text ++ rest) → 0 < length text → symbol_from text what ≡ s
    → symbol_of line (token_of (length front) (what, length text)) ≡ s
symbol_there line front text rest what s e some stands =
    let len : length front + length text - 1 + 1 - length front ≡ length text = omega arith in
    let back : drop (length front) line ≡ text ++ rest = ap (drop (length front)) e ∙ drop_at front (text ++ rest) (length front) refl in
    let bytes : take (length front + length text - 1 + 1 - length front) (drop (length front) line) ≡ text =
    ap (λ k. take k (drop (length front) line)) len ∙ ap (take (length text)) back ∙ take_at text rest (length text) refl in
    ap (λ b. symbol_from b what) bytes ∙ stands

symbol_back : (line front rest : List ℕ) (s : Symbol) (symbols : List Symbol) → IsSpelled (symbol_text s) (lexeme_of s) s → EndsSymbol rest
    → line ≡ front ++ (symbol_text s ++ rest) → IsReadAs line (length front + length (symbol_text s)) rest symbols
    → IsReadAs line (length front) (symbol_text s ++ rest) (s ∷ symbols)
symbol_back line front rest s symbols h ends e behind =
    let first = first_token (length front) (symbol_text s) rest (lexeme_of s) h.some h.no_blank (h.token rest ends) in
    let here = symbol_there line front (symbol_text s) rest (lexeme_of s) s e h.some h.stands in
    record {
      same = ap (λ l. map (symbol_of line) l.tokens) first
          ∙ ap (λ t. t ∷ map (symbol_of line) (lexed_in (length front + length (symbol_text s)) 0 rest).tokens) here ∙ ap (λ ts. s ∷ ts) behind.same;
      whole = ap (λ l. l.bad) first ∙ behind.whole;
    }

spaced_ends : (symbols : List Symbol) → EndsSymbol (spaced_text symbols)
spaced_ends [] = tt
spaced_ends (s ∷ symbols) = refl

spaced_back : (line front : List ℕ) (symbols : List Symbol) → IsReadBack → All IsWritable symbols → line ≡ front ++ spaced_text symbols
    → IsReadAs line (length front) (spaced_text symbols) symbols
spaced_back line front [] back h e = record { same = refl; whole = refl }
spaced_back line front (s ∷ symbols) back h e =
    let one : length (front ++ 32 ∷ []) ≡ suc (length front) = omega (arith, length-append front (32 ∷ [])) in
    let e' : line ≡ (front ++ 32 ∷ []) ++ (symbol_text s ++ spaced_text symbols) = e ∙ sym (append_assoc front (32 ∷ []) (symbol_text s ++ spaced_text symbols)) in
    let e'' : line ≡ ((front ++ 32 ∷ []) ++ symbol_text s) ++ spaced_text symbols = e' ∙ sym (append_assoc (front ++ 32 ∷ []) (symbol_text s) (spaced_text symbols)) in
    let behind = spaced_back line ((front ++ 32 ∷ []) ++ symbol_text s) symbols back (All-tail IsWritable s symbols h) e'' in
    let behind' = subst (λ (place : ℕ). IsReadAs line place (spaced_text symbols) symbols) (length-append (front ++ 32 ∷ []) (symbol_text s)) behind in
    let here = symbol_back line (front ++ 32 ∷ []) (spaced_text symbols) s symbols (spelled s back (All-head IsWritable s symbols h)) (spaced_ends symbols) e' behind' in
    let there = subst (λ (place : ℕ). IsReadAs line place (symbol_text s ++ spaced_text symbols) (s ∷ symbols)) one here in
    record { same = there.same; whole = there.whole }

line_back : (symbols : List Symbol) → IsReadBack → All IsWritable symbols → IsReadAs (line_of symbols) 0 (line_of symbols) symbols
line_back [] back h = record { same = refl; whole = refl }
line_back (s ∷ symbols) back h =
    let written = line_of-cons s symbols in
    let behind = spaced_back (line_of (s ∷ symbols)) (symbol_text s) symbols back (All-tail IsWritable s symbols h) written in
    let zero_more : length (symbol_text s) ≡ 0 + length (symbol_text s) = omega arith in
    let behind' = subst (λ (place : ℕ). IsReadAs (line_of (s ∷ symbols)) place (spaced_text symbols) symbols) zero_more behind in
    let here = symbol_back (line_of (s ∷ symbols)) [] (spaced_text symbols) s symbols (spelled s back (All-head IsWritable s symbols h)) (spaced_ends symbols) written behind' in
    subst (λ (bytes : List ℕ). IsReadAs (line_of (s ∷ symbols)) 0 bytes (s ∷ symbols)) (sym written) here

-- a line of symbols that can be written is read as these symbols
pub symbols_of-line_of : (symbols : List Symbol) → IsReadBack → All IsWritable symbols → symbols_of (line_of symbols) ≡ symbols
symbols_of-line_of symbols back h = (line_back symbols back h).same

pub bad-line_of : (symbols : List Symbol) → IsReadBack → All IsWritable symbols → (lexed (line_of symbols)).bad ≡ None
bad-line_of symbols back h = (line_back symbols back h).whole

spaced_utf8 : (symbols : List Symbol) → IsReadBack → All IsWritable symbols → IsUtf8 (spaced_text symbols)
spaced_utf8 [] back h = IsUtf8-nil
spaced_utf8 (s ∷ symbols) back h =
    let space = IsUtf8-from_ascii (32 ∷ []) (IsAscii-cons 32 [] (omega arith) IsAscii-nil) in
    let here = (spelled s back (All-head IsWritable s symbols h)).utf8 in
    IsUtf8-append (32 ∷ symbol_text s) (spaced_text symbols) (IsUtf8-append (32 ∷ []) (symbol_text s) space here)
    (spaced_utf8 symbols back (All-tail IsWritable s symbols h))

pub IsUtf8-line_of : (symbols : List Symbol) → IsReadBack → All IsWritable symbols → IsUtf8 (line_of symbols)
IsUtf8-line_of [] back h = IsUtf8-nil
IsUtf8-line_of (s ∷ symbols) back h =
    subst IsUtf8 (sym (line_of-cons s symbols))
    (IsUtf8-append (symbol_text s) (spaced_text symbols) (spelled s back (All-head IsWritable s symbols h)).utf8
    (spaced_utf8 symbols back (All-tail IsWritable s symbols h)))
