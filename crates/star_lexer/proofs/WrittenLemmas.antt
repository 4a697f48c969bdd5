-- A line of symbols is the first of them, and then each of the others behind a space.
use Rattle.std.proofs.Common.{◌≡◌, ℕ, ◌-◌, ◌≤◌, List, [], ◌∷◌, ◌++◌, length, take, drop, get_or, ap, sym, ◌∙◌, arith, append-nil}
use Rattle.std.proofs.lemmas.List.{take_rest}
use Rattle.star_lexer.specs.declared.symbol.Symbol.{Symbol}
use Rattle.star_lexer.specs.Written.{symbol_text, spaced_text, line_of}

pub line_of-cons : (s : Symbol) (rest : List Symbol) → line_of (s ∷ rest) ≡ symbol_text s ++ spaced_text rest
line_of-cons s [] = sym (append-nil (symbol_text s))
line_of-cons s (t ∷ rest) = ap (λ more. symbol_text s ++ 32 ∷ more) (line_of-cons t rest)

-- an empty line, the first symbol, and then the others are the line
pub written_line : (symbols : List Symbol) (first : Symbol) (empty one all : List ℕ) → first ≡ get_or symbols 0 first → 1 ≤ length symbols → empty ≡ []
    → one ≡ empty ++ symbol_text first → all ≡ one ++ spaced_text (take (length symbols - 1) (drop 1 symbols)) → all ≡ line_of symbols
written_line [] first empty one all here some e f g = absurd (omega arith)
written_line (s ∷ rest) first empty one all here some e f g =
    let others : spaced_text (take (length (s ∷ rest) - 1) (drop 1 (s ∷ rest))) ≡ spaced_text rest = ap spaced_text (take_rest (s ∷ rest) 1) in
    let front : one ≡ symbol_text s = f ∙ ap (λ bytes. bytes ++ symbol_text first) e ∙ ap symbol_text here in
    g ∙ ap (λ bytes. one ++ bytes) others ∙ ap (λ bytes. bytes ++ spaced_text rest) front ∙ sym (line_of-cons s rest)
