-- One part of a condition that is no `not`.
use Rattle.std.proofs.Common.{◌≡◌, ℕ, suc, false, List, ap, sym, ◌∙◌}
use Rattle.star_lexer.specs.declared.keyword.Keyword.TheVariants as key
use Rattle.star_lexer.specs.declared.symbol.Symbol.{Symbol}
use Rattle.star_parser.specs.Condition.{Negate}
use Rattle.star_parser.specs.Reader as reader
use Rattle.star_parser.specs.Reader.{Reader, begins, behind, on, gives, is_word}
use Rattle.star_parser.specs.Reading.{one_at, not_negated_at}
use Rattle.star_parser.proofs.StepLemmas.{on_else}

pub one_else : (depth inner : ℕ) (symbols left : List Symbol) → depth ≡ suc inner → begins (is_word key.Not) symbols ≡ false
    → left ≡ behind (is_word key.Not) symbols → one_at depth symbols ≡ not_negated_at inner left
unfolding one_at
one_else depth inner symbols left deep other next =
    ap (λ z. one_at z symbols) deep
    ∙ on_else (is_word key.Not) (reader.◌>>=◌ (one_at inner) (λ t. gives (Negate t))) (not_negated_at inner) symbols left (sym other) next
