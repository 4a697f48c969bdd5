use Rattle.std.proofs.Common.{rules, ◌≡◌, [], ◌∷◌, ◌++◌}
use Rattle.star_lexer.proofs.TokenLemmas.{one_more}
use Rattle.star_lexer.proofs.reading.symbols_of.Goals as goal

pub tokens-preserved : goal.tokens-preserved
tokens-preserved c =
    let pushed : c.push.new.self.items ≡ c.tokens.symbols.items ++ c.in_ok-symbol_of.field-0 ∷ [] = search rules in
    one_more c.args.line.now c.args.tokens.now c.tokens.token-index _ c.tokens.symbols.items _ c.in_ok-symbol_of.field-0 c.tokens-test.true
    c.tokens.invariant c.in_ok-symbol_of.ensures.symbol c.in_ok-symbol_of.ensures.writable c.in_ok-symbol_of.ensures.short pushed
