use Rattle.std.proofs.Common.{arith, All, subst, sym, List}
use Rattle.star_lexer.specs.declared.token.Token.{Token}
use Rattle.star_lexer.specs.Read.{IsReadIn}
use Rattle.star_lexer.proofs.TokenLemmas.{spaced_read}
use Rattle.star_lexer.proofs.reading.read_symbols.Goals as goal

pub symbols_of-requires : goal.symbols_of-requires
symbols_of-requires c =
    let read : All (IsReadIn c.args.line.now) c.in_ok-tokens.tokens.tokens = spaced_read c.args.line.now 0 _ _ (omega arith) c.in_ok-tokens.ensures.spaced in
    subst (λ (tokens : List Token). All (IsReadIn c.args.line.now) tokens) (sym c.as_slice.ensures) read
