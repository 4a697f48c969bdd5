use Rattle.std.proofs.Common.{rules, drop}
use Rattle.star_lexer.specs.Read.{IsPlain}
use Rattle.star_lexer.specs.Symbol.{content}
use Rattle.star_lexer.proofs.TokenLemmas.{IsWord-token, IsPlain-token}
use Rattle.star_lexer.proofs.reading.symbol_of.Goals as goal

pub word_symbol-requires : goal.word_symbol-requires
word_symbol-requires c = IsWord-token c.args.line.now c.args.token _ c.requires c.in-Word.is (search rules)

pub text_symbol-requires : goal.text_symbol-requires
text_symbol-requires c =
    let plain : IsPlain (content (drop 1 c.token_bytes-bytes.result.now)) =
    IsPlain-token c.args.line.now c.args.token c.token_bytes-bytes.result.now c.utf8.line c.requires c.in-Text.is (search rules) in
    rw c.split_at.ensures.back plain
