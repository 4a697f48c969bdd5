use Rattle.std.proofs.Common.{◌∙◌}
use Rattle.star_lexer.proofs.TextLemmas.{scanned}
use Rattle.star_lexer.proofs.lexeme.text_len.Goals as goal

pub returns-clause-len : goal.returns-clause-len
returns-clause-len c = c.scan_text.ensures.len ∙ scanned c.args.bytes.now
