use Rattle.std.proofs.Common.{◌∙◌}
use Rattle.star_lexer.proofs.KeywordLemmas.{keyword_in-read}
use Rattle.star_lexer.proofs.keyword.entry_of.Goals as goal

pub returns : goal.returns
returns c = c.first_entry.ensures ∙ keyword_in-read c.args.word.now c.args.table.now
