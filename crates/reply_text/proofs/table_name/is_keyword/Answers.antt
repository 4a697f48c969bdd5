use Rattle.std.proofs.Common.{◌∙◌, sym}
use Rattle.star_lexer.specs.Keyword.{keywords}
use Rattle.reply_text.proofs.NameLemmas.{is_keyword-any}
use Rattle.reply_text.proofs.table_name.is_keyword.Goals as goal

pub returns : goal.returns
unfolding keywords
returns c = c.stands_in.ensures ∙ sym (is_keyword-any c.args.word.now)
