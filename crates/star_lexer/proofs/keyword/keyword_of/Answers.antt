use Rattle.star_lexer.specs.Keyword.{keyword_of, keywords}
use Rattle.star_lexer.proofs.keyword.keyword_of.Goals as goal

pub returns : goal.returns
unfolding keyword_of keywords
returns c = c.entry_of.ensures
