use Rattle.std.proofs.Common.{rules, ◌∙◌}
use Rattle.star_lexer.proofs.WordLemmas.{IsPlain-lower, IsName-lower}
use Rattle.star_lexer.proofs.reading.word_symbol.Goals as goal

pub small_name-requires : goal.small_name-requires
small_name-requires c = IsPlain-lower c.args.word.now _ c.requires (c.as_slice-in-None.ensures.value ∙ c.in_ok-name.ensures)

pub returns-clause-writable : goal.returns-clause-writable
returns-clause-writable c =
    IsName-lower c.args.word.now _ c.requires (search rules) (search rules)
