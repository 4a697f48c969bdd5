use Rattle.star_lexer.proofs.WrittenLemmas.{written_line}
use Rattle.star_lexer.proofs.writing.write_symbols.Goals as goal

pub returns-in_ok-write_spaced-in-len1-up : goal.returns-in_ok-write_spaced-in-len1-up
returns-in_ok-write_spaced-in-len1-up c =
    written_line c.args.symbols.now c.first-item.result _ _ _ c.first-item.is c.in-len1-up.len_at_least c.new-line.ensures
    c.in_ok-write_symbol-in-len1-up.ensures c.in_ok-write_spaced-in-len1-up.ensures
