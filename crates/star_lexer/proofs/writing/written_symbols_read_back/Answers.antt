use Rattle.star_lexer.proofs.ReadBackLemmas.{symbols_of-line_of, bad-line_of, IsUtf8-line_of}
use Rattle.star_lexer.proofs.writing.written_symbols_read_back.Goals as goal

pub returns-clause-symbols : goal.returns-clause-symbols
returns-clause-symbols c = λ symbols. symbols_of-line_of symbols c.integer_text_reads_back.ensures

pub returns-clause-whole : goal.returns-clause-whole
returns-clause-whole c = λ symbols. bad-line_of symbols c.integer_text_reads_back.ensures

pub returns-clause-text : goal.returns-clause-text
returns-clause-text c = λ symbols. IsUtf8-line_of symbols c.integer_text_reads_back.ensures
