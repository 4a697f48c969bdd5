use Rattle.star_values.proofs.IntegerLemmas.{integer_in-signed_decimal}
use Rattle.star_values.proofs.integer.integer_text_reads_back.Goals as goal

pub returns : goal.returns
returns c = integer_in-signed_decimal
