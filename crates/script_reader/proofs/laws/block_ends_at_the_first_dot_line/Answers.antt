use Rattle.script_reader.proofs.BlockLemmas.{statements_in-block}
use Rattle.script_reader.proofs.laws.block_ends_at_the_first_dot_line.Goals as goal

pub returns : goal.returns
returns c = statements_in-block
