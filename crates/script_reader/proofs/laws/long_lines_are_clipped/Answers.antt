use Rattle.script_reader.proofs.ClippedLemmas.{are_clipped}
use Rattle.script_reader.proofs.laws.long_lines_are_clipped.Goals as goal

pub returns : goal.returns
returns c = are_clipped
