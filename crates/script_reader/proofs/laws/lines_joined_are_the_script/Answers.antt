use Rattle.script_reader.proofs.LineLemmas.{concat-lines_of}
use Rattle.script_reader.proofs.laws.lines_joined_are_the_script.Goals as goal

pub returns : goal.returns
returns c = concat-lines_of
