use Rattle.script_reader.proofs.WholeLemmas.{all_given}
use Rattle.script_reader.proofs.laws.statements_are_given.Goals as goal

pub returns : goal.returns
returns c = all_given
