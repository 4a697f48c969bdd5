use Rattle.script_reader.proofs.StepLemmas.{come_in_order}
use Rattle.script_reader.proofs.laws.statements_come_in_order.Goals as goal

pub returns : goal.returns
returns c = come_in_order
