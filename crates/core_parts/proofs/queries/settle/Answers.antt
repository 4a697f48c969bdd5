use Rattle.core_parts.proofs.LetGoLemmas.{none-forgotten}
use Rattle.core_parts.proofs.queries.settle.Goals as goal

pub returns-then-calls-rest : goal.returns-then-calls-rest
returns-then-calls-rest c = none-forgotten c.args.manager.now c.args.asked.now
