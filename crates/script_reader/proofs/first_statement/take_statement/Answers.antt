use Rattle.std.proofs.lemmas.List.{take_rest}
use Rattle.script_reader.proofs.ReachLemmas.{TakesLines-block}
use Rattle.script_reader.proofs.first_statement.take_statement.Goals as goal

pub returns-in-Some-2-clause-lines : goal.returns-in-Some-2-clause-lines
returns-in-Some-2-clause-lines c =
    let script = c.args.script.now in
    let taken = rw c.in-Some-2.is at c.in_ok-statement.ensures.takes in
    TakesLines-block c.args.ended script _ _ _ _ c.in-Some.ensures.lines
    taken.line (rw (take_rest script c.in-Some.opening.end) at taken.lines)
