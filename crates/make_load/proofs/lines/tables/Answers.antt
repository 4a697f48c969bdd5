use Rattle.make_load.specs.Script.{tables}
use Rattle.make_load.proofs.lines.tables.Goals as goal

pub returns : goal.returns
unfolding tables
returns c =
    rw (← c.in_ok-say.ensures, ← c.in_ok-say-2.ensures, ← c.in_ok-say-3.ensures, ← c.in_ok-say-4.ensures, ← c.in_ok-say-5.ensures) c.say-6.ensures
