-- No event was left for want of memory, since none of these kinds wants it.
use Rattle.core_driver.proofs.Words.{state_of}
use Rattle.core_driver.proofs.WantLemmas.{never-wants, surely}
use Rattle.core_driver.proofs.driver.take_all.Goals as goal

pub returns-clause-none : goal.returns-clause-none
returns-clause-none c =
    surely c.try_take_all.result (never-wants c.args.kinds.now (state_of c.try_take_all.new.core) c.requires.never) c.try_take_all.ensures.none
    c.try_take_all.ensures.memory
