-- A kind of which none is found is not that of a Submit, so no event of it may come.
use Rattle.core_driver.proofs.Words.{refl, state_of}
use Rattle.event_core.proofs.ChoosingLemmas.{none-more}
use Rattle.core_driver.proofs.driver.next_of.Goals as goal

pub loop-kind-preserved : goal.loop-kind-preserved
loop-kind-preserved c =
    none-more c.args.kinds.now (state_of c.args.core.now) c.loop-kind.kind-index _ c.requires.managed c.loop-kind-test.true
    c.loop-kind.invariant (c.in_default.ensures.none refl)
