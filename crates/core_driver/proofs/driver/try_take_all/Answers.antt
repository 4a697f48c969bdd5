-- An event more of the kinds is taken, which leaves less work.
use Rattle.core_driver.proofs.Words.{ap, IsManaged, IsOfSome, NoneOfMayCome, Ok, state_of, StaysIdle, subst, sym}
use Rattle.event_core.specs.CoreParts.{CoreParts}
use Rattle.event_core.proofs.ChoosingLemmas.{all-managed}
use Rattle.core_driver.proofs.IdleLemmas.{idle-taken, stays-then}
use Rattle.core_driver.proofs.KindLemmas.{kind-of-some}
use Rattle.core_driver.proofs.LedLemmas.{led-more}
use Rattle.core_driver.proofs.LoopLemmas.{some-more}
use Rattle.core_driver.proofs.driver.try_take_all.Goals as goal

pub events-preserved : goal.events-preserved
events-preserved c =
    let took = c.in_ok-take_one.ensures.taken (ap Ok c.if-branch.true) in
    record {
      led = led-more (IsOfSome c.args.kinds.now) (state_of c.args.core.now) (state_of c.events.core) (state_of c.take_one.new.core) took.0
          c.events.invariant.led took.1.0 took.1.1;
      some = some-more (state_of c.args.core.now) (state_of c.events.core) (state_of c.take_one.new.core) c.events.invariant.some
          (c.in_ok-take_one.ensures.less (ap Ok c.if-branch.true));
      stays = stays-then c.args.core.now c.events.core c.take_one.new.core c.events.invariant.stays (record {
        idle = idle-taken took.0 (state_of c.events.core) (state_of c.take_one.new.core)
            (kind-of-some IsManaged c.args.kinds.now took.0
            (all-managed c.args.kinds.now c.requires.managed) took.1.0) took.1.1;
        beside = c.take_one.ensures.beside;
      });
    }

pub returns-in_err-take_one-clause-stays : goal.returns-in_err-take_one-clause-stays
returns-in_err-take_one-clause-stays c =
    subst (StaysIdle c.args.core.now) (sym c.in_err-take_one.ensures.err) c.events.invariant.stays

pub returns-clause-none : goal.returns-clause-none
returns-clause-none c =
    let ended = c.in_ok-take_one.ensures.none (ap Ok c.if-branch.false) in
    subst (λ (parts : CoreParts). NoneOfMayCome c.args.kinds.now (state_of parts)) (sym ended.0) ended.1

pub returns-clause-stays : goal.returns-clause-stays
returns-clause-stays c =
    let ended = c.in_ok-take_one.ensures.none (ap Ok c.if-branch.false) in
    subst (StaysIdle c.args.core.now) (sym ended.0) c.events.invariant.stays
