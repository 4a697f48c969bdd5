-- Where a batch might be cut, one was, and none may be any more.
use Rattle.core_driver.proofs.Words.{[], state_of}
use Rattle.event_core.specs.declared.choosing.EventKind.TheVariants as kind
use Rattle.core_driver.proofs.PhaseLemmas.{cuts-fall, cuts-led, cuts-rise}
use Rattle.core_driver.proofs.RoundLemmas.{none-first}
use Rattle.core_driver.proofs.WantLemmas.{cut-never}
use Rattle.core_driver.proofs.driver.cut.Goals as goal

pub take_all-requires : goal.take_all-requires
take_all-requires c = record { managed = (tt, tt); never = cut-never }

pub returns-clause-all : goal.returns-clause-all
returns-clause-all c = record {
  led = cuts-led (state_of c.args.core.now) (state_of c.take_all.new.core) c.take_all.ensures.led;
  none = none-first kind.Cut [] (state_of c.take_all.new.core) c.take_all.ensures.none;
}

pub returns-clause-more : goal.returns-clause-more
returns-clause-more c = record {
  cuts = cuts-rise c.every_step_keeps_a_core_sound.ensures (state_of c.args.core.now) (state_of c.take_all.new.core) c.every_core_is_sound.ensures
      (returns-clause-all c);
  less = cuts-fall (state_of c.args.core.now) (state_of c.take_all.new.core) c.take_all.ensures.some (returns-clause-all c);
}
