-- Where no event of these kinds may come, all that can be are admitted.
use Rattle.core_driver.proofs.Words.{◌∷◌, [], state_of}
use Rattle.event_core.specs.declared.choosing.EventKind.TheVariants as kind
use Rattle.core_driver.proofs.KindLemmas.{admission-kinds, admission-led}
use Rattle.core_driver.proofs.RoundLemmas.{none-first, none-others}
use Rattle.core_driver.proofs.WantLemmas.{admission-never}
use Rattle.core_driver.proofs.driver.admit.Goals as goal

pub take_all-requires : goal.take_all-requires
take_all-requires c = record { managed = (tt, (tt, (tt, tt))); never = admission-never }

pub returns-clause-admits : goal.returns-clause-admits
returns-clause-admits c =
    let none = c.take_all.ensures.none in
    let others = none-others kind.Reserve (kind.Build ∷ kind.Start ∷ []) (state_of c.take_all.new.core) none in
    record {
      led = admission-led (kind.Reserve ∷ kind.Build ∷ kind.Start ∷ []) admission-kinds (state_of c.args.core.now) (state_of c.take_all.new.core)
          c.take_all.ensures.led;
      reserve = none-first kind.Reserve (kind.Build ∷ kind.Start ∷ []) (state_of c.take_all.new.core) none;
      build = none-first kind.Build (kind.Start ∷ []) (state_of c.take_all.new.core) others;
      start = none-first kind.Start [] (state_of c.take_all.new.core) (none-others kind.Build (kind.Start ∷ []) (state_of c.take_all.new.core) others);
    }
