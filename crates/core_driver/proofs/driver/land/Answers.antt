-- The batches pass the filters, are distributed, and slots become free.
use Rattle.core_driver.proofs.Words.{◌∷◌, [], IsOfLanding, on_ok_weaker, state_of}
use Rattle.std.proofs.lemmas.Result.{on_err_weaker}
use Rattle.event_core.specs.declared.choosing.EventKind.TheVariants as kind
use Rattle.event_core.proofs.ChoosingLemmas.{all-managed}
use Rattle.core_driver.proofs.IdleLemmas.{idle-through, stays-then}
use Rattle.core_driver.proofs.LapKindLemmas.{landing-distributes, landing-frees, landing-led, landing-passes}
use Rattle.core_driver.proofs.LedLemmas.{led-joined, led-sound}
use Rattle.core_driver.proofs.RoundLemmas.{round-lands}
use Rattle.core_driver.proofs.WantLemmas.{distribute-never, wants-clear}
use Rattle.core_driver.proofs.driver.land.Goals as goal

pub take_all-requires : goal.take_all-requires
take_all-requires g c = record { managed = (tt, tt); never = distribute-never }

pub try_take_all-requires : goal.try_take_all-requires
try_take_all-requires g c = record { managed = (tt, (tt, (tt, tt))) }

pub returns-clause-led : goal.returns-clause-led
returns-clause-led g c =
    led-joined IsOfLanding (state_of c.args.core.now) (state_of c.take_all.new.core) (state_of c.try_take_all.new.core)
    (led-joined IsOfLanding (state_of c.args.core.now) (state_of c.pass_all.new.self) (state_of c.take_all.new.core)
    (landing-passes (state_of c.args.core.now) (state_of c.pass_all.new.self) c.pass_all.ensures.events)
    (landing-led (kind.Distribute ∷ []) landing-distributes (state_of c.pass_all.new.self) (state_of c.take_all.new.core) c.take_all.ensures.led))
    (landing-led (kind.Finish ∷ kind.Clear ∷ kind.Release ∷ []) landing-frees (state_of c.take_all.new.core) (state_of c.try_take_all.new.core)
    c.try_take_all.ensures.led)

pub returns-clause-landed : goal.returns-clause-landed
returns-clause-landed g c = on_ok_weaker c.try_take_all.result
    (λ none.
    round-lands (state_of c.pass_all.new.self) (state_of c.take_all.new.core) (state_of c.try_take_all.new.core) c.pass_all.ensures.through
    c.take_all.ensures.led c.take_all.ensures.none c.try_take_all.ensures.led none
    (led-sound c.every_step_keeps_a_core_sound.ensures IsOfLanding (state_of c.args.core.now) (state_of c.try_take_all.new.core)
    (returns-clause-led g c) c.every_core_is_sound.ensures))
    c.try_take_all.ensures.none

pub returns-clause-memory : goal.returns-clause-memory
returns-clause-memory g c = on_err_weaker c.try_take_all.result
    (wants-clear (kind.Finish ∷ kind.Clear ∷ kind.Release ∷ []) (state_of c.try_take_all.new.core)
    (all-managed (kind.Finish ∷ kind.Clear ∷ kind.Release ∷ []) (tt, (tt, (tt, tt)))))
    c.try_take_all.ensures.memory

pub returns-clause-stays : goal.returns-clause-stays
returns-clause-stays g c =
    stays-then c.args.core.now c.pass_all.new.self c.try_take_all.new.core
    (record { idle = λ idle. idle-through (state_of c.pass_all.new.self) c.pass_all.ensures.through; beside = c.pass_all.ensures.beside })
    (stays-then c.pass_all.new.self c.take_all.new.core c.try_take_all.new.core c.take_all.ensures.stays c.try_take_all.ensures.stays)
