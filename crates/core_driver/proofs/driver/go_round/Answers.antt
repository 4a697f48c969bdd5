-- A round is cuts, a landing and a new order, and what the cuts leave of the count and of the work stays so.
use Rattle.core_driver.proofs.Words.{state_of}
use Rattle.core_driver.proofs.IdleLemmas.{stays-then}
use Rattle.core_driver.proofs.PhaseLemmas.{cut-round, landed-ordered, landing-led-round, landing-round, led-round, more-stays, rest-led}
use Rattle.core_driver.proofs.driver.go_round.Goals as goal

pub returns-in_err-land-clause-led : goal.returns-in_err-land-clause-led
returns-in_err-land-clause-led g c =
    landing-round (state_of c.args.core.now) (state_of c.cut.new.core) (state_of c.land.new.core) c.cut.ensures.all.led c.land.ensures.led

pub returns-in_err-land-clause-more : goal.returns-in_err-land-clause-more
returns-in_err-land-clause-more g c =
    more-stays c.every_step_keeps_a_core_sound.ensures (state_of c.args.core.now) (state_of c.cut.new.core) (state_of c.land.new.core)
    c.every_core_is_sound.ensures (cut-round (state_of c.args.core.now) (state_of c.cut.new.core) c.cut.ensures.all.led)
    (landing-led-round (state_of c.cut.new.core) (state_of c.land.new.core) c.land.ensures.led)
    c.cut.ensures.more

pub returns-in_err-land-clause-stays : goal.returns-in_err-land-clause-stays
returns-in_err-land-clause-stays g c =
    stays-then c.args.core.now c.cut.new.core c.land.new.core c.cut.ensures.stays c.land.ensures.stays

pub returns-clause-round : goal.returns-clause-round
returns-clause-round g c = record {
  cut = state_of c.cut.new.core;
  landed = state_of c.land.new.core;
  cuts = c.cut.ensures.all;
  lands = c.land.ensures.led;
  orders = c.reorder.ensures.orders;
  ends = landed-ordered (state_of c.land.new.core) (state_of c.reorder.new.core) c.reorder.ensures.orders.led c.in_ok-land.ensures.landed;
}

pub returns-clause-led : goal.returns-clause-led
returns-clause-led g c = led-round (state_of c.args.core.now) (state_of c.reorder.new.core) (returns-clause-round g c)

pub returns-clause-more : goal.returns-clause-more
returns-clause-more g c =
    more-stays c.every_step_keeps_a_core_sound.ensures (state_of c.args.core.now) (state_of c.cut.new.core) (state_of c.reorder.new.core)
    c.every_core_is_sound.ensures (cut-round (state_of c.args.core.now) (state_of c.cut.new.core) c.cut.ensures.all.led)
    (rest-led (state_of c.cut.new.core) (state_of c.land.new.core) (state_of c.reorder.new.core) c.land.ensures.led c.reorder.ensures.orders.led)
    c.cut.ensures.more

pub returns-clause-stays : goal.returns-clause-stays
returns-clause-stays g c =
    stays-then c.args.core.now c.land.new.core c.reorder.new.core
    (stays-then c.args.core.now c.cut.new.core c.land.new.core c.cut.ensures.stays c.land.ensures.stays) c.reorder.ensures.stays
