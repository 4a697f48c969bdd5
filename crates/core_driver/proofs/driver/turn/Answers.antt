-- A turn is an admission and a round.
use Rattle.core_driver.proofs.Words.{IsOfAdmission, on_ok_weaker, state_of}
use Rattle.core_driver.proofs.IdleLemmas.{stays-then}
use Rattle.core_driver.proofs.LedLemmas.{led-sound}
use Rattle.core_driver.proofs.WholeLemmas.{halves-driven, turn-admits, turn-falls, turn-rises, turn-settles}
use Rattle.core_driver.proofs.driver.turn.Goals as goal

pub returns-clause-turn : goal.returns-clause-turn
returns-clause-turn g c = record {
  mid = state_of c.admit.new.core;
  admits = c.admit.ensures.admits;
  round = c.go_round.ensures.led;
  driven = halves-driven (state_of c.args.core.now) (state_of c.admit.new.core) (state_of c.go_round.new.core) c.admit.ensures.admits.led
      c.go_round.ensures.led;
}

pub returns-clause-whole : goal.returns-clause-whole
returns-clause-whole g c = on_ok_weaker c.go_round.result
    (λ round. record {
      mid = state_of c.admit.new.core;
      admits = c.admit.ensures.admits;
      round = round;
      settled = turn-settles (state_of c.args.core.now) (state_of c.admit.new.core) (state_of c.go_round.new.core) c.admit.ensures.admits
          c.go_round.ensures.led round.ends;
    })
    c.go_round.ensures.round

pub returns-clause-on : goal.returns-clause-on
returns-clause-on g c = record {
  admits = turn-admits c.every_step_keeps_a_core_sound.ensures (state_of c.args.core.now) (state_of c.admit.new.core)
      (state_of c.go_round.new.core) c.every_core_is_sound.ensures c.admit.ensures.admits c.go_round.ensures.led;
  cuts = turn-rises c.every_step_keeps_a_core_sound.ensures (state_of c.args.core.now) (state_of c.admit.new.core)
      (state_of c.go_round.new.core) c.every_core_is_sound.ensures c.admit.ensures.admits c.go_round.ensures.more.cuts;
  less = turn-falls c.every_step_keeps_a_core_sound.ensures (state_of c.args.core.now) (state_of c.admit.new.core)
      (state_of c.go_round.new.core)
      (led-sound c.every_step_keeps_a_core_sound.ensures IsOfAdmission (state_of c.args.core.now) (state_of c.admit.new.core)
      c.admit.ensures.admits.led c.every_core_is_sound.ensures)
      c.admit.ensures.admits c.admit.ensures.some c.go_round.ensures.led c.go_round.ensures.more.less;
}

pub returns-clause-stays : goal.returns-clause-stays
returns-clause-stays g c =
    stays-then c.args.core.now c.admit.new.core c.go_round.new.core c.admit.ensures.stays c.go_round.ensures.stays
