-- What turn after turn leaves, where it breaks off and in the end.
use Rattle.core_driver.proofs.Words.{◌↔◌, ◌∙◌, ◌≡◌, Bool, false, IsDriven, IsTrue, MayGoOn, State, state_of, sym, true}
use Rattle.core_driver.proofs.FinishLemmas.{first-lap, gone-all, gone-driven, gone-first, gone-lap, gone-on, gone-shares}
use Rattle.core_driver.proofs.IdleLemmas.{stays-then}
use Rattle.core_driver.proofs.LedLemmas.{led-joined}
use Rattle.core_driver.proofs.driver.finish_all.Goals as goal

-- where it is told that none may go on, none may
stops : (state : State) (told : Bool) → told ≡ false → IsTrue told ↔ MayGoOn state → MayGoOn state → ⊥
stops state told is tells may = let both : false ≡ true = sym is ∙ tells.1 may in cc

pub returns-in_err-land-clause-lap : goal.returns-in_err-land-clause-lap
returns-in_err-land-clause-lap g c = first-lap (state_of c.args.core.now) (state_of c.land.new.core) c.land.ensures.led

pub turns-init : goal.turns-init
turns-init g c = (
  gone-first c.every_step_keeps_a_core_sound.ensures (state_of c.args.core.now) (state_of c.land.new.core) c.every_core_is_sound.ensures
      c.land.ensures.led c.in_ok-land.ensures.landed,
  c.land.ensures.stays,
)

pub turns-preserved : goal.turns-preserved
turns-preserved g c = (
  gone-on c.every_step_keeps_a_core_sound.ensures (state_of c.args.core.now) (state_of c.turns.core) (state_of c.turn.new.core)
      c.every_core_is_sound.ensures c.turns.invariant.0 (c.may_go_on.ensures.0 c.turns-test.true) c.in_ok-turn.ensures.whole,
  stays-then c.args.core.now c.turns.core c.turn.new.core c.turns.invariant.1 c.turn.ensures.stays,
)

pub returns-in_err-turn-clause-driven : goal.returns-in_err-turn-clause-driven
returns-in_err-turn-clause-driven g c =
    led-joined IsDriven (state_of c.args.core.now) (state_of c.turns.core) (state_of c.turn.new.core)
    (gone-driven (state_of c.args.core.now) (state_of c.turns.core) c.turns.invariant.0) c.turn.ensures.turn.driven

pub returns-in_err-turn-clause-lap : goal.returns-in_err-turn-clause-lap
returns-in_err-turn-clause-lap g c =
    gone-lap c.every_step_keeps_a_core_sound.ensures (state_of c.args.core.now) (state_of c.turns.core) (state_of c.turn.new.core)
    c.every_core_is_sound.ensures c.turns.invariant.0 (c.may_go_on.ensures.0 c.turns-test.true) c.turn.ensures.turn

pub returns-clause-driven : goal.returns-clause-driven
returns-clause-driven g c = gone-driven (state_of c.args.core.now) (state_of c.turns.core) c.turns.invariant.0

pub returns-clause-lap : goal.returns-clause-lap
returns-clause-lap g c = gone-shares (state_of c.args.core.now) (state_of c.turns.core) c.turns.invariant.0

pub returns-clause-finishes : goal.returns-clause-finishes
returns-clause-finishes g c =
    gone-all c.every_step_keeps_a_core_sound.ensures (state_of c.args.core.now) (state_of c.turns.core) c.every_core_is_sound.ensures
    c.turns.invariant.0 (stops (state_of c.turns.core) c.may_go_on.result c.turns-test.false c.may_go_on.ensures)

pub returns-in_err-turn-clause-stays : goal.returns-in_err-turn-clause-stays
returns-in_err-turn-clause-stays g c =
    stays-then c.args.core.now c.turns.core c.turn.new.core c.turns.invariant.1 c.turn.ensures.stays

pub returns-clause-stays : goal.returns-clause-stays
returns-clause-stays g c = c.turns.invariant.1
