-- The batch that was cut is in the hand, and the hand is empty where it was cut alone.
use Rattle.std.proofs.Common.{◌<◌, ◌∙◌, ap, refl, subst, sym}
use Rattle.core_state.specs.Rows.{SeatRow}
use Rattle.core_state.specs.declared.settings.RunSettings.{RunSettings}
use Rattle.event_core.specs.Board.{core_row}
use Rattle.event_core.specs.Lent.{IsBlankWorkOf}
use Rattle.event_core.specs.Seen.{state_of}
use Rattle.worker_gate.specs.declared.carried.Carried.TheVariants as carried
use Rattle.worker_gate.proofs.CutLemmas.{leaves-cut, moves-cut}
use Rattle.worker_gate.proofs.HandLemmas.{holds-there}
use Rattle.worker_gate.proofs.LookLemmas.{has-work}
use Rattle.crate_tests.proofs.lent.cut_and_pass.Goals as goal

pub do_behind-requires : goal.do_behind-requires
do_behind-requires c =
    has-work c.a_work_stays_right.ensures (carried.Blank c.in-Some.blank) 1 c.cut_for.new.self c.cut_for.ensures.touches.sound
    (holds-there (IsBlankWorkOf c.in-Some.blank) (core_row c.cut_for.new.self 1) (state_of c.cut_for.new.self).scan.flights 1 refl
    c.in-Some.ensures.carried.work)

pub returns-in-Some-clause-seat : goal.returns-in-Some-clause-seat
returns-in-Some-clause-seat c =
    subst (λ (settings : RunSettings). 1 < settings.seats)
    (sym (c.do_behind.ensures.settings
    ∙ (moves-cut c.a_step_moves_one_row.ensures.one c.every_step_keeps_a_core_sound.ensures 1 (state_of c.args.core.now)
    (state_of c.cut_for.new.self) c.every_core_is_sound.ensures c.in-Some.ensures.carried.carries).settings))
    c.requires.seat

pub returns-in-None-clause-seat : goal.returns-in-None-clause-seat
returns-in-None-clause-seat c =
    subst (λ (settings : RunSettings). 1 < settings.seats)
    (sym (leaves-cut c.a_step_moves_one_row.ensures.one (state_of c.args.core.now) (state_of c.cut_for.new.self)
    c.every_core_is_sound.ensures (c.in-None.ensures.alone refl).0).settings)
    c.requires.seat

pub returns-in-None-clause-empty : goal.returns-in-None-clause-empty
returns-in-None-clause-empty c =
    ap (λ (row : SeatRow). row.hand)
    ((leaves-cut c.a_step_moves_one_row.ensures.one (state_of c.args.core.now) (state_of c.cut_for.new.self)
    c.every_core_is_sound.ensures (c.in-None.ensures.alone refl).0).rows 1)
    ∙ c.requires.empty
