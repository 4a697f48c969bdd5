-- The worker carries the batch that was cut, or it was cut alone.
use Rattle.std.proofs.Common.{refl}
use Rattle.event_core.specs.Seen.{state_of}
use Rattle.worker_gate.proofs.CutLemmas.{cuts-for, leaves-cut, makes-cut, moves-cut}
use Rattle.worker_gate.proofs.LeftLemmas.{moves-none}
use Rattle.worker_gate.proofs.LookLemmas.{empty-still}
use Rattle.worker_gate.proofs.looking.cut_next.Goals as goal

pub returns-in-Some-clause-tells : goal.returns-in-Some-clause-tells
returns-in-Some-clause-tells c =
    cuts-for c.a_work_stays_right.ensures c.in-Some.blank c.args.worker c.args.core.now c.cut_for.new.self c.requires.manages
    c.requires.first c.in-Some.ensures.carried.carries c.in-Some.ensures.carried.work c.in-Some.ensures.waiting c.cut_for.ensures.touches.marks
    c.cut_for.ensures.touches.sound

pub returns-in-Some-clause-moves : goal.returns-in-Some-clause-moves
returns-in-Some-clause-moves c =
    moves-cut c.a_step_moves_one_row.ensures.one c.every_step_keeps_a_core_sound.ensures c.args.worker (state_of c.args.core.now)
    (state_of c.cut_for.new.self) c.every_core_is_sound.ensures c.in-Some.ensures.carried.carries

pub returns-in-Some-clause-hand : goal.returns-in-Some-clause-hand
returns-in-Some-clause-hand c = (returns-in-Some-clause-tells c).has

pub returns-in-None-clause-tells : goal.returns-in-None-clause-tells
returns-in-None-clause-tells c =
    makes-cut c.args.worker c.args.core.now c.cut_for.new.self c.requires.manages c.requires.first (c.in-None.ensures.alone refl).0
    c.cut_for.ensures.touches.marks

pub returns-in-None-clause-moves : goal.returns-in-None-clause-moves
returns-in-None-clause-moves c =
    moves-none c.args.worker (state_of c.args.core.now) (state_of c.cut_for.new.self)
    (leaves-cut c.a_step_moves_one_row.ensures.one (state_of c.args.core.now) (state_of c.cut_for.new.self)
    c.every_core_is_sound.ensures (c.in-None.ensures.alone refl).0)

pub returns-in-None-clause-hand : goal.returns-in-None-clause-hand
returns-in-None-clause-hand c =
    empty-still c.args.worker c.args.core.now c.cut_for.new.self
    (leaves-cut c.a_step_moves_one_row.ensures.one (state_of c.args.core.now) (state_of c.cut_for.new.self)
    c.every_core_is_sound.ensures (c.in-None.ensures.alone refl).0)
    (c.what_is_beside_stays_lent.ensures c.args.core.now c.cut_for.new.self (c.in-None.ensures.alone refl).1) c.requires.manages.empty
