-- The batch in the hand is given back, and counted where it was folded, and the hand is empty.
use Rattle.std.proofs.Common.{◌≡◌, ◌∙◌, subst, sym}
use Rattle.event_core.specs.Board.{core_row}
use Rattle.event_core.specs.Lent.{IsDoneFor}
use Rattle.event_core.specs.Seen.{state_of}
use Rattle.worker_gate.specs.Managed.{OrdersIf, counted_home, is_sixteenth_home}
use Rattle.worker_gate.proofs.HandLemmas.{found-holds, some-held}
use Rattle.worker_gate.proofs.HomeLemmas.{brings-by, empty-home, fact-home, moves-home}
use Rattle.worker_gate.proofs.LeftLemmas.{others-all, others-then}
use Rattle.worker_gate.proofs.working.give_work.Goals as goal

pub take_back-requires : goal.take_back-requires
take_back-requires c = record {
  held = some-held (IsDoneFor c.args.work) (core_row c.args.core.now c.args.worker) c.requires;
  done = found-holds (IsDoneFor c.args.work) (core_row c.args.core.now c.args.worker) c.requires;
}

pub count_home-requires : goal.count_home-requires
count_home-requires c = λ folded.
    fact-home c.every_step_keeps_a_core_sound.ensures c.args.worker c.args.work.folding (state_of c.args.core.now)
    (state_of c.take_back.new.self) c.every_core_is_sound.ensures c.take_back.ensures.came (sym c.is_some-is_folded.ensures ∙ folded)

pub returns-clause-brings : goal.returns-clause-brings
returns-clause-brings c =
    brings-by c.args.worker c.args.work.folding c.args.core.now c.take_back.new.self c.count_home.new.core c.take_back.ensures.came
    c.take_back.ensures.touches.marks
    (subst (λ test. c.count_home.new.core.marks ≡ counted_home test c.take_back.new.self.marks) c.is_some-is_folded.ensures
    c.count_home.ensures.counted)
    (subst (λ test. OrdersIf (is_sixteenth_home test c.take_back.new.self.marks) (state_of c.take_back.new.self)
    (state_of c.count_home.new.core)) c.is_some-is_folded.ensures c.count_home.ensures.orders)

pub returns-clause-empty : goal.returns-clause-empty
returns-clause-empty c =
    empty-home c.a_step_moves_one_row.ensures.one c.every_step_keeps_a_core_sound.ensures c.args.worker c.args.work.folding
    (is_sixteenth_home c.is_some-is_folded.result c.take_back.new.self.marks) c.args.core.now c.take_back.new.self c.count_home.new.core
    (some-held (IsDoneFor c.args.work) (core_row c.args.core.now c.args.worker) c.requires) c.every_core_is_sound.ensures
    c.take_back.ensures.touches.sound c.take_back.ensures.came c.count_home.ensures.orders c.take_back.ensures.own c.count_home.ensures.loans

pub returns-clause-moves : goal.returns-clause-moves
returns-clause-moves c =
    moves-home c.a_step_moves_one_row.ensures.one c.every_step_keeps_a_core_sound.ensures c.args.worker c.args.work.folding
    (is_sixteenth_home c.is_some-is_folded.result c.take_back.new.self.marks) (state_of c.args.core.now) (state_of c.take_back.new.self)
    (state_of c.count_home.new.core) c.every_core_is_sound.ensures c.take_back.ensures.touches.sound c.take_back.ensures.came
    c.count_home.ensures.orders

pub returns-clause-others : goal.returns-clause-others
returns-clause-others c =
    others-then c.args.worker c.args.core.now c.take_back.new.self c.count_home.new.core c.take_back.ensures.touches.others
    (others-all c.args.worker c.take_back.new.self c.count_home.new.core c.count_home.ensures.loans)
