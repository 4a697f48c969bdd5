-- A query that is open and waited for is the seat's own, and may be abandoned.
use Rattle.script_run.proofs.Words.{refl, state_of, sym}
use Rattle.script_run.proofs.SeatLetLemmas.{lets-less, lets-more, starts-letting}
use Rattle.script_run.proofs.SeatTurnLemmas.{all-loans-then}
use Rattle.script_run.proofs.seat_turn.abandon_pending.Goals as goal

pub step-requires : goal.step-requires
step-requires c = record { home = tt }

pub queries-init : goal.queries-init
queries-init c = record {
  letting = starts-letting c.args.seat (state_of c.args.core.now) c.every_core_is_sound.ensures;
  loans = λ seat. refl;
}

pub queries-smaller : goal.queries-smaller
queries-smaller c =
    lets-less c.args.seat (state_of c.args.core.now) (state_of c.queries.core) (state_of c.step.new.self) c.in-Some.query c.step.result
    c.queries.invariant.letting c.in-Some.ensures c.step.ensures.disabled c.step.ensures.memory c.step.ensures.taken

pub queries-preserved : goal.queries-preserved
queries-preserved c = record {
  letting = lets-more c.args.seat (state_of c.args.core.now) (state_of c.queries.core) (state_of c.step.new.self) c.in-Some.query c.step.result
      c.queries.invariant.letting c.in-Some.ensures c.step.ensures.disabled c.step.ensures.memory c.step.ensures.taken c.step.ensures.sound;
  loans = all-loans-then c.args.core.now c.queries.core c.step.new.self c.queries.invariant.loans
      (c.what_is_beside_stays_lent.ensures c.queries.core c.step.new.self c.step.ensures.beside);
}

pub returns-clause-keeps : goal.returns-clause-keeps
returns-clause-keeps c =
    let letting = c.queries.invariant.letting in
    record { mindful = letting.mindful; hand = letting.abandons.hand; loans = c.queries.invariant.loans }

pub returns-clause-abandons : goal.returns-clause-abandons
returns-clause-abandons c = c.queries.invariant.letting.abandons

pub returns-clause-closed : goal.returns-clause-closed
returns-clause-closed c = sym c.in_default.ensures
