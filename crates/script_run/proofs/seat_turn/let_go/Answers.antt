-- The marks are no part of the state.
use Rattle.script_run.proofs.Words.{ap, state_of, subst, sym}
use Rattle.core_state.specs.Rows.{AbandonsRow, sight_of}
use Rattle.event_core.specs.CoreParts.{CoreParts, loan_of}
use Rattle.script_run.proofs.SeatTurnLemmas.{keeps-marked}
use Rattle.script_run.proofs.seat_turn.let_go.Goals as goal

pub returns-clause-keeps : goal.returns-clause-keeps
returns-clause-keeps c =
    keeps-marked c.args.seat c.args.core.now c.abandon_pending.new.core c.mark_closing.new.self c.abandon_pending.ensures.keeps
    (ap state_of c.mark_closing.ensures) (λ other. ap (λ (parts : CoreParts). loan_of parts other) c.mark_closing.ensures)

pub returns-clause-abandons : goal.returns-clause-abandons
returns-clause-abandons c =
    subst (λ state. AbandonsRow (sight_of (state_of c.args.core.now) c.args.seat) (sight_of state c.args.seat))
    (sym (ap state_of c.mark_closing.ensures)) c.abandon_pending.ensures.abandons

pub returns-clause-closing : goal.returns-clause-closing
returns-clause-closing c = ap (λ (parts : CoreParts). parts.marks.closing) c.mark_closing.ensures
