use Rattle.std.proofs.Common.{sym, ◌∙◌, arith}
use Rattle.std.proofs.lemmas.Option.{slice_get_past}
use Rattle.core_parts.specs.Seats.{is_waited}
use Rattle.core_parts.proofs.TurnLemmas.{find-first, find-none, turn-end, turn-more}
use Rattle.core_parts.proofs.seat.first_waited.Goals as goal

pub returns-then-is_waited-clause-waited : goal.returns-then-is_waited-clause-waited
returns-then-is_waited-clause-waited c =
    find-first (λ submitted. is_waited submitted.standing) c.args.statements.now c.loop-place.place _
    c.loop-place.invariant.none_is_waited (omega arith) (sym c.is_waited.ensures ∙ c.if-is_waited.true)

pub loop-place-preserved : goal.loop-place-preserved
loop-place-preserved c =
    turn-more c.args.statements.now c.loop-place.place _ (omega arith)
    (sym c.is_waited.ensures ∙ c.if-is_waited.false) c.loop-place.invariant

pub returns-clause-turn : goal.returns-clause-turn
returns-clause-turn c = turn-end c.args.statements.now c.loop-place.place (omega arith) c.loop-place.invariant

pub returns-clause-waited : goal.returns-clause-waited
returns-clause-waited c =
    slice_get_past c.args.statements.now _ (omega arith)
    ∙ sym (find-none (λ submitted. is_waited submitted.standing) c.args.statements.now c.loop-place.place (omega arith)
    c.loop-place.invariant.none_is_waited)
