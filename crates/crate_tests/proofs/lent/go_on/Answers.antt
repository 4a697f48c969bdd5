-- The row of seat 1 is as it was.
use Rattle.std.proofs.Common.{◌<◌, ◌∙◌, ap, arith, subst, sym}
use Rattle.core_state.specs.Rows.{SeatRow}
use Rattle.core_state.specs.declared.settings.RunSettings.{RunSettings}
use Rattle.crate_tests.proofs.lent.go_on.Goals as goal

pub returns-clause-seat : goal.returns-clause-seat
returns-clause-seat c =
    subst (λ (settings : RunSettings). 1 < settings.seats)
    (sym (c.make_each-made.ensures.mindful.settings ∙ c.submit-submitted.ensures.mindful.settings)) c.requires.seat

pub returns-clause-empty : goal.returns-clause-empty
returns-clause-empty c =
    ap (λ (row : SeatRow). row.hand)
    (c.make_each-made.ensures.mindful.rows 1 (λ same. omega arith) ∙ c.submit-submitted.ensures.mindful.rows 1 (λ same. omega arith))
    ∙ c.requires.empty
