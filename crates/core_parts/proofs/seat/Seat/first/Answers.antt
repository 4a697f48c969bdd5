use Rattle.std.proofs.Common.{ap, find, option_and_then, ◌∙◌}
use Rattle.core_parts.specs.declared.submitted.Submitted.{Submitted}
use Rattle.core_parts.specs.Seats.{is_waited, pending_as}
use Rattle.core_parts.proofs.GoneLemmas.{first-behind}
use Rattle.core_parts.proofs.SeatLemmas.{pending-first}
use Rattle.core_parts.proofs.seat.Seat.first.Goals as goal

pub returns-clause-first : goal.returns-clause-first
returns-clause-first c =
    c.first_in.ensures
    ∙ ap (find (λ (submitted : Submitted). is_waited submitted.standing)) c.rest.ensures
    ∙ first-behind c.self.inside.statements.gone c.self.inside.statements.rest c.self.invariant.1
    ∙ ap (λ seat. find (λ (submitted : Submitted). is_waited submitted.standing) seat.items) c.self.view_is

pub returns-clause-pending : goal.returns-clause-pending
returns-clause-pending c = λ known.
    ap (option_and_then (pending_as known)) (returns-clause-first c) ∙ pending-first known c.args.self.now.items
