use Rattle.std.proofs.Common.{◌<◌, ◌++◌, ap, sym, subst, map, ◌∙◌}
use Rattle.std.specs.List.{AllPairs}
use Rattle.core_parts.specs.Seated.{without_pending}
use Rattle.core_parts.specs.declared.submitted.Submitted.{Submitted}
use Rattle.core_parts.specs.Seats.{seat_as, AreGone, AreInTurn}
use Rattle.core_parts.proofs.GoneLemmas.{numbers-behind, rising-behind, without-behind}
use Rattle.core_parts.proofs.seat.Seat.abandon.Goals as goal

pub abandon_in-requires : goal.abandon_in-requires
abandon_in-requires c =
    rising-behind c.self.inside.statements.gone c.self.inside.statements.rest
    (subst (λ seat. AllPairs (λ statement later. statement < later) (map (λ (submitted : Submitted). submitted.number) seat.items)) (sym c.self.view_is)
    c.requires.rising)

pub first_waited-self-inside-requires : goal.first_waited-self-inside-requires
first_waited-self-inside-requires c =
    subst (AreInTurn c.self.inside.next) (sym c.rest.ensures) (c.abandon_in.ensures.turn _ c.self.invariant.0)

pub settle-requires-clause-turn : goal.settle-requires-clause-turn
settle-requires-clause-turn c = subst (AreInTurn c.first_waited-self-inside.result) c.rest.ensures c.first_waited-self-inside.ensures.turn

pub settle-requires-clause-gone : goal.settle-requires-clause-gone
settle-requires-clause-gone c = subst AreGone (sym c.abandon_in.ensures.gone) c.self.invariant.1

pub returns-clause-abandoned : goal.returns-clause-abandoned
returns-clause-abandoned c = λ known.
    ap (seat_as known) (c.settle.ensures.items ∙ ap (λ list. list ++ c.abandon_in.new.statements.rest) c.abandon_in.ensures.gone)
    ∙ without-behind known c.args.number c.self.inside.statements.gone c.self.inside.statements.rest c.abandon_in.new.statements.rest c.self.invariant.1
    (c.abandon_in.ensures.seat known)
    ∙ ap (λ seat. without_pending c.args.number (seat_as known seat.items)) c.self.view_is

pub returns-clause-numbers : goal.returns-clause-numbers
returns-clause-numbers c =
    ap (map (λ (submitted : Submitted). submitted.number))
    (c.settle.ensures.items ∙ ap (λ list. list ++ c.abandon_in.new.statements.rest) c.abandon_in.ensures.gone)
    ∙ numbers-behind c.self.inside.statements.gone c.self.inside.statements.rest c.abandon_in.new.statements.rest c.abandon_in.ensures.numbers
    ∙ ap (λ seat. map (λ (submitted : Submitted). submitted.number) seat.items) c.self.view_is
