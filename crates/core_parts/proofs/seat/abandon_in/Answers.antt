use Rattle.std.proofs.Common.{sym, ap, subst, refl, map, ◌∙◌}
use Rattle.core_parts.specs.declared.submitted.Submitted.{Submitted}
use Rattle.core_parts.specs.declared.submitted.Standing.TheVariants.{IsAbandoned}
use Rattle.core_parts.specs.Seats.{seat_as, AreInTurn, IsWaitedAt, NoneIsWaitedAs}
use Rattle.core_parts.proofs.SeatLemmas.{numbers-stand}
use Rattle.core_parts.proofs.TurnLemmas.{turn-abandoned}
use Rattle.core_parts.proofs.NumberLemmas.{seat-abandoned, seat-without}
use Rattle.core_parts.proofs.seat.abandon_in.Goals as goal

-- any statement
abbrev some : Submitted
some = record { number = 0; standing = IsAbandoned }

pub returns-in-Some-clause-seat : goal.returns-in-Some-clause-seat
returns-in-Some-clause-seat c = λ known.
    ap (seat_as known) (c.replace_standing.ensures.after some)
    ∙ seat-abandoned known c.args.number c.args.statements.now.rest c.in-Some.place some c.requires
    (subst (IsWaitedAt c.args.number c.in-Some.place) c.rest.ensures c.in-Some.ensures.there)

pub returns-in-Some-clause-numbers : goal.returns-in-Some-clause-numbers
returns-in-Some-clause-numbers c =
    ap (map (λ (submitted : Submitted). submitted.number)) (c.replace_standing.ensures.after some)
    ∙ numbers-stand c.args.statements.now.rest c.in-Some.place some IsAbandoned

pub returns-in-Some-clause-turn : goal.returns-in-Some-clause-turn
returns-in-Some-clause-turn c = λ next turn.
    subst (AreInTurn next) (sym (c.replace_standing.ensures.after some))
    (turn-abandoned c.args.statements.now.rest next c.in-Some.place _ refl refl turn)

pub returns-in_default-clause-seat : goal.returns-in_default-clause-seat
returns-in_default-clause-seat c = λ known.
    seat-without known c.args.number c.args.statements.now.rest
    (subst (NoneIsWaitedAs c.args.number) c.rest.ensures c.in_default.ensures.none)
