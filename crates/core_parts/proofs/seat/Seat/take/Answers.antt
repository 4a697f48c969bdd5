use Rattle.std.proofs.Common.{◌≡◌, ◌+◌, ◌++◌, ap, sym, subst, map, ◌∙◌, IsSome, IfSome}
use Rattle.core_parts.specs.Seated.{with_taken}
use Rattle.core_parts.specs.declared.submitted.Submitted.{Submitted}
use Rattle.core_parts.specs.declared.submitted.Standing.TheVariants.{IsAbandoned}
use Rattle.core_parts.specs.Seats.{seat_as, AreGone, AreInTurn}
use Rattle.core_parts.proofs.GoneLemmas.{first-behind, numbers-behind, taken-behind}
use Rattle.core_parts.proofs.SeatLemmas.{numbers-stand, seat-taken, when_taken-is_waited}
use Rattle.core_parts.proofs.TurnLemmas.{first_of, next-found, turn-taken, IsNext}
use Rattle.core_parts.proofs.seat.Seat.take.Goals as goal

-- any statement
abbrev some : Submitted
some = record { number = 0; standing = IsAbandoned }

pub take_at-standing-requires : goal.take_at-standing-requires
take_at-standing-requires c =
    let statements = c.self.inside.statements.rest in
    let place = c.first_waited-place.result in
    let next : IsNext place statements =
    next-found statements _ place c.rest.ensures c.first_waited-place.ensures.waited
    (subst (λ o. IsSome o) (sym (first-behind c.self.inside.statements.gone statements c.self.invariant.1))
    (subst (λ seat. IsSome (first_of seat.items)) (sym c.self.view_is) c.requires)) in
    next.within

pub first_waited-self-inside-requires : goal.first_waited-self-inside-requires
first_waited-self-inside-requires c =
    let statements = c.self.inside.statements.rest in
    let place = c.first_waited-place.result in
    let turn : AreInTurn place statements = subst (AreInTurn place) c.rest.ensures c.first_waited-place.ensures.turn in
    let next : IsNext place statements =
    next-found statements _ place c.rest.ensures c.first_waited-place.ensures.waited
    (subst (λ o. IsSome o) (sym (first-behind c.self.inside.statements.gone statements c.self.invariant.1))
    (subst (λ seat. IsSome (first_of seat.items)) (sym c.self.view_is) c.requires)) in
    subst (AreInTurn (place + 1)) (sym (c.rest-2.ensures ∙ c.take_at-standing.ensures.after some))
    (turn-taken statements place _ next.within (when_taken-is_waited _) turn)

pub settle-requires-clause-turn : goal.settle-requires-clause-turn
settle-requires-clause-turn c = subst (AreInTurn c.first_waited-self-inside.result) c.rest-2.ensures c.first_waited-self-inside.ensures.turn

pub settle-requires-clause-gone : goal.settle-requires-clause-gone
settle-requires-clause-gone c = subst AreGone (sym c.take_at-standing.ensures.gone) c.self.invariant.1

pub returns-clause-first : goal.returns-clause-first
returns-clause-first c =
    let statements = c.self.inside.statements.rest in
    let place = c.first_waited-place.result in
    let behind = first-behind c.self.inside.statements.gone statements c.self.invariant.1 in
    let next : IsNext place statements =
    next-found statements _ place c.rest.ensures c.first_waited-place.ensures.waited
    (subst (λ o. IsSome o) (sym behind) (subst (λ seat. IsSome (first_of seat.items)) (sym c.self.view_is) c.requires)) in
    subst (λ seat. IfSome (first_of seat.items) (λ submitted. submitted.standing ≡ c.take_at-standing.result)) c.self.view_is
    (subst (λ o. IfSome o (λ submitted. submitted.standing ≡ c.take_at-standing.result)) (sym (next.found some) ∙ behind)
    (sym (c.take_at-standing.ensures.before some)))

pub returns-clause-taken : goal.returns-clause-taken
returns-clause-taken c = λ known.
    let gone = c.self.inside.statements.gone in
    let statements = c.self.inside.statements.rest in
    let place = c.first_waited-place.result in
    let turn : AreInTurn place statements = subst (AreInTurn place) c.rest.ensures c.first_waited-place.ensures.turn in
    let next : IsNext place statements =
    next-found statements _ place c.rest.ensures c.first_waited-place.ensures.waited
    (subst (λ o. IsSome o) (sym (first-behind gone statements c.self.invariant.1))
    (subst (λ seat. IsSome (first_of seat.items)) (sym c.self.view_is) c.requires)) in
    ap (seat_as known) (c.settle.ensures.items ∙ ap (λ list. list ++ c.take_at-standing.new.statements.rest) c.take_at-standing.ensures.gone)
    ∙ taken-behind known gone statements c.take_at-standing.new.statements.rest c.self.invariant.1
    (ap (seat_as known) (c.take_at-standing.ensures.after some) ∙ seat-taken known statements place some turn next.within (next.waited some))
    ∙ ap (λ seat. with_taken (seat_as known seat.items)) c.self.view_is

pub returns-clause-numbers : goal.returns-clause-numbers
returns-clause-numbers c =
    let numbers = map (λ (submitted : Submitted). submitted.number) in
    ap numbers (c.settle.ensures.items ∙ ap (λ list. list ++ c.take_at-standing.new.statements.rest) c.take_at-standing.ensures.gone)
    ∙ numbers-behind c.self.inside.statements.gone c.self.inside.statements.rest c.take_at-standing.new.statements.rest
    (ap numbers (c.take_at-standing.ensures.after some) ∙ numbers-stand c.self.inside.statements.rest c.first_waited-place.result some _)
    ∙ ap (λ seat. map (λ (submitted : Submitted). submitted.number) seat.items) c.self.view_is
