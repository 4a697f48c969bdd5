use Rattle.std.proofs.Common.{◌++◌, ◌∷◌, [], ◌∙◌, ap, append_assoc, sym, subst}
use Rattle.core_parts.specs.declared.submitted.Submitted.{Submitted}
use Rattle.core_parts.specs.Seats.{AreGone, AreInTurn}
use Rattle.core_parts.proofs.SeatLemmas.{waited-is_taken}
use Rattle.core_parts.proofs.TurnLemmas.{turn-push}
use Rattle.core_parts.proofs.seat.Seat.submit.Goals as goal

pub invariant_of-self : goal.invariant_of-self
invariant_of-self c = (
  subst (AreInTurn c.self.inside.next) (sym c.push_reserved.ensures.rest)
      (turn-push c.self.inside.statements.rest c.self.inside.next _ (waited-is_taken c.args.standing c.requires.waited) c.self.invariant.0),
  subst AreGone (sym c.push_reserved.ensures.gone) c.self.invariant.1,
)

pub returns : goal.returns
returns c =
    let one : Submitted = record { number = c.args.number; standing = c.args.standing } in
    ap (λ gone. gone ++ c.push_reserved.new.self.rest) c.push_reserved.ensures.gone
    ∙ ap (λ rest. c.self.inside.statements.gone ++ rest) c.push_reserved.ensures.rest
    ∙ sym (append_assoc c.self.inside.statements.gone c.self.inside.statements.rest (one ∷ []))
    ∙ ap (λ seat. seat.items ++ one ∷ []) c.self.view_is
