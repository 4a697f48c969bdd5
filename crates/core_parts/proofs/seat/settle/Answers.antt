use Rattle.std.proofs.Common.{◌∙◌, ◌++◌, ap, sym, subst, take}
use Rattle.core_parts.specs.Seats.{AreGone, AreInTurn}
use Rattle.core_parts.proofs.GoneLemmas.{gone-more, items-settled, turn-settled}
use Rattle.core_parts.proofs.seat.settle.Goals as goal

pub returns-then-next-rest-clause-turn : goal.returns-then-next-rest-clause-turn
returns-then-next-rest-clause-turn c =
    subst (AreInTurn 0) (sym c.forget.ensures.rest) (turn-settled c.args.statements.now.rest c.args.next.now c.requires.turn)

pub returns-then-next-rest-clause-gone : goal.returns-then-next-rest-clause-gone
returns-then-next-rest-clause-gone c =
    subst AreGone (sym c.forget.ensures.gone) (gone-more c.args.statements.now.gone c.args.statements.now.rest c.args.next.now c.requires.gone c.requires.turn)

pub returns-then-next-rest-clause-items : goal.returns-then-next-rest-clause-items
returns-then-next-rest-clause-items c =
    ap (λ gone. gone ++ c.forget.new.self.rest) c.forget.ensures.gone
    ∙ ap (λ rest. (c.args.statements.now.gone ++ take c.args.next.now c.args.statements.now.rest) ++ rest) c.forget.ensures.rest
    ∙ items-settled c.args.statements.now.gone c.args.statements.now.rest c.args.next.now
