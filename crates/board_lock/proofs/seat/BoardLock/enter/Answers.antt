use Rattle.std.proofs.Common.{rules, ◌≡◌, [], ◌∷◌, Some, sym, ap, ◌∙◌}
use Rattle.atomic_table.specs.Table.{rest}
use Rattle.board_lock.proofs.seat.BoardLock.enter.Goals as goal

pub exchange-slot-requires : goal.exchange-slot-requires
exchange-slot-requires g c =
    let state = c.take_turn.ensures.took.0 in
    let out : c.take_turn.new.seat.seat.me.1 ≡ (0, Some state) ∷ [] = search rules in
    (search rules, (Some state, out ∙ ap (λ slots. (0, Some state) ∷ rest slots) (sym out)))
