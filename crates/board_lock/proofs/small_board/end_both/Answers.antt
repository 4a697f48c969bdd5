use Rattle.std.proofs.Common.{arith, ◌≡◌, ℕ, List, All, ap, subst}
use Rattle.board_lock.specs.declared.view.Parted.{Parted}
use Rattle.board_lock.specs.declared.small_board.SmallBoard.{SmallBoard}
use Rattle.board_lock.specs.Seats.{view_of}
use Rattle.board_lock.specs.Small.{small_row}
use Rattle.board_lock.specs.Views.{row_in, parted_of}
use Rattle.board_lock.proofs.small_board.end_both.Goals as goal

pub returns-clause-second : goal.returns-clause-second
returns-clause-second c =
    let board : SmallBoard = c.close.result in
    let second = view_of c.args.second in
    let parted = subst (λ (ps : List (Parted SmallBoard)). All (λ p. small_row board p.number ≡ row_in small_row 0 p.last p.number) ps)
    (ap (λ view. view.joined) c.join.ensures.joined) c.close.ensures.finds.joined 0 (parted_of second) (omega arith) in
    subst (λ (n : ℕ). small_row board n ≡ row_in small_row 0 second.last n) c.args.second.numbered.1 parted
