use Rattle.std.proofs.Common.{rules}
use Rattle.board_lock.proofs.BoardLemmas.{joins}
use Rattle.board_lock.proofs.seat.BoardLock.join.Goals as goal

pub join_seat-requires : goal.join_seat-requires
join_seat-requires g c =
    (search rules, search rules, search rules, search rules, joins _ _ _ _ _ _ _ _ (search rules) (search rules) (search rules) (search rules))
