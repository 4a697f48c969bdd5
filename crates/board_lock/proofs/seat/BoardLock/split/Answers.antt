use Rattle.std.proofs.Common.{rules}
use Rattle.board_lock.proofs.BoardLemmas.{splits}
use Rattle.board_lock.proofs.seat.BoardLock.split.Goals as goal

pub split_seat-other-requires : goal.split_seat-other-requires
split_seat-other-requires g c = (search rules, search rules, splits _ _ _ _ _ _ (search rules) (search rules))
