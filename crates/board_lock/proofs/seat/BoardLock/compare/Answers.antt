use Rattle.std.proofs.Common.{rules}
use Rattle.board_lock.proofs.BoardLemmas.{compares}
use Rattle.board_lock.proofs.seat.BoardLock.compare.Goals as goal

pub load-requires : goal.load-requires
load-requires g c = (search rules, search rules, compares _ _ _ _ _ _ _ c.requires.live)
