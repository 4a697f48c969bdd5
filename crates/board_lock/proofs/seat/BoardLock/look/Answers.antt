use Rattle.std.proofs.Common.{rules}
use Rattle.board_lock.proofs.BoardLemmas.{looks}
use Rattle.board_lock.proofs.seat.BoardLock.look.Goals as goal

pub load-requires : goal.load-requires
load-requires g c = (search rules, search rules, looks _ _ _ _ _ _ _ c.requires.first.0 c.requires.first.1)
