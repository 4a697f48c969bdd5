use Rattle.std.proofs.Common.{rules}
use Rattle.board_lock.proofs.BoardLemmas.{gives-turn}
use Rattle.board_lock.proofs.seat.BoardLock.leave.Goals as goal

pub store-requires : goal.store-requires
store-requires g c = (search rules, search rules, gives-turn _ _ _ _ _ _ _ c.args.state _ (search rules) (search rules) (search rules) (search rules) (search rules))
