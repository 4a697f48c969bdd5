use Rattle.std.proofs.Common.{rules}
use Rattle.board_lock.proofs.BoardLemmas.{enters}
use Rattle.board_lock.proofs.seat.BoardLock.try_turn.Goals as goal

pub compare_exchange-requires : goal.compare_exchange-requires
compare_exchange-requires g c = (search rules, search rules, enters _ _ _ _ _ _ _ c.args.seat.now.number _ (search rules) (search rules) (search rules) (search rules))
