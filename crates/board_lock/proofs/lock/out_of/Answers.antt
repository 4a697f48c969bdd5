use Rattle.std.proofs.Common.{rules}
use Rattle.board_lock.proofs.lock.out_of.Goals as goal

pub unwrap-state-requires : goal.unwrap-state-requires
unwrap-state-requires g c = let is = c.requires.1 in search rules
