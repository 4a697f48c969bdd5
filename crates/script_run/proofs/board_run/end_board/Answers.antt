-- All seats of workers were joined.
use Rattle.std.proofs.Common.{arith, length}
use Rattle.board_lock.specs.Seats.{view_of}
use Rattle.script_run.proofs.BoardCloseLemmas.{left-by}
use Rattle.script_run.proofs.board_run.end_board.Goals as goal

pub close-requires : goal.close-requires
close-requires c =
    let has = c.join_all.ensures in
    record {
      own = has.own;
      first = has.first;
      outside = has.outside;
      alone = let count = has.count in let made = has.made in omega arith;
    }

pub returns : goal.returns
returns c =
    left-by c.args.board (length c.args.workers.items) (view_of c.args.first) c.join_all.new.first c.close.result c.requires.leader.first
    c.join_all.ensures c.close.ensures.finds c.close.ensures.unmade
