-- The seat is still the first one, and joined nobody.
use Rattle.script_run.proofs.BoardSeatLemmas.{leader-stays}
use Rattle.script_run.proofs.board_run.run_front.Goals as goal

pub returns-clause-run : goal.returns-clause-run
returns-clause-run g c = record {
  leader = leader-stays c.args.board.now c.args.front.now.seat c.run.new.self.seat c.run.ensures.seat;
  answers = c.run.ensures.answers;
  made = c.run.ensures.made;
  faults = c.run.ensures.faults;
}
