-- The rows of an empty core are empty, and its first seat knows it.
use Rattle.script_run.proofs.BoardSeatLemmas.{new-board, new-rows}
use Rattle.script_run.proofs.board_run.open_board.Goals as goal

pub new-requires-2 : goal.new-requires-2
new-requires-2 c = record {
  few = (c.requires.seats, c.requires.most_seats);
  empty = new-rows c.args.settings c.in_ok-core.core c.in_ok-core.ensures.state c.in_ok-core.ensures.beside;
}

pub returns-in-Ok : goal.returns-in-Ok
returns-in-Ok c =
    new-board c.args.settings c.in_ok-core.core c.in-Ok.made.0 c.in-Ok.made.1 c.in_ok-core.ensures.state
    c.in_ok-core.ensures.beside c.in-Ok.ensures.seat.0 c.in-Ok.ensures.seat.1 c.in-Ok.ensures.seat.2 c.in-Ok.ensures.lock
