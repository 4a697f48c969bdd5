-- The seat is ready again, and nothing was sent by it.
use Rattle.script_run.proofs.BoardSeatLemmas.{worker-worked}
use Rattle.script_run.proofs.board_seats.work.Goals as goal

pub returns : goal.returns
returns g c =
    worker-worked c.args.board.now c.args.seat.now c.worker_loop.new.seat c.worker_loop.ensures.ready c.worker_loop.ensures.same
    c.worker_loop.ensures.passes
