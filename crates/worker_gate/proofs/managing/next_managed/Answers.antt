-- The kinds that are asked for are managed.
use Rattle.worker_gate.proofs.managing.next_managed.Goals as goal

pub next_of-requires : goal.next_of-requires
next_of-requires c = (tt, (tt, (tt, (tt, (tt, (tt, (tt, (tt, tt))))))))
