use Rattle.std.proofs.Common.{◌≡◌, ◌≤◌, replicate, vec_capacity}
use Rattle.frame_pool.proofs.pool.Pool.new.Given as goal

abbrev pub invariant-frames : goal.invariant-frames
invariant-frames l = (l.stock.items ≡ replicate l.counter (replicate l.words 0)) × (l.frames ≤ vec_capacity l.stock)
