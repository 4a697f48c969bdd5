use Rattle.std.proofs.Common.{◌≡◌, ◌∙◌, ap, arith, replicate}
use Rattle.frame_pool.proofs.StockLemmas.{all_of_one_length}
use Rattle.frame_pool.proofs.pool.Pool.new.Goals as goal

pub invariant_of-result : goal.invariant_of-result
invariant_of-result c =
    let all : c.frames.counter ≡ c.args.frames = omega arith in
    (all_of_one_length c.args.frames c.args.words _ (c.frames.invariant.0 ∙ ap (λ n. replicate n (replicate c.args.words 0)) all), c.frames.invariant.1)
