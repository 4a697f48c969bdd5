use Rattle.std.proofs.Common.{◌≡◌, refl, ap, arith, rules, length}
use Rattle.frame_pool.proofs.StockLemmas.{written_over}
use Rattle.frame_pool.proofs.frame.Frame.words_mut.Goals as goal

pub returns : goal.returns
returns c =
    let len : c.self.inside.words.len ≡ length c.self.inside.words.items = omega (arith, c.as_mut_slice.ensures.len, ap length c.as_mut_slice.ensures.value) in (
      (refl, λ w. written_over c.self.inside.words.items c.args.self.now w c.self.inside.words.len len c.self.view_is),
      record { writes_back = tt; value = search rules },
    )
