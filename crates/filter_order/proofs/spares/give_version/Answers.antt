use Rattle.std.proofs.Common.{subst, sym}
use Rattle.filter_order.specs.Spares.{HasPlace}
use Rattle.filter_order.proofs.spares.give_version.Goals as goal

pub put_at-requires : goal.put_at-requires
put_at-requires c =
    subst (λ dimension. HasPlace dimension c.args.seat c.args.spares.now) (sym c.dimension.ensures.value) (c.requires c.if-present.true)
