use Rattle.std.proofs.Common.{◌<◌, length, List, Option, Some, subst, sym}
use Rattle.dimension_filter.specs.Filter.{Filter}
use Rattle.filter_order.proofs.SpareLemmas.{lent-at, written-at}
use Rattle.filter_order.proofs.spares.put_at.Goals as goal

pub put_reference-requires : goal.put_reference-requires
put_reference-requires c =
    subst (λ (list : List (Option Filter)). c.args.seat < length list)
    (sym (lent-at c.args.spares.now c.as_mut_slice.result.now c.args.dimension c.index-as_mut_slice-dimension.result c.requires.listed
    c.as_mut_slice.ensures.members)) c.requires.within

pub returns : goal.returns
returns c =
    written-at c.args.spares.now c.as_mut_slice.result.now c.args.dimension c.args.seat c.index-as_mut_slice-dimension.result
    c.put_reference.new.references (Some c.args.reference) c.requires.listed c.as_mut_slice.ensures.members c.put_reference.ensures
