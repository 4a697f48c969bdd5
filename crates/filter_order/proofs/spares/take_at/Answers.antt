use Rattle.std.proofs.Common.{◌<◌, ◌∙◌, ap, get_or, length, List, None, Option, subst, sym}
use Rattle.dimension_filter.specs.Filter.{Filter}
use Rattle.filter_order.proofs.SpareLemmas.{lent-at, written-at}
use Rattle.filter_order.proofs.spares.take_at.Goals as goal

pub take_reference-requires : goal.take_reference-requires
take_reference-requires c =
    subst (λ (list : List (Option Filter)). c.args.seat < length list)
    (sym (lent-at c.args.spares.now c.as_mut_slice.result.now c.args.dimension c.index-as_mut_slice-dimension.result c.requires.listed
    c.as_mut_slice.ensures.members)) c.requires.within

pub returns-clause-taken : goal.returns-clause-taken
returns-clause-taken c =
    c.take_reference.ensures.taken
    ∙ ap (λ (list : List (Option Filter)). get_or list c.args.seat None)
    (lent-at c.args.spares.now c.as_mut_slice.result.now c.args.dimension c.index-as_mut_slice-dimension.result c.requires.listed
    c.as_mut_slice.ensures.members)

pub returns-clause-left : goal.returns-clause-left
returns-clause-left c =
    written-at c.args.spares.now c.as_mut_slice.result.now c.args.dimension c.args.seat c.index-as_mut_slice-dimension.result
    c.take_reference.new.references None c.requires.listed c.as_mut_slice.ensures.members c.take_reference.ensures.left
