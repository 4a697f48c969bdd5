use Rattle.std.proofs.Common.{◌∙◌, ap, None, refl, subst, sym}
use Rattle.std.specs.Option.{IsSome}
use Rattle.std.proofs.lemmas.Option.{same_Some}
use Rattle.filter_order.specs.Spares.{HasPlace, spare_at, with_spare}
use Rattle.filter_order.proofs.SpareLemmas.{place-of}
use Rattle.filter_order.proofs.spares.take_version.Goals as goal

pub take_at-requires : goal.take_at-requires
take_at-requires c =
    subst (λ dimension. HasPlace dimension c.args.seat c.args.spares.now) (sym c.dimension.ensures.value)
    (place-of c.args.version.now.filter.dimension c.args.seat c.args.version.now.filter c.args.spares.now c.requires)

pub unwrap-reference-requires : goal.unwrap-reference-requires
unwrap-reference-requires c =
    subst IsSome
    (sym (c.take_at.ensures.taken ∙ ap (λ dimension. spare_at c.args.spares.now dimension c.args.seat) c.dimension.ensures.value
    ∙ c.requires)) refl

pub another-requires : goal.another-requires
another-requires c =
    same_Some c.unwrap-reference.result c.args.version.now.filter
    (sym c.unwrap-reference.ensures ∙ c.take_at.ensures.taken
    ∙ ap (λ dimension. spare_at c.args.spares.now dimension c.args.seat) c.dimension.ensures.value ∙ c.requires)

pub returns-clause-left : goal.returns-clause-left
returns-clause-left c =
    c.take_at.ensures.left ∙ ap (λ dimension. with_spare dimension c.args.seat None c.args.spares.now) c.dimension.ensures.value
