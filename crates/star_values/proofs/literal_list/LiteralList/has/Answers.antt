use Rattle.std.proofs.Common.{ap, length, subst, sym, ◌≡◌, ◌∙◌, List}
use Rattle.std.specs.List.{list_any}
use Rattle.star_values.specs.declared.value.Value.{Value}
use Rattle.star_values.specs.Literals.{is_same}
use Rattle.star_values.proofs.LiteralLemmas.{sorted-any}
use Rattle.star_values.proofs.literal_list.LiteralList.has.Goals as goal

pub returns-else-is_empty : goal.returns-else-is_empty
returns-else-is_empty c =
    subst (λ (values : List Value). c.has_sorted.result ≡ list_any (is_same c.args.value.now) values) c.self.view_is
    (sorted-any c.self.inside.values.items c.self.inside.sorted.items c.args.value.now _ c.is_empty.result c.has_sorted.result c.self.invariant
    (sym c.as_slice-else-is_empty.ensures.len ∙ ap length c.as_slice-else-is_empty.ensures.value) c.is_empty.ensures c.if-is_empty.false
    (c.has_sorted.ensures ∙ ap (list_any (is_same c.args.value.now)) c.as_slice-else-is_empty.ensures.value))
