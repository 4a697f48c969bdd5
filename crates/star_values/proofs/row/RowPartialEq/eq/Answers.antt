use Rattle.std.proofs.Common.{◌≡◌, ◌∙◌, List, rules}
use Rattle.std.specs.Ordering.{eq_by_cmp}
use Rattle.std.specs.Bool.{Decides, one_answer}
use Rattle.std.specs.Cmp.Lexicographic.{pointwise, pointwise_decides}
use Rattle.std.proofs.lemmas.Grind.{common_steps}
use Rattle.star_values.specs.declared.value.Value.{Value}
use Rattle.star_values.specs.Value.{row_cmp}
use Rattle.star_values.specs.OrderLaws.{row_cmp-decides}
use Rattle.star_values.specs.contracts.value.ValuePartialEq.TheImpl.{eq-value}
use Rattle.star_values.proofs.row.RowPartialEq.eq.Goals as goal

-- what `==` of values finds equal is the same
values : (x y : Value) → Decides (eq-value.it x y) (x ≡ y)
values x y = grind (rules, common_steps)

-- the same of rows, whose `==` compares them by their order
same_test : (xs ys : List Value) → pointwise eq-value.it xs ys ≡ eq_by_cmp row_cmp xs ys
same_test xs ys = one_answer (pointwise eq-value.it xs ys) (eq_by_cmp row_cmp xs ys) (pointwise_decides values xs ys) (row_cmp-decides xs ys)

pub returns : goal.returns
returns c =
    let here = c.as_slice.ensures.value ∙ c.self.view_is in
    let there = c.as_slice-2.ensures.value ∙ c.other.view_is in
    c.eq.ensures ∙ (λ i. pointwise eq-value.it (here i) (there i)) ∙ same_test c.args.self.now c.args.other.now
