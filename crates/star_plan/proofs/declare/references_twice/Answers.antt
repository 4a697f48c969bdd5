use Rattle.std.proofs.Common.{length, sym}
use Rattle.star_plan.specs.Declaration.{is_referenced_twice}
use Rattle.star_plan.proofs.ListLemmas.{any-found, any-later}
use Rattle.star_plan.proofs.declare.references_twice.Goals as goal

pub returns-then-is_referenced_twice : goal.returns-then-is_referenced_twice
returns-then-is_referenced_twice c =
    any-found (is_referenced_twice c.args.columns.now) c.dimensions.dimension c.len-count.result (length c.args.schema.now.dimensions)
    c.dimensions.invariant.0 c.dimensions-test.true (sym c.if-is_referenced_twice.ensures) c.dimensions.invariant.1

pub dimensions-preserved : goal.dimensions-preserved
dimensions-preserved c = (
  c.dimensions.invariant.0,
  any-later (is_referenced_twice c.args.columns.now) c.dimensions.dimension c.len-count.result c.dimensions-test.true
      (sym c.if-is_referenced_twice.ensures) c.dimensions.invariant.1,
)
