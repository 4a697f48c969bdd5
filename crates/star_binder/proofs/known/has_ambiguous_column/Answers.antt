use Rattle.std.proofs.Common.{sym, ◌∙◌, arith}
use Rattle.star_binder.specs.Places.{is_ambiguous}
use Rattle.star_binder.proofs.ListLemmas.{any_found, any_left}
use Rattle.star_binder.proofs.known.has_ambiguous_column.Goals as goal

pub returns-then-is_ambiguous : goal.returns-then-is_ambiguous
returns-then-is_ambiguous c =
    any_found (is_ambiguous c.args.scope.now) (λ column. column.now) c.args.columns.now
    c.columns.column-index c.column-item.result (omega arith) c.column-item.is (sym c.is_ambiguous.ensures ∙ c.if-is_ambiguous.true) c.columns.invariant

pub columns-preserved : goal.columns-preserved
columns-preserved c =
    any_left (is_ambiguous c.args.scope.now) (λ column. column.now) c.args.columns.now
    c.columns.column-index c.column-item.result (omega arith) c.column-item.is (sym c.is_ambiguous.ensures ∙ c.if-is_ambiguous.false) c.columns.invariant
