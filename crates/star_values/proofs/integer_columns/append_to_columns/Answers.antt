use Rattle.star_values.specs.First.{HasInteger}
use Rattle.star_values.proofs.FirstLemmas.{appended_first, appended_kept, appended_next}
use Rattle.star_values.proofs.integer_columns.append_to_columns.Goals as goal

pub loop-number-preserved : goal.loop-number-preserved
loop-number-preserved c =
    appended_next HasInteger HasInteger c.args.before c.args.row.now c.args.columns.now c.loop-number.columns c.loop-number.number c.append_to_column.new.column
    c.index-columns-number.result c.append_to_column.result c.loop-number.kept c.and-kept.result c.loop-number-test.true c.and-kept.ensures
    c.append_to_column.ensures.first c.append_to_column.ensures.kept c.loop-number.invariant

pub returns-clause-first : goal.returns-clause-first
returns-clause-first c =
    appended_first HasInteger HasInteger c.args.before c.args.row.now c.args.columns.now c.loop-number.columns c.loop-number.number c.loop-number.kept
    c.loop-number-test.false c.loop-number.invariant

pub returns-clause-kept : goal.returns-clause-kept
returns-clause-kept c =
    appended_kept HasInteger HasInteger c.args.before c.args.row.now c.args.columns.now c.loop-number.columns c.loop-number.number c.loop-number.kept
    c.loop-number-test.false c.loop-number.invariant
