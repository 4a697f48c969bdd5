use Rattle.std.proofs.Common.{rules, ◌≢◌, length}
use Rattle.std.proofs.lemmas.Result.{err_from_is_err_and}
use Rattle.csv.specs.Records.{fields_of}
use Rattle.csv_load.proofs.FaultLemmas.{handed_on}
use Rattle.csv_load.proofs.RowLemmas.{typed_row-uneven, value_bad, value_missing, value_more}
use Rattle.csv_load.proofs.row.typed_row.Goals as goal

pub returns-then-len-kinds-clause-bad : goal.returns-then-len-kinds-clause-bad
returns-then-len-kinds-clause-bad c = λ bad.
    let uneven : length (fields_of c.args.fields.now) ≢ length c.args.kinds.now = search rules in
    typed_row-uneven c.args.kinds.now (fields_of c.args.fields.now) uneven

pub returns-in_default-clause-bad : goal.returns-in_default-clause-bad
returns-in_default-clause-bad c = λ bad.
    value_missing _ c.args.kinds.now (fields_of c.args.fields.now) c.loop-index.index _ c.loop-index.invariant c.loop-index-test.true c.in_default.ensures.value

pub returns-in_err-field_value-clause-bad : goal.returns-in_err-field_value-clause-bad
returns-in_err-field_value-clause-bad c = λ bad.
    let failed = err_from_is_err_and c.from_residual-in_err-field_value.result c.from_residual-in_err-field_value.ensures.1 in
    value_bad _ c.args.kinds.now (fields_of c.args.fields.now) c.loop-index.index c.in-Some.field.now _ c.loop-index.invariant c.loop-index-test.true c.in-Some.ensures.value
    (c.in_err-field_value.ensures.bad (handed_on _ _ _ failed bad))

pub loop-index-preserved : goal.loop-index-preserved
loop-index-preserved c =
    value_more _ _ c.args.kinds.now (fields_of c.args.fields.now) c.loop-index.index c.in-Some.field.now c.in_ok-field_value.field-0 _
    c.loop-index.invariant c.loop-index-test.true c.in-Some.ensures.value c.in_ok-field_value.ensures.ok c.in_ok-push.ensures.items
