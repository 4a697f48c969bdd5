use Rattle.std.proofs.Common.{◌≡◌, ◌∙◌, ◌+◌, nat_lt, false, subst, sym}
use Rattle.std.specs.Prelude.{length}
use Rattle.star_plan.specs.declared.table.Table.TheVariants.{Fact}
use Rattle.star_plan.specs.Columns.{columns_of, kinds_of}
use Rattle.csv_load.specs.Records.{records_in}
use Rattle.fact_versions.specs.declared.version.TheConstants.{MAX_VERSIONS}
use Rattle.query_meaning.specs.Keyed.{plain}
use Rattle.query_meaning.specs.KeptTables.{rows_of_all, tables_of}
use Rattle.star_store.proofs.LoadLemmas.{accepted_versions, few_versions, fit_by_kinds, length_plain, not_over, tells_dangling, typed_by, versions_of_rows}
use Rattle.star_store.proofs.load.checked_versions.Goals as goal

pub versions_of-requires-clause-fit : goal.versions_of-requires-clause-fit
versions_of-requires-clause-fit c =
    fit_by_kinds c.rows_fit_by_their_kinds.ensures c.args.schema.now.fact c.in-Some.rows
    (c.rows_have_the_kinds.ensures.rows (kinds_of (columns_of c.args.schema.now Fact)) (records_in c.args.read.form.header c.args.read.block.now) c.in-Some.rows
    (typed_by _ _ (records_in c.args.read.form.header c.args.read.block.now) c.in-Some.rows c.requires.kinds (sym c.into_rows.ensures ∙ c.in-Some.is)))

pub returns-clause-rows : goal.returns-clause-rows
returns-clause-rows c = λ commits.
    let records = records_in c.args.read.form.header c.args.read.block.now in
    accepted_versions (λ versions. versions.items) c.versions_of.result
    (plain (tables_of c.args.schema.now c.args.dims.now c.args.facts.now commits)) records c.in-Some.rows c.args.commit
    (subst (λ count. nat_lt MAX_VERSIONS (count + length records) ≡ false) (c.len.ensures.count ∙ sym (length_plain c.args.facts.now.items))
    (not_over (nat_lt MAX_VERSIONS (c.len.result + length records)) (sym c.if-not-has_room.false ∙ c.has_room.ensures)))
    (typed_by _ _ records c.in-Some.rows c.requires.kinds (sym c.into_rows.ensures ∙ c.in-Some.is))
    c.versions_of.ensures.versions c.versions_of.ensures.taken

pub returns-clause-versions : goal.returns-clause-versions
returns-clause-versions c =
    versions_of_rows (λ versions. versions.items) c.versions_of.result c.args.schema.now (rows_of_all c.args.dims.now) c.in-Some.rows
    c.args.commit c.versions_of.ensures.versions

pub returns-clause-few : goal.returns-clause-few
returns-clause-few c =
    let records = records_in c.args.read.form.header c.args.read.block.now in
    few_versions (λ versions. versions.items) c.versions_of.result c.args.schema.now (rows_of_all c.args.dims.now) c.in-Some.rows
    c.args.commit MAX_VERSIONS (length c.args.facts.now.items) (length records)
    (c.each_record_is_a_row.ensures c.args.read.form.kinds records c.in-Some.rows (sym c.into_rows.ensures ∙ c.in-Some.is))
    (subst (λ count. nat_lt MAX_VERSIONS (count + length records) ≡ false) c.len.ensures.count
    (not_over (nat_lt MAX_VERSIONS (c.len.result + length records)) (sym c.if-not-has_room.false ∙ c.has_room.ensures)))
    c.versions_of.ensures.versions

pub returns-clause-tells : goal.returns-clause-tells
returns-clause-tells c = λ commits.
    let records = records_in c.args.read.form.header c.args.read.block.now in
    tells_dangling c.versions_of.result (plain (tables_of c.args.schema.now c.args.dims.now c.args.facts.now commits))
    records c.in-Some.rows
    (subst (λ count. nat_lt MAX_VERSIONS (count + length records) ≡ false) (c.len.ensures.count ∙ sym (length_plain c.args.facts.now.items))
    (not_over (nat_lt MAX_VERSIONS (c.len.result + length records)) (sym c.if-not-has_room.false ∙ c.has_room.ensures)))
    (typed_by _ _ records c.in-Some.rows c.requires.kinds (sym c.into_rows.ensures ∙ c.in-Some.is))
    c.versions_of.ensures.refused
