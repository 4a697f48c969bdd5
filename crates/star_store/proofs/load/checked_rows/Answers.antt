use Rattle.std.proofs.Common.{arith, ◌∙◌, subst, sym}
use Rattle.std.specs.Prelude.{All, IsSome}
use Rattle.std.proofs.lemmas.Grind.{common_steps}
use Rattle.star_plan.specs.declared.table.Table.TheVariants.{Dimension}
use Rattle.star_plan.specs.Columns.{columns_of, kinds_of}
use Rattle.csv_load.specs.Records.{records_in}
use Rattle.dimension_rows.specs.Keys.{key_of}
use Rattle.star_store.proofs.LoadLemmas.{rows_have_keys, typed_by}
use Rattle.star_store.proofs.load.checked_rows.Goals as goal

pub returns-clause-taken : goal.returns-clause-taken
returns-clause-taken c =
    let records = records_in c.args.read.form.header c.args.read.block.now in
    record {
      few = grind (arith, common_steps);
      keys = rows_have_keys c.args.schema.now c.args.number c.in-Some.rows c.requires.read.declared c.requires.read.there
          (c.rows_have_the_kinds.ensures.rows (kinds_of (columns_of c.args.schema.now (Dimension c.args.number))) records c.in-Some.rows
          (typed_by _ _ records c.in-Some.rows c.requires.read.kinds (sym c.into_rows.ensures ∙ c.in-Some.is)));
      fresh = grind (arith, common_steps);
    }

pub repeats_a_key-requires : goal.repeats_a_key-requires
repeats_a_key-requires c =
    let records = records_in c.args.read.form.header c.args.read.block.now in
    record {
      keys = subst (All (λ row. IsSome (key_of row))) (sym c.as_slice-2.ensures)
          (rows_have_keys c.args.schema.now c.args.number c.in-Some.rows c.requires.read.declared c.requires.read.there
          (c.rows_have_the_kinds.ensures.rows (kinds_of (columns_of c.args.schema.now (Dimension c.args.number))) records c.in-Some.rows
          (typed_by _ _ records c.in-Some.rows c.requires.read.kinds (sym c.into_rows.ensures ∙ c.in-Some.is))));
    }
