-- The tables in which the columns of a statement are looked for.
use Rattle.std.specs.Prelude.{List}
use Rattle.star_plan.specs.declared.schema.Schema.{Schema}
use Rattle.star_plan.specs.declared.table.Table.{Table}

-- some tables of a schema, in the order of FROM
pub record TablesInScope : Type 0 where
  pub schema : Schema
  pub tables : List Table
