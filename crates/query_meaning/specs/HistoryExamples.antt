-- A small history and a query over it, whose answers are known.
use Rattle.std.specs.Prelude.{ℕ, pos, List, [], ◌∷◌, Some, None, codes}
use Rattle.star_values.specs.declared.value.Kind.TheVariants as kind
use Rattle.star_values.specs.declared.value.Value as cell
use Rattle.star_values.specs.declared.value.Value.TheVariants.{Int, Str}
use Rattle.star_plan.specs.declared.item.Item.TheVariants.{CountAll, Sum}
use Rattle.star_plan.specs.declared.place.Place.TheVariants as place
use Rattle.star_plan.specs.declared.predicate.How.TheVariants.{Eq}
use Rattle.star_plan.specs.declared.table.Table.TheVariants.{Fact, Dimension}
use Rattle.star_plan.specs.declared.table_def.TableDef.{TableDef}
use Rattle.star_plan.specs.Test.{Query, Chosen, Compare}
use Rattle.query_meaning.specs.History.{Change, DimensionDeclared, FactDeclared, Loaded, Ended}

-- dimension store (id int key, city text)
abbrev pub store : TableDef
store = record {
  name = codes "store";
  columns = record { name = codes "id"; kind = kind.Int; target = None }
      ∷ record { name = codes "city"; kind = kind.Text; target = None } ∷ [];
}

-- fact sales (store_id int references store, units int)
abbrev pub sales : TableDef
sales = record {
  name = codes "sales";
  columns = record { name = codes "store_id"; kind = kind.Int; target = Some 0 }
      ∷ record { name = codes "units"; kind = kind.Int; target = None } ∷ [];
}

-- a sale of some units in a store
abbrev pub sale : (store_id units : ℕ) → List cell.Value
sale store_id units = Int (pos store_id) ∷ Int (pos units) ∷ []

-- commit 1 loads two stores, commit 2 four sales, commit 3 ends the second sale,
-- and commit 4 loads one more
abbrev pub history : List Change
history =
    DimensionDeclared store ∷ FactDeclared sales
    ∷ Loaded (Dimension 0)
    ((Int (pos 1) ∷ Str (codes "Oslo") ∷ []) ∷ (Int (pos 2) ∷ Str (codes "Rome") ∷ []) ∷ [])
    ∷ Loaded Fact (sale 1 5 ∷ sale 2 1 ∷ sale 1 10 ∷ sale 2 3 ∷ [])
    ∷ Ended (1 ∷ []) ∷ Loaded Fact (sale 2 7 ∷ []) ∷ []

-- select count(*), sum(units) from sales, store where store_id = store.id and city = 'Rome'
abbrev pub sold_in_rome : Query
sold_in_rome = record {
  fact = None;
  choices = Chosen (Compare 1 Eq (Str (codes "Rome"))) ∷ [];
  groups = [];
  items = CountAll ∷ Sum (place.Fact 1) ∷ [];
}
