-- Small tables and queries, whose answers are known.
use Rattle.std.specs.Prelude.{ℕ, ℤ, pos, negsuc, List, [], ◌∷◌, map, None, Some, codes}
use Rattle.star_values.specs.declared.value.Value.TheVariants.{Int, Str}
use Rattle.star_plan.specs.declared.item.Item.{Item}
use Rattle.star_plan.specs.declared.item.Item.TheVariants.{Sum}
use Rattle.star_plan.specs.declared.place.Place.{Place}
use Rattle.star_plan.specs.declared.place.Place.TheVariants.{Fact, Dimension}
use Rattle.star_plan.specs.declared.predicate.How.TheVariants.{Eq, Gt}
use Rattle.star_plan.specs.Joined.{Joined}
use Rattle.star_plan.specs.Test.{Query, AllRows, Chosen, Compare}

-- a sale of some units in a store of a city, joined with its store
abbrev pub sale : ℕ → List ℕ → ℕ → Joined
sale store city units = record {
  fact = Int (pos store) ∷ Int (pos units) ∷ [];
  dimensions = (Int (pos store) ∷ Str city ∷ []) ∷ [];
}

-- store 1 in Oslo sold 5 and 10 units, and store 2 in Rome 1 and 3
abbrev pub sales : List Joined
sales =
    sale 1 (codes "Oslo") 5 ∷ sale 2 (codes "Rome") 1 ∷ sale 1 (codes "Oslo") 10
    ∷ sale 2 (codes "Rome") 3 ∷ []

-- the number of the store that sold
abbrev pub store_id : Place
store_id = Fact 0

-- the units that were sold
abbrev pub units : Place
units = Fact 1

-- the city of the store
abbrev pub city : Place
city = Dimension 0 1

-- what is asked of each group of the joined sales, without a condition
abbrev pub asked : List Place → List Item → Query
asked places items = record { fact = None; choices = AllRows ∷ []; groups = places; items = items }

-- the sales of more than 3 units in Oslo
abbrev pub more_than_three_in_oslo : Query
more_than_three_in_oslo = record {
  fact = Some (Compare 1 Gt (Int (pos 3)));
  choices = Chosen (Compare 1 Eq (Str (codes "Oslo"))) ∷ [];
  groups = [];
  items = [];
}

-- the sum of the integers, without GROUP BY
abbrev pub sum_of_all : Query
sum_of_all = asked [] (Sum (Fact 0) ∷ [])

-- -1
abbrev pub minus_one : ℤ
minus_one = negsuc 0

-- rows of one integer each
abbrev pub numbers : List ℤ → List Joined
numbers ns = map (λ n. record { fact = Int n ∷ []; dimensions = [] }) ns
