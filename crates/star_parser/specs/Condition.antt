-- The condition of a WHERE, without where it lies in memory.
use Rattle.std.specs.Prelude.{List, [], ◌∷◌, flat_map}
use Rattle.star_values.specs.declared.value.Value.{Value}
use Rattle.star_parser.specs.declared.tree.Column.{Column}
use Rattle.star_parser.specs.declared.tree.Relation.{Relation}
use Rattle.star_parser.specs.declared.tree.Tree.{Tree}
use Rattle.star_parser.specs.declared.tree.Tree.TheOpen as layer
use Rattle.star_parser.specs.declared.tree.Tree.TheFolds.{fold-Tree}

mutual
  -- a condition on rows
  pub data Condition : Type 0 where
    Either : Conditions → Condition
    Both : Conditions → Condition
    Negate : Condition → Condition
    Test : Column → Relation → Value → Condition
    Same : Column → Column → Condition
    Between : Column → Value → Value → Condition
    OneOf : Column → List Value → Condition

  -- the members of an `and` or an `or`
  pub data Conditions : Type 0 where
    none : Conditions
    more : Condition → Conditions → Conditions

-- the members of an `and` or an `or`, from a list and as a list
abbrev pub conditions : List Condition → Conditions
conditions [] = none
conditions (t ∷ ts) = more t (conditions ts)

-- the conditions of such a list, one after the other
abbrev pub members : Conditions → List Condition
members none = []
members (more t ts) = t ∷ members ts

-- the members of an `and`; every other condition is its own only one
abbrev pub conjuncts : Condition → List Condition
conjuncts (Both ts) = members ts
conjuncts (Either ts) = Either ts ∷ []
conjuncts (Negate t) = Negate t ∷ []
conjuncts (Test c how v) = Test c how v ∷ []
conjuncts (Same c d) = Same c d ∷ []
conjuncts (Between c low high) = Between c low high ∷ []
conjuncts (OneOf c vs) = OneOf c vs ∷ []

-- the members of an `or`; every other condition is its own only one
abbrev pub disjuncts : Condition → List Condition
disjuncts (Either ts) = members ts
disjuncts (Both ts) = Both ts ∷ []
disjuncts (Negate t) = Negate t ∷ []
disjuncts (Test c how v) = Test c how v ∷ []
disjuncts (Same c d) = Same c d ∷ []
disjuncts (Between c low high) = Between c low high ∷ []
disjuncts (OneOf c vs) = OneOf c vs ∷ []

-- one alone stands for itself
abbrev pub alone_or : (Conditions → Condition) → List Condition → Condition
alone_or join [] = join none
alone_or join (t ∷ []) = t
alone_or join (t ∷ u ∷ ts) = join (conditions (t ∷ u ∷ ts))

-- conditions with `and` between: an `and` among them hands on its members
abbrev pub both_of : List Condition → Condition
both_of ts = alone_or Both (flat_map conjuncts ts)

-- the same with `or`
abbrev pub either_of : List Condition → Condition
either_of ts = alone_or Either (flat_map disjuncts ts)

-- one layer of a tree, with the conditions of its children in their places
abbrev pub tree_step : layer.Tree-F Condition (List Condition) → Condition
tree_step (layer.Either ts) = Either (conditions ts)
tree_step (layer.Both ts) = Both (conditions ts)
tree_step (layer.Negate t) = Negate t.value
tree_step (layer.Test c how v) = Test c how v
tree_step (layer.Same c d) = Same c d
tree_step (layer.Between c low high) = Between c low high
tree_step (layer.OneOf c vs) = OneOf c vs

-- the conditions of a list of trees
abbrev pub list_step : layer.TreeList-F Condition (List Condition) → List Condition
list_step list = list.members.items

-- the condition that a tree is
abbrev pub condition_of : Tree → Condition
condition_of = fold-Tree Condition (List Condition) tree_step list_step
