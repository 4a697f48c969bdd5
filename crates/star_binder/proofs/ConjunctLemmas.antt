-- The members of an `and`, as a list, and what is said of each of them.
use Rattle.std.proofs.Common.{◌≡◌, List, [], ◌∷◌, ◌++◌, map, refl, ap, sym, ◌∙◌}
use Rattle.std.specs.List.{flat_map}
use Rattle.star_parser.specs.declared.tree.Tree.{Tree}
use Rattle.star_parser.specs.declared.tree.TreeList.{TreeList}
use Rattle.star_parser.specs.declared.tree.Tree.TheOpen as layer
use Rattle.star_parser.specs.declared.tree.Tree.TheViews as views
use Rattle.star_parser.specs.declared.tree.Tree.TheVariants.{rolls-Both}
use Rattle.star_parser.specs.declared.tree.Tree.TheFolds.{fold-roll-Tree, fold_out-TreeList}
use Rattle.star_parser.specs.Condition.{Condition, Both, condition_of, conditions, conjuncts, list_step, members, tree_step}
use Rattle.star_binder.specs.Named.{columns_in, columns_in_all, literals_in, literals_in_all}

-- conditions from a list are that list
members-conditions : (ts : List Condition) → members (conditions ts) ≡ ts
members-conditions [] = refl
members-conditions (t ∷ ts) = ap (λ more. t ∷ more) (members-conditions ts)

-- the conjuncts of an `and` are its members
pub conjuncts-Both : (tree : Tree) (list : TreeList) (found : List Tree) → tree ≡ views.Both list → found ≡ list.members.items
    → map condition_of found ≡ conjuncts (condition_of tree)
conjuncts-Both tree list found is e =
    ap (map condition_of) e ∙ sym (members-conditions (map condition_of list.members.items))
    ∙ ap conjuncts (sym (ap (λ z. Both (conditions z)) (fold_out-TreeList Condition (List Condition) tree_step list_step list)))
    ∙ ap conjuncts (sym (fold-roll-Tree Condition (List Condition) tree_step list_step (layer.Both list)))
    ∙ ap (λ t. conjuncts (condition_of t)) (sym (is ∙ sym (rolls-Both list)))

-- the columns of several conditions
pub columns_of_each : (ts : List Condition) → columns_in_all (conditions ts) ≡ flat_map columns_in ts
columns_of_each [] = refl
columns_of_each (t ∷ ts) = ap (λ more. columns_in t ++ more) (columns_of_each ts)

-- their literals
pub literals_of_each : (ts : List Condition) → literals_in_all (conditions ts) ≡ flat_map literals_in ts
literals_of_each [] = refl
literals_of_each (t ∷ ts) = ap (λ more. literals_in t ++ more) (literals_of_each ts)
