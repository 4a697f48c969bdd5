-- The members of an `and` or an `or`.
use Rattle.std.proofs.Common.{◌≡◌, List, [], ◌∷◌, ◌++◌, length, map, refl, ap, sym, subst, ◌∙◌}
use Rattle.std.proofs.lemmas.List.{map-append}
use Rattle.star_parser.specs.declared.tree.Tree.{Tree}
use Rattle.star_parser.specs.declared.tree.TreeList.{TreeList}
use Rattle.star_parser.specs.declared.tree.Tree.TheOpen as layer
use Rattle.star_parser.specs.declared.tree.Tree.TheViews as views
use Rattle.star_parser.specs.declared.tree.Tree.TheViews.{out-Tree, roll-Tree, out-roll-Tree, roll-out-Tree}
use Rattle.star_parser.specs.declared.tree.Tree.TheVariants as variants
use Rattle.star_parser.specs.declared.tree.Tree.TheFolds.{fold-roll-Tree, fold_out-TreeList}
use Rattle.star_parser.specs.Condition.{Condition, Conditions, Either, Both, conditions, members, conjuncts, disjuncts, alone_or, condition_of, tree_step, list_step}

-- a list of conditions and back
pub members-conditions : (ts : List Condition) → members (conditions ts) ≡ ts
members-conditions [] = refl
members-conditions (t ∷ ts) = ap (λ z. t ∷ z) (members-conditions ts)

-- two or more, or none, do not stand for one of them
pub alone_or-many : {A : Type 0} (f : A → Condition) (join : Conditions → Condition) (items : List A) → (length items ≡ 1 → ⊥) → alone_or join (map f items) ≡ join (conditions (map f items))
alone_or-many f join [] other = refl
alone_or-many f join (t ∷ []) other = absurd (other refl)
alone_or-many f join (t ∷ u ∷ items) other = refl

pub added-conjuncts : {A : Type 0} (f : A → Condition) (old new more : List A) (tree : Condition) → new ≡ old ++ more → tree ≡ Both (conditions (map f more))
    → map f new ≡ map f old ++ conjuncts tree
added-conjuncts f old new more tree added both =
    ap (map f) added ∙ map-append f old more ∙ ap (λ z. map f old ++ z) (sym (members-conditions (map f more))) ∙ ap (λ z. map f old ++ conjuncts z) (sym both)

pub added-disjuncts : {A : Type 0} (f : A → Condition) (old new more : List A) (tree : Condition) → new ≡ old ++ more → tree ≡ Either (conditions (map f more))
    → map f new ≡ map f old ++ disjuncts tree
added-disjuncts f old new more tree added either =
    ap (map f) added ∙ map-append f old more ∙ ap (λ z. map f old ++ z) (sym (members-conditions (map f more))) ∙ ap (λ z. map f old ++ disjuncts z) (sym either)

pub both_by : (t : Tree) (ts : TreeList) → t ≡ views.Both ts → condition_of t ≡ Both (conditions (map condition_of ts.members.items))
both_by t ts is = ap condition_of (is ∙ sym (variants.rolls-Both ts)) ∙ fold-roll-Tree Condition (List Condition) tree_step list_step (layer.Both ts)
    ∙ ap (λ z. Both (conditions z)) (fold_out-TreeList Condition (List Condition) tree_step list_step ts)

pub either_by : (t : Tree) (ts : TreeList) → t ≡ views.Either ts → condition_of t ≡ Either (conditions (map condition_of ts.members.items))
either_by t ts is = ap condition_of (is ∙ sym (variants.rolls-Either ts)) ∙ fold-roll-Tree Condition (List Condition) tree_step list_step (layer.Either ts)
    ∙ ap (λ z. Either (conditions z)) (fold_out-TreeList Condition (List Condition) tree_step list_step ts)

conjunct_layer : (l : layer.Tree-F Tree _) → ((ts : TreeList) → roll-Tree l ≡ views.Both ts → ⊥) → conjuncts (condition_of (roll-Tree l)) ≡ condition_of (roll-Tree l) ∷ []
conjunct_layer (layer.Either ts) other = subst (λ z. conjuncts z ≡ z ∷ []) (sym (fold-roll-Tree Condition (List Condition) tree_step list_step (layer.Either ts))) refl
conjunct_layer (layer.Both ts) other = absurd (other ts (variants.rolls-Both ts))
conjunct_layer (layer.Negate t) other = subst (λ z. conjuncts z ≡ z ∷ []) (sym (fold-roll-Tree Condition (List Condition) tree_step list_step (layer.Negate t))) refl
conjunct_layer (layer.Test c h v) other = subst (λ z. conjuncts z ≡ z ∷ []) (sym (fold-roll-Tree Condition (List Condition) tree_step list_step (layer.Test c h v))) refl
conjunct_layer (layer.Same c d) other = subst (λ z. conjuncts z ≡ z ∷ []) (sym (fold-roll-Tree Condition (List Condition) tree_step list_step (layer.Same c d))) refl
conjunct_layer (layer.Between c l h) other = subst (λ z. conjuncts z ≡ z ∷ []) (sym (fold-roll-Tree Condition (List Condition) tree_step list_step (layer.Between c l h))) refl
conjunct_layer (layer.OneOf c vs) other = subst (λ z. conjuncts z ≡ z ∷ []) (sym (fold-roll-Tree Condition (List Condition) tree_step list_step (layer.OneOf c vs))) refl

pub added-conjunct : (old new : List Tree) (t : Tree) → new ≡ old ++ t ∷ [] → ((ts : TreeList) → t ≡ views.Both ts → ⊥) → map condition_of new ≡ map condition_of old ++ conjuncts (condition_of t)
added-conjunct old new t added other =
    let by = subst (λ z. ((ts : TreeList) → z ≡ views.Both ts → ⊥) → conjuncts (condition_of z) ≡ condition_of z ∷ []) (roll-out-Tree t) (conjunct_layer (out-Tree t)) in
    ap (map condition_of) added ∙ map-append condition_of old (t ∷ []) ∙ ap (λ z. map condition_of old ++ z) (sym (by other))

disjunct_layer : (l : layer.Tree-F Tree _) → ((ts : TreeList) → roll-Tree l ≡ views.Either ts → ⊥) → disjuncts (condition_of (roll-Tree l)) ≡ condition_of (roll-Tree l) ∷ []
disjunct_layer (layer.Either ts) other = absurd (other ts (variants.rolls-Either ts))
disjunct_layer (layer.Both ts) other = subst (λ z. disjuncts z ≡ z ∷ []) (sym (fold-roll-Tree Condition (List Condition) tree_step list_step (layer.Both ts))) refl
disjunct_layer (layer.Negate t) other = subst (λ z. disjuncts z ≡ z ∷ []) (sym (fold-roll-Tree Condition (List Condition) tree_step list_step (layer.Negate t))) refl
disjunct_layer (layer.Test c h v) other = subst (λ z. disjuncts z ≡ z ∷ []) (sym (fold-roll-Tree Condition (List Condition) tree_step list_step (layer.Test c h v))) refl
disjunct_layer (layer.Same c d) other = subst (λ z. disjuncts z ≡ z ∷ []) (sym (fold-roll-Tree Condition (List Condition) tree_step list_step (layer.Same c d))) refl
disjunct_layer (layer.Between c l h) other = subst (λ z. disjuncts z ≡ z ∷ []) (sym (fold-roll-Tree Condition (List Condition) tree_step list_step (layer.Between c l h))) refl
disjunct_layer (layer.OneOf c vs) other = subst (λ z. disjuncts z ≡ z ∷ []) (sym (fold-roll-Tree Condition (List Condition) tree_step list_step (layer.OneOf c vs))) refl

pub added-disjunct : (old new : List Tree) (t : Tree) → new ≡ old ++ t ∷ [] → ((ts : TreeList) → t ≡ views.Either ts → ⊥) → map condition_of new ≡ map condition_of old ++ disjuncts (condition_of t)
added-disjunct old new t added other =
    let by = subst (λ z. ((ts : TreeList) → z ≡ views.Either ts → ⊥) → disjuncts (condition_of z) ≡ condition_of z ∷ []) (roll-out-Tree t) (disjunct_layer (out-Tree t)) in
    ap (map condition_of) added ∙ map-append condition_of old (t ∷ []) ∙ ap (λ z. map condition_of old ++ z) (sym (by other))
