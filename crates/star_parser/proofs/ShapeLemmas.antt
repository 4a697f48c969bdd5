-- What a sentence stands for has the shape that the grammar says.
use Rattle.std.proofs.Common.{◌≡◌, ℕ, zero, suc, Bool, false, List, [], ◌∷◌, ◌++◌, Option, None, refl, ap, sym, subst, inl, inr}
use Rattle.std.specs.Prelude.{flat_map}
use Rattle.star_lexer.specs.declared.keyword.Keyword.TheVariants as key
use Rattle.star_lexer.specs.declared.symbol.Symbol.{Symbol}
use Rattle.star_lexer.specs.declared.symbol.Symbol.TheVariants as symbol
use Rattle.star_parser.specs.declared.ast.AstColumn.{AstColumn}
use Rattle.star_parser.specs.declared.tree.Column.{Column}
use Rattle.star_parser.specs.Condition.{Condition, Conditions, Either, Both, Negate, Test, Same, Between, OneOf, none, more, members, conditions, conjuncts, disjuncts, alone_or}
use Rattle.star_parser.specs.Statement.{Statement, Dimension, Fact, Delete}
use Rattle.star_parser.specs.Form as form
use Rattle.star_parser.specs.Form.{Form, stands_for}
use Rattle.star_parser.specs.Grammar as grammar
use Rattle.star_parser.specs.Printed.{IsNonempty, AreTwo, is_both, is_either, IsTree, AreTrees, IsTreeWhere, HaveNoTargets, IsShaped}
use Rattle.star_parser.proofs.ReadsLemmas.{after}
use Rattle.star_parser.proofs.ConditionLemmas.{tests}

separated_some : {A : Type 0} (s : Symbol) (L : Form A) (symbols : List Symbol) (values : List A) → form.separated s L symbols values → IsNonempty values
separated_some s L symbols [] m = m
separated_some s L symbols (v ∷ values) m = tt

in_bracket : {A : Type 0} (L : Form A) (symbols : List Symbol) (a : A) → grammar.bracketed L symbols a → (inner : List Symbol) × L inner a
in_bracket L symbols a m =
    let inner = m.5 in
    (inner.0, subst (L inner.0) (sym inner.5.5.1) inner.4)

in_as : {A B : Type 0} (L : Form A) (f : A → B) (symbols : List Symbol) (b : B) → form.◌>>=◌ L (λ a. stands_for (f a)) symbols b → (a : A) × (inner : List Symbol) × L inner a × (b ≡ f a)
in_as L f symbols b m = (m.2, m.0, m.4, m.5.1)

-- Conditions.

-- trees, none of them of the kind
abbrev AreMembers : (Condition → Bool) → List Condition → Type 0
AreMembers kind [] = Unit {0}
AreMembers kind (t ∷ ts) = (kind t ≡ false) × IsTree t × AreMembers kind ts

abbrev AreAllTrees : List Condition → Type 0
AreAllTrees [] = Unit {0}
AreAllTrees (t ∷ ts) = IsTree t × AreAllTrees ts

members_of_trees : (kind : Condition → Bool) (ts : Conditions) → AreTrees kind ts → AreMembers kind (members ts)
members_of_trees kind none trees = tt
members_of_trees kind (more t ts) trees = (trees.0, trees.1, members_of_trees kind ts trees.2)

trees_of_members : (kind : Condition → Bool) (ts : List Condition) → AreMembers kind ts → AreTrees kind (conditions ts)
trees_of_members kind [] trees = tt
trees_of_members kind (t ∷ ts) trees = (trees.0, trees.1, trees_of_members kind ts trees.2)

some_member : (ts : Conditions) → AreTwo ts → IsNonempty (members ts)
some_member none two = two
some_member (more t ts) two = tt

both_conjuncts : (t : Condition) → IsTree t → AreMembers is_both (conjuncts t) × IsNonempty (conjuncts t)
both_conjuncts (Both ts) tree = (members_of_trees is_both ts tree.1, some_member ts tree.0)
both_conjuncts (Either ts) tree = ((refl, tree, tt), tt)
both_conjuncts (Negate t) tree = ((refl, tree, tt), tt)
both_conjuncts (Test c h v) tree = ((refl, tree, tt), tt)
both_conjuncts (Same c d) tree = ((refl, tree, tt), tt)
both_conjuncts (Between c l h) tree = ((refl, tree, tt), tt)
both_conjuncts (OneOf c vs) tree = ((refl, tree, tt), tt)

either_disjuncts : (t : Condition) → IsTree t → AreMembers is_either (disjuncts t) × IsNonempty (disjuncts t)
either_disjuncts (Either ts) tree = (members_of_trees is_either ts tree.1, some_member ts tree.0)
either_disjuncts (Both ts) tree = ((refl, tree, tt), tt)
either_disjuncts (Negate t) tree = ((refl, tree, tt), tt)
either_disjuncts (Test c h v) tree = ((refl, tree, tt), tt)
either_disjuncts (Same c d) tree = ((refl, tree, tt), tt)
either_disjuncts (Between c l h) tree = ((refl, tree, tt), tt)
either_disjuncts (OneOf c vs) tree = ((refl, tree, tt), tt)

members_append : (kind : Condition → Bool) (ts us : List Condition) → AreMembers kind ts → AreMembers kind us → AreMembers kind (ts ++ us)
members_append kind [] us trees others = others
members_append kind (t ∷ ts) us trees others = (trees.0, trees.1, members_append kind ts us trees.2 others)

flat_members : (kind : Condition → Bool) (f : Condition → List Condition) → ((t : Condition) → IsTree t → AreMembers kind (f t) × IsNonempty (f t))
    → (ts : List Condition) → AreAllTrees ts → AreMembers kind (flat_map f ts)
flat_members kind f each [] trees = tt
flat_members kind f each (t ∷ ts) trees = members_append kind (f t) (flat_map f ts) (each t trees.0).0 (flat_members kind f each ts trees.1)

nonempty_append : (ts us : List Condition) → IsNonempty ts → IsNonempty (ts ++ us)
nonempty_append [] us some = absurd some
nonempty_append (t ∷ ts) us some = tt

flat_some : (kind : Condition → Bool) (f : Condition → List Condition) → ((t : Condition) → IsTree t → AreMembers kind (f t) × IsNonempty (f t))
    → (ts : List Condition) → AreAllTrees ts → IsNonempty ts → IsNonempty (flat_map f ts)
flat_some kind f each [] trees some = some
flat_some kind f each (t ∷ ts) trees some = nonempty_append (f t) (flat_map f ts) (each t trees.0).1

alone_tree : (kind : Condition → Bool) (join : Conditions → Condition) → ((ts : Conditions) → AreTwo ts → AreTrees kind ts → IsTree (join ts))
    → (ts : List Condition) → AreMembers kind ts → IsNonempty ts → IsTree (alone_or join ts)
alone_tree kind join joined [] trees some = absurd some
alone_tree kind join joined (t ∷ []) trees some = trees.1
alone_tree kind join joined (t ∷ u ∷ ts) trees some = joined (conditions (t ∷ u ∷ ts)) tt (trees_of_members kind (t ∷ u ∷ ts) trees)

separated_trees : (s : Symbol) (L : Form Condition) → ((symbols : List Symbol) (t : Condition) → L symbols t → IsTree t)
    → (symbols : List Symbol) (ts : List Condition) → form.separated s L symbols ts → AreAllTrees ts
separated_trees s L each symbols [] m = tt
separated_trees s L each symbols (t ∷ []) m = (each symbols t m, tt)
separated_trees s L each symbols (t ∷ u ∷ ts) m = (each m.0 t m.3, separated_trees s L each m.1 (u ∷ ts) m.4)

all_tree : (L : Form Condition) → ((symbols : List Symbol) (t : Condition) → L symbols t → IsTree t) → (symbols : List Symbol) (t : Condition) → grammar.all_of L symbols t → IsTree t
all_tree L each symbols t m =
    let trees = separated_trees (symbol.Keyword key.And) L each m.0 m.2 m.4 in
    let some = separated_some (symbol.Keyword key.And) L m.0 m.2 m.4 in
    subst IsTree (sym m.5.1)
    (alone_tree is_both Both (λ ts two h. (two, h)) (flat_map conjuncts m.2) (flat_members is_both conjuncts both_conjuncts m.2 trees) (flat_some is_both conjuncts both_conjuncts m.2 trees some))

any_tree : (L : Form Condition) → ((symbols : List Symbol) (t : Condition) → L symbols t → IsTree t) → (symbols : List Symbol) (t : Condition) → grammar.any_of L symbols t → IsTree t
any_tree L each symbols t m =
    let trees = separated_trees (symbol.Keyword key.Or) (grammar.all_of L) (all_tree L each) m.0 m.2 m.4 in
    let some = separated_some (symbol.Keyword key.Or) (grammar.all_of L) m.0 m.2 m.4 in
    subst IsTree (sym m.5.1)
    (alone_tree is_either Either (λ ts two h. (two, h)) (flat_map disjuncts m.2) (flat_members is_either disjuncts either_disjuncts m.2 trees) (flat_some is_either disjuncts either_disjuncts m.2 trees some))

compared_tree : (c : Column) (h : _) (symbols : List Symbol) (t : Condition) → grammar.compared c h symbols t → IsTree t
compared_tree c h symbols t m = subst IsTree (sym m.5.1) tt

ranged_tree : (c : Column) (symbols : List Symbol) (t : Condition) → grammar.ranged c symbols t → IsTree t
ranged_tree c symbols t (inl m) = subst IsTree (sym m.5.5.5.5.1) tt
ranged_tree c symbols t (inr m) =
    let values = in_as (grammar.bracketed (form.separated grammar.comma form.literal)) (OneOf c) m.1 t m.5 in
    let listed = in_bracket (form.separated grammar.comma form.literal) values.1 values.0 values.2 in
    subst IsTree (sym values.3) (separated_some grammar.comma form.literal listed.0 values.0 listed.1)

tests_tree : (c : Column) (symbols : List Symbol) (t : Condition) → tests c symbols t → IsTree t
tests_tree c symbols t (inl (f, b, u, cut, s, inl k)) = subst IsTree (sym k.5.1) tt
tests_tree c symbols t (inl (f, b, u, cut, s, inr k)) = subst IsTree (sym k.5.1) tt
tests_tree c symbols t (inr (inl k)) = compared_tree c _ k.1 t k.5
tests_tree c symbols t (inr (inr (inl k))) = compared_tree c _ k.1 t k.5
tests_tree c symbols t (inr (inr (inr (inl k)))) = compared_tree c _ k.1 t k.5
tests_tree c symbols t (inr (inr (inr (inr (inl k))))) = compared_tree c _ k.1 t k.5
tests_tree c symbols t (inr (inr (inr (inr (inr (inl k)))))) = compared_tree c _ k.1 t k.5
tests_tree c symbols t (inr (inr (inr (inr (inr (inr (inl k))))))) = subst IsTree (sym k.5.5.1) (ranged_tree c k.5.0 k.5.2 k.5.4)
tests_tree c symbols t (inr (inr (inr (inr (inr (inr (inr k))))))) = ranged_tree c symbols t k

test_tree : (symbols : List Symbol) (t : Condition) → grammar.test symbols t → IsTree t
test_tree symbols t m = tests_tree m.2 m.1 t m.5

one_tree : (depth : ℕ) (symbols : List Symbol) (t : Condition) → grammar.one_within depth symbols t → IsTree t
one_tree zero symbols t m = test_tree symbols t m
one_tree (suc depth) symbols t (inl m) = subst IsTree (sym m.5.5.1) (one_tree depth m.5.0 m.5.2 m.5.4)
one_tree (suc depth) symbols t (inr (inl m)) =
    let inner = in_bracket (grammar.any_of (grammar.one_within depth)) symbols t m in
    any_tree (grammar.one_within depth) (one_tree depth) inner.0 t inner.1
one_tree (suc depth) symbols t (inr (inr m)) = test_tree symbols t m

where_tree : (symbols : List Symbol) (kept : Option Condition) → grammar.where_part symbols kept → IsTreeWhere kept
where_tree symbols kept (inr m) = subst IsTreeWhere (sym m.1) tt
where_tree symbols kept (inl m) =
    let t = m.5.2 in
    subst IsTreeWhere (sym m.5.5.1) (any_tree (grammar.one_within m.5.4.0) (one_tree m.5.4.0) m.5.0 t m.5.4.1)

-- Declarations.

plain_untargeted : (symbols : List Symbol) (c : AstColumn) → grammar.plain_column symbols c → c.references ≡ None
plain_untargeted symbols c m = ap (λ z. z.references) m.5.5.1

separated_untargeted : (symbols : List Symbol) (columns : List AstColumn) → form.separated grammar.comma grammar.plain_column symbols columns → HaveNoTargets columns
separated_untargeted symbols [] m = tt
separated_untargeted symbols (c ∷ []) m = (plain_untargeted symbols c m, tt)
separated_untargeted symbols (c ∷ d ∷ columns) m = (plain_untargeted m.0 c m.3, separated_untargeted m.1 (d ∷ columns) m.4)

others_untargeted : (symbols : List Symbol) (columns : List AstColumn)
    → form.◌or◌ (after grammar.comma (form.separated grammar.comma grammar.plain_column)) (stands_for []) symbols columns → HaveNoTargets columns
others_untargeted symbols columns (inl m) = separated_untargeted m.1 columns m.5
others_untargeted symbols columns (inr m) = subst HaveNoTargets (sym m.1) tt

columns_shaped : (symbols : List Symbol) (columns : List AstColumn) → grammar.dimension_columns symbols columns → IsNonempty columns × HaveNoTargets columns
columns_shaped symbols columns m =
    let others = m.5.5 in
    subst (λ z. IsNonempty z × HaveNoTargets z) (sym others.5.1)
    (tt, (plain_untargeted m.0 m.2 m.4, others_untargeted others.0 others.2 others.4))

-- Statements.

statement_shaped : (symbols : List Symbol) (meaning : Statement) → grammar.statement symbols meaning → IsShaped meaning
statement_shaped symbols meaning (inl m) =
    let d = m.5 in
    let columns = in_as (grammar.bracketed grammar.dimension_columns) (Dimension d.2) d.1 meaning d.5 in
    let inner = in_bracket grammar.dimension_columns columns.1 columns.0 columns.2 in
    subst IsShaped (sym columns.3) (columns_shaped inner.0 columns.0 inner.1)
statement_shaped symbols meaning (inr (inl m)) =
    let f = m.5 in
    let columns = in_as (grammar.bracketed (form.separated grammar.comma grammar.fact_column)) (Fact f.2) f.1 meaning f.5 in
    let inner = in_bracket (form.separated grammar.comma grammar.fact_column) columns.1 columns.0 columns.2 in
    subst IsShaped (sym columns.3) (separated_some grammar.comma grammar.fact_column inner.0 columns.0 inner.1)
statement_shaped symbols meaning (inr (inr (inl m))) = subst IsShaped (sym m.5.5.5.1) tt
statement_shaped symbols meaning (inr (inr (inr (inl m)))) =
    let d = m.5.5 in
    let kept = in_as grammar.where_part (Delete d.2) d.1 meaning d.5 in
    subst IsShaped (sym kept.3) (where_tree kept.1 kept.0 kept.2)
statement_shaped symbols meaning (inr (inr (inr (inr (inl m))))) =
    let items = m.5 in
    let tables = items.5.5 in
    let kept = tables.5 in
    let groups = kept.5 in
    subst IsShaped (sym groups.5.1)
    (separated_some grammar.comma grammar.item items.0 items.2 items.4, separated_some grammar.comma form.name tables.0 tables.2 tables.4, where_tree kept.0 kept.2 kept.4)
statement_shaped symbols meaning (inr (inr (inr (inr (inr m))))) = subst IsShaped (sym m.5.1) tt

-- what a sentence stands for has its shape
pub sentence_shaped : (symbols : List Symbol) (meaning : Statement) → grammar.sentence symbols meaning → IsShaped meaning
sentence_shaped symbols meaning m = subst IsShaped (sym m.5.5.1) (statement_shaped m.0 m.2 m.4)
