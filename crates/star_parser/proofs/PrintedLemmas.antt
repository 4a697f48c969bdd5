-- What is printed of a statement is a sentence that stands for it.
use Rattle.std.proofs.Common.{◌≡◌, ℕ, zero, suc, ◌≤◌, max, Bool, true, false, List, [], ◌∷◌, ◌++◌, Option, Some, None, refl, ap, sym, subst, ◌∙◌, arith, append-nil, inl, inr}
use Rattle.std.specs.Prelude.{flat_map}
use Rattle.star_values.specs.declared.value.Kind.{Kind}
use Rattle.star_values.specs.declared.value.Kind.TheVariants as kinds
use Rattle.star_values.specs.declared.value.Value.{Value}
use Rattle.star_lexer.specs.declared.keyword.Keyword.TheVariants as key
use Rattle.star_lexer.specs.declared.sign.Sign.TheVariants as mark
use Rattle.star_lexer.specs.declared.symbol.Symbol.{Symbol}
use Rattle.star_lexer.specs.declared.symbol.Symbol.TheVariants as symbol
use Rattle.star_parser.specs.declared.ast.AstColumn.{AstColumn}
use Rattle.star_parser.specs.declared.ast.AstItem.{AstItem}
use Rattle.star_parser.specs.declared.ast.AstItem.TheVariants as items
use Rattle.star_parser.specs.declared.tree.Column.{Column}
use Rattle.star_parser.specs.declared.tree.Relation.{Relation}
use Rattle.star_parser.specs.declared.tree.Relation.TheVariants as how
use Rattle.star_parser.specs.Condition.{Condition, Conditions, Either, Both, Negate, Test, Same, Between, OneOf, none, more, members, conditions, conjuncts, disjuncts, alone_or, both_of, either_of}
use Rattle.star_parser.specs.Statement.{Statement, Dimension, Fact, Load, Delete, Select, Wait}
use Rattle.star_parser.specs.Form as form
use Rattle.star_parser.specs.Form.{Form, stands_for}
use Rattle.star_parser.specs.Grammar as grammar
use Rattle.star_parser.specs.Grammar.{comma, one_within, all_of, any_of}
use Rattle.star_parser.specs.Printed.{in_brackets, joined, name_symbols, literal_symbols, dotted_symbols, column_symbols, test_symbols, one_symbols, all_symbols, both_symbols, either_symbols, any_symbols, where_symbols, group_symbols, item_symbols, kind_symbol, target_symbols, declared_symbols, dimension_column_symbols, header_symbols, statement_symbols, IsNonempty, AreTwo, is_both, is_either, IsTree, AreTrees, IsTreeWhere, HaveNoTargets, IsShaped}
use Rattle.star_parser.proofs.ReadsLemmas.{after, true_false}

after_is : {A : Type 0} (L : Form A) (s : Symbol) (symbols : List Symbol) (a : A) → L symbols a → after s L (s ∷ symbols) a
after_is L s symbols a l = (s ∷ [], symbols, tt, refl, refl, l)

as_is : {A B : Type 0} (L : Form A) (f : A → B) (symbols : List Symbol) (a : A) → L symbols a → form.◌>>=◌ L (λ b. stands_for (f b)) symbols (f a)
as_is L f symbols a l = (symbols, [], a, sym (append-nil symbols), l, (refl, refl))

bracketed_is : {A : Type 0} (L : Form A) (symbols : List Symbol) (a : A) → L symbols a → grammar.bracketed L (in_brackets symbols) a
bracketed_is L symbols a l = (
  symbol.Sign mark.Open ∷ [],
  symbols ++ symbol.Sign mark.Close ∷ [],
  tt,
  refl,
  refl,
  (symbols, symbol.Sign mark.Close ∷ [], a, refl, l, (symbol.Sign mark.Close ∷ [], [], tt, refl, refl, (refl, refl))),
)

joined_is : {A : Type 0} (s : Symbol) (print : A → List Symbol) (L : Form A) → ((a : A) → L (print a) a) → (values : List A) → IsNonempty values
    → form.separated s L (joined s print values) values
joined_is s print L each [] some = absurd some
joined_is s print L each (v ∷ []) some = subst (λ z. L z v) (sym (append-nil (print v))) (each v)
joined_is s print L each (v ∷ w ∷ values) some = (print v, joined s print (w ∷ values), refl, each v, joined_is s print L each (w ∷ values) tt)

-- Columns and items.

dotted_is : (table : Option (List ℕ)) (name : List ℕ) → grammar.column (dotted_symbols table name) (record { table = table; name = name })
dotted_is None name = (symbol.Name name ∷ [], [], name, refl, refl, ([], [], None, refl, inr (refl, refl), (refl, refl)))
dotted_is (Some table) name = (
  symbol.Name table ∷ [],
  symbol.Sign mark.Dot ∷ symbol.Name name ∷ [],
  table,
  refl,
  refl,
  (
    symbol.Sign mark.Dot ∷ symbol.Name name ∷ [],
    [],
    Some name,
    refl,
    inl (symbol.Sign mark.Dot ∷ [], symbol.Name name ∷ [], tt, refl, refl, (symbol.Name name ∷ [], [], name, refl, refl, (refl, refl))),
    (refl, refl),
  ),
)

column_is : (c : Column) → grammar.column (column_symbols c) c
column_is c = dotted_is c.table c.name

item_is : (item : AstItem) → grammar.item (item_symbols item) item
item_is (items.Plain c) = inr (inr (inr (inr (as_is grammar.column items.Plain (column_symbols c) c (column_is c)))))
item_is items.CountAll =
    inl (after_is grammar.counted (symbol.Keyword key.Count) (in_brackets (symbol.Sign mark.Star ∷ [])) items.CountAll
    (bracketed_is _ (symbol.Sign mark.Star ∷ []) items.CountAll (inl (symbol.Sign mark.Star ∷ [], [], tt, refl, refl, (refl, refl)))))
item_is (items.Count c) =
    inl (after_is grammar.counted (symbol.Keyword key.Count) (in_brackets (column_symbols c)) (items.Count c)
    (bracketed_is _ (column_symbols c) (items.Count c) (inr (as_is grammar.column items.Count (column_symbols c) c (column_is c)))))
item_is (items.Sum c) =
    inr (inl (after_is (form.◌>>=◌ (grammar.bracketed grammar.column) (λ d. stands_for (items.Sum d))) (symbol.Keyword key.Sum) (in_brackets (column_symbols c)) (items.Sum c)
    (as_is (grammar.bracketed grammar.column) items.Sum (in_brackets (column_symbols c)) c (bracketed_is grammar.column (column_symbols c) c (column_is c)))))
item_is (items.Min c) =
    inr (inr (inl (after_is (form.◌>>=◌ (grammar.bracketed grammar.column) (λ d. stands_for (items.Min d))) (symbol.Keyword key.Min) (in_brackets (column_symbols c)) (items.Min c)
    (as_is (grammar.bracketed grammar.column) items.Min (in_brackets (column_symbols c)) c (bracketed_is grammar.column (column_symbols c) c (column_is c))))))
item_is (items.Max c) =
    inr (inr (inr (inl (after_is (form.◌>>=◌ (grammar.bracketed grammar.column) (λ d. stands_for (items.Max d))) (symbol.Keyword key.Max) (in_brackets (column_symbols c)) (items.Max c)
    (as_is (grammar.bracketed grammar.column) items.Max (in_brackets (column_symbols c)) c (bracketed_is grammar.column (column_symbols c) c (column_is c)))))))

-- Tests.

compared_is : (c : Column) (h : Relation) (v : Value) → grammar.compared c h (literal_symbols v) (Test c h v)
compared_is c h v = as_is form.literal (Test c h) (literal_symbols v) v refl

test_part : (c : Column) (h : Relation) (v : Value) → grammar.test (test_symbols c h v) (Test c h v)
test_part c how.Eq v = (
  column_symbols c,
  symbol.Sign mark.Equal ∷ literal_symbols v,
  c,
  refl,
  column_is c,
  inl (after_is (grammar.equal_to c) (symbol.Sign mark.Equal) (literal_symbols v) (Test c how.Eq v) (inl (compared_is c how.Eq v))),
)
test_part c how.Ne v = (
  column_symbols c,
  symbol.Sign mark.NotEqual ∷ literal_symbols v,
  c,
  refl,
  column_is c,
  inr (inl (after_is (grammar.compared c how.Ne) (symbol.Sign mark.NotEqual) (literal_symbols v) (Test c how.Ne v) (compared_is c how.Ne v))),
)
test_part c how.Lt v = (
  column_symbols c,
  symbol.Sign mark.Less ∷ literal_symbols v,
  c,
  refl,
  column_is c,
  inr (inr (inl (after_is (grammar.compared c how.Lt) (symbol.Sign mark.Less) (literal_symbols v) (Test c how.Lt v) (compared_is c how.Lt v)))),
)
test_part c how.Le v = (
  column_symbols c,
  symbol.Sign mark.LessOrEqual ∷ literal_symbols v,
  c,
  refl,
  column_is c,
  inr (inr (inr (inl (after_is (grammar.compared c how.Le) (symbol.Sign mark.LessOrEqual) (literal_symbols v) (Test c how.Le v) (compared_is c how.Le v))))),
)
test_part c how.Gt v = (
  column_symbols c,
  symbol.Sign mark.Greater ∷ literal_symbols v,
  c,
  refl,
  column_is c,
  inr (inr (inr (inr (inl (after_is (grammar.compared c how.Gt) (symbol.Sign mark.Greater) (literal_symbols v) (Test c how.Gt v) (compared_is c how.Gt v)))))),
)
test_part c how.Ge v = (
  column_symbols c,
  symbol.Sign mark.GreaterOrEqual ∷ literal_symbols v,
  c,
  refl,
  column_is c,
  inr (inr (inr (inr (inr (inl (after_is (grammar.compared c how.Ge) (symbol.Sign mark.GreaterOrEqual) (literal_symbols v) (Test c how.Ge v) (compared_is c how.Ge v))))))),
)

same_part : (c d : Column) → grammar.test (column_symbols c ++ symbol.Sign mark.Equal ∷ column_symbols d) (Same c d)
same_part c d = (
  column_symbols c,
  symbol.Sign mark.Equal ∷ column_symbols d,
  c,
  refl,
  column_is c,
  inl (after_is (grammar.equal_to c) (symbol.Sign mark.Equal) (column_symbols d) (Same c d) (inr (as_is grammar.column (Same c) (column_symbols d) d (column_is d)))),
)

ranged_in : (c : Column) (symbols : List Symbol) (t : Condition) → grammar.ranged c symbols t → grammar.test (column_symbols c ++ symbols) t
ranged_in c symbols t m = (column_symbols c, symbols, c, refl, column_is c, inr (inr (inr (inr (inr (inr (inr m)))))))

between_part : (c : Column) (low high : Value) → grammar.test (column_symbols c ++ symbol.Keyword key.Between ∷ symbol.Literal low ∷ symbol.Keyword key.And ∷ symbol.Literal high ∷ []) (Between c low high)
between_part c low high =
    ranged_in c (symbol.Keyword key.Between ∷ symbol.Literal low ∷ symbol.Keyword key.And ∷ symbol.Literal high ∷ []) (Between c low high)
    (inl (
      symbol.Keyword key.Between ∷ [],
      symbol.Literal low ∷ symbol.Keyword key.And ∷ symbol.Literal high ∷ [],
      tt,
      refl,
      refl,
      (
        symbol.Literal low ∷ [],
        symbol.Keyword key.And ∷ symbol.Literal high ∷ [],
        low,
        refl,
        refl,
        (symbol.Keyword key.And ∷ [], symbol.Literal high ∷ [], tt, refl, refl, (symbol.Literal high ∷ [], [], high, refl, refl, (refl, refl))),
      ),
    ))

one_of_part : (c : Column) (values : List Value) → IsNonempty values → grammar.test (column_symbols c ++ symbol.Keyword key.In ∷ in_brackets (joined comma literal_symbols values)) (OneOf c values)
one_of_part c values some =
    let listed = in_brackets (joined comma literal_symbols values) in
    ranged_in c (symbol.Keyword key.In ∷ listed) (OneOf c values)
    (inr (after_is (form.◌>>=◌ (grammar.bracketed (form.separated comma form.literal)) (λ vs. stands_for (OneOf c vs))) (symbol.Keyword key.In) listed (OneOf c values)
    (as_is (grammar.bracketed (form.separated comma form.literal)) (OneOf c) listed values
    (bracketed_is (form.separated comma form.literal) (joined comma literal_symbols values) values
    (joined_is comma literal_symbols form.literal (λ v. refl) values some)))))

-- Members of an `and` or an `or`.

single_conjunct : (t : Condition) → is_both t ≡ false → conjuncts t ≡ t ∷ []
single_conjunct (Both ts) e = true_false e
single_conjunct (Either ts) e = refl
single_conjunct (Negate t) e = refl
single_conjunct (Test c h v) e = refl
single_conjunct (Same c d) e = refl
single_conjunct (Between c l h) e = refl
single_conjunct (OneOf c vs) e = refl

single_disjunct : (t : Condition) → is_either t ≡ false → disjuncts t ≡ t ∷ []
single_disjunct (Either ts) e = true_false e
single_disjunct (Both ts) e = refl
single_disjunct (Negate t) e = refl
single_disjunct (Test c h v) e = refl
single_disjunct (Same c d) e = refl
single_disjunct (Between c l h) e = refl
single_disjunct (OneOf c vs) e = refl

flat_single : (kind : Condition → Bool) (f : Condition → List Condition) → ((t : Condition) → kind t ≡ false → f t ≡ t ∷ [])
    → (ts : Conditions) → AreTrees kind ts → flat_map f (members ts) ≡ members ts
flat_single kind f single none trees = refl
flat_single kind f single (more t ts) trees =
    ap (λ z. z ++ flat_map f (members ts)) (single t trees.0) ∙ ap (λ z. t ∷ z) (flat_single kind f single ts trees.2)

conditions-members : (ts : Conditions) → conditions (members ts) ≡ ts
conditions-members none = refl
conditions-members (more t ts) = ap (more t) (conditions-members ts)

joined_two : (join : Conditions → Condition) (ts : Conditions) → AreTwo ts → join ts ≡ alone_or join (members ts)
joined_two join none two = absurd two
joined_two join (more t none) two = absurd two
joined_two join (more t (more u ts)) two = ap join (sym (conditions-members (more t (more u ts))))

both_again : (ts : Conditions) → AreTwo ts → AreTrees is_both ts → Both ts ≡ both_of (members ts)
both_again ts two trees = joined_two Both ts two ∙ ap (alone_or Both) (sym (flat_single is_both conjuncts single_conjunct ts trees))

either_again : (ts : Conditions) → AreTwo ts → AreTrees is_either ts → Either ts ≡ either_of (members ts)
either_again ts two trees = joined_two Either ts two ∙ ap (alone_or Either) (sym (flat_single is_either disjuncts single_disjunct ts trees))

some_of_two : (ts : Conditions) → AreTwo ts → IsNonempty (members ts)
some_of_two none two = two
some_of_two (more t ts) two = tt

-- how deep a condition nests
abbrev mutual
  depth_of : Condition → ℕ
  depth_of (Either ts) = suc (depths ts)
  depth_of (Both ts) = suc (depths ts)
  depth_of (Negate t) = suc (depth_of t)
  depth_of (Test c h v) = 0
  depth_of (Same c d) = 0
  depth_of (Between c l h) = 0
  depth_of (OneOf c vs) = 0

  depths : Conditions → ℕ
  depths none = 0
  depths (more t ts) = max (depth_of t) (depths ts)

tested_within : (depth : ℕ) (symbols : List Symbol) (t : Condition) → grammar.test symbols t → one_within depth symbols t
tested_within zero symbols t m = m
tested_within (suc depth) symbols t m = inr (inr m)

-- one alone is an `and` and an `or` of one
alone_all : (L : Form Condition) (symbols : List Symbol) (t : Condition) → is_both t ≡ false → L symbols t → all_of L symbols t
alone_all L symbols t single m = (symbols, [], t ∷ [], sym (append-nil symbols), m, (refl, ap (alone_or Both) (sym (ap (λ z. z ++ []) (single_conjunct t single)))))

alone_any : (L : Form Condition) (symbols : List Symbol) (t : Condition) → is_either t ≡ false → all_of L symbols t → any_of L symbols t
alone_any L symbols t single m = (symbols, [], t ∷ [], sym (append-nil symbols), m, (refl, ap (alone_or Either) (sym (ap (λ z. z ++ []) (single_disjunct t single)))))

both_all : (L : Form Condition) (symbols : List Symbol) (ts : Conditions) → AreTwo ts → AreTrees is_both ts → form.separated (symbol.Keyword key.And) L symbols (members ts) → all_of L symbols (Both ts)
both_all L symbols ts two trees m = (symbols, [], members ts, sym (append-nil symbols), m, (refl, both_again ts two trees))

either_any : (L : Form Condition) (symbols : List Symbol) (ts : Conditions) → AreTwo ts → AreTrees is_either ts → form.separated (symbol.Keyword key.Or) (all_of L) symbols (members ts) → any_of L symbols (Either ts)
either_any L symbols ts two trees m = (symbols, [], members ts, sym (append-nil symbols), m, (refl, either_again ts two trees))

mutual
  one_is : (t : Condition) (depth : ℕ) → depth_of t ≤ depth → IsTree t → one_within depth (one_symbols t) t
  one_is (Either ts) zero deep tree = absurd (omega (arith, deep))
  one_is (Either ts) (suc depth) deep tree =
      inr (inl (bracketed_is (any_of (one_within depth)) (either_symbols ts) (Either ts)
      (either_any (one_within depth) (either_symbols ts) ts tree.0 tree.1 (either_are ts depth (omega (arith, deep)) tree.1 (some_of_two ts tree.0)))))
  one_is (Both ts) zero deep tree = absurd (omega (arith, deep))
  one_is (Both ts) (suc depth) deep tree =
      inr (inl (bracketed_is (any_of (one_within depth)) (both_symbols ts) (Both ts)
      (alone_any (one_within depth) (both_symbols ts) (Both ts) refl
      (both_all (one_within depth) (both_symbols ts) ts tree.0 tree.1 (both_are ts depth (omega (arith, deep)) tree.1 (some_of_two ts tree.0))))))
  one_is (Negate t) zero deep tree = absurd (omega (arith, deep))
  one_is (Negate t) (suc depth) deep tree =
      inl (after_is (form.◌>>=◌ (one_within depth) (λ u. stands_for (Negate u))) (symbol.Keyword key.Not) (one_symbols t) (Negate t) (as_is (one_within depth) Negate (one_symbols t) t (one_is t depth (omega (arith, deep)) tree)))
  one_is (Test c h v) depth deep tree = tested_within depth (test_symbols c h v) (Test c h v) (test_part c h v)
  one_is (Same c d) depth deep tree = tested_within depth _ (Same c d) (same_part c d)
  one_is (Between c l h) depth deep tree = tested_within depth _ (Between c l h) (between_part c l h)
  one_is (OneOf c vs) depth deep tree = tested_within depth _ (OneOf c vs) (one_of_part c vs tree)

  all_is : (t : Condition) (depth : ℕ) → depth_of t ≤ depth → IsTree t → all_of (one_within depth) (all_symbols t) t
  all_is (Either ts) zero deep tree = absurd (omega (arith, deep))
  all_is (Either ts) (suc depth) deep tree =
      alone_all (one_within (suc depth)) (one_symbols (Either ts)) (Either ts) refl
      (inr (inl (bracketed_is (any_of (one_within depth)) (either_symbols ts) (Either ts)
      (either_any (one_within depth) (either_symbols ts) ts tree.0 tree.1 (either_are ts depth (omega (arith, deep)) tree.1 (some_of_two ts tree.0))))))
  all_is (Both ts) depth deep tree =
      both_all (one_within depth) (both_symbols ts) ts tree.0 tree.1 (both_are ts depth (omega (arith, deep)) tree.1 (some_of_two ts tree.0))
  all_is (Negate t) zero deep tree = absurd (omega (arith, deep))
  all_is (Negate t) (suc depth) deep tree =
      alone_all (one_within (suc depth)) (one_symbols (Negate t)) (Negate t) refl
      (inl (after_is (form.◌>>=◌ (one_within depth) (λ u. stands_for (Negate u))) (symbol.Keyword key.Not) (one_symbols t) (Negate t) (as_is (one_within depth) Negate (one_symbols t) t (one_is t depth (omega (arith, deep)) tree))))
  all_is (Test c h v) depth deep tree = alone_all (one_within depth) _ (Test c h v) refl (tested_within depth (test_symbols c h v) (Test c h v) (test_part c h v))
  all_is (Same c d) depth deep tree = alone_all (one_within depth) _ (Same c d) refl (tested_within depth _ (Same c d) (same_part c d))
  all_is (Between c l h) depth deep tree = alone_all (one_within depth) _ (Between c l h) refl (tested_within depth _ (Between c l h) (between_part c l h))
  all_is (OneOf c vs) depth deep tree = alone_all (one_within depth) _ (OneOf c vs) refl (tested_within depth _ (OneOf c vs) (one_of_part c vs tree))

  both_are : (ts : Conditions) (depth : ℕ) → depths ts ≤ depth → AreTrees is_both ts → IsNonempty (members ts)
      → form.separated (symbol.Keyword key.And) (one_within depth) (both_symbols ts) (members ts)
  both_are none depth deep trees some = some
  both_are (more t none) depth deep trees some =
      subst (λ z. one_within depth z t) (sym (append-nil (one_symbols t))) (one_is t depth (omega (arith, deep)) trees.1)
  both_are (more t (more u ts)) depth deep trees some =
      (one_symbols t, both_symbols (more u ts), refl, one_is t depth (omega (arith, deep)) trees.1, both_are (more u ts) depth (omega (arith, deep)) trees.2 tt)

  either_are : (ts : Conditions) (depth : ℕ) → depths ts ≤ depth → AreTrees is_either ts → IsNonempty (members ts)
      → form.separated (symbol.Keyword key.Or) (all_of (one_within depth)) (either_symbols ts) (members ts)
  either_are none depth deep trees some = some
  either_are (more t none) depth deep trees some =
      subst (λ z. all_of (one_within depth) z t) (sym (append-nil (all_symbols t))) (all_is t depth (omega (arith, deep)) trees.1)
  either_are (more t (more u ts)) depth deep trees some =
      (all_symbols t, either_symbols (more u ts), refl, all_is t depth (omega (arith, deep)) trees.1, either_are (more u ts) depth (omega (arith, deep)) trees.2 tt)

any_is : (t : Condition) (depth : ℕ) → depth_of t ≤ depth → IsTree t → any_of (one_within depth) (any_symbols t) t
any_is (Either ts) depth deep tree = either_any (one_within depth) (either_symbols ts) ts tree.0 tree.1 (either_are ts depth (omega (arith, deep)) tree.1 (some_of_two ts tree.0))
any_is (Both ts) depth deep tree = alone_any (one_within depth) (both_symbols ts) (Both ts) refl (all_is (Both ts) depth deep tree)
any_is (Negate t) depth deep tree = alone_any (one_within depth) _ (Negate t) refl (all_is (Negate t) depth deep tree)
any_is (Test c h v) depth deep tree = alone_any (one_within depth) _ (Test c h v) refl (all_is (Test c h v) depth deep tree)
any_is (Same c d) depth deep tree = alone_any (one_within depth) _ (Same c d) refl (all_is (Same c d) depth deep tree)
any_is (Between c l h) depth deep tree = alone_any (one_within depth) _ (Between c l h) refl (all_is (Between c l h) depth deep tree)
any_is (OneOf c vs) depth deep tree = alone_any (one_within depth) _ (OneOf c vs) refl (all_is (OneOf c vs) depth deep tree)

-- Statements.

where_is : (condition : Option Condition) → IsTreeWhere condition → grammar.where_part (where_symbols condition) condition
where_is None tree = inr (refl, refl)
where_is (Some t) tree =
    inl (after_is (form.◌>>=◌ grammar.condition (λ u. stands_for (Some u))) (symbol.Keyword key.Where) (any_symbols t) (Some t)
    (as_is grammar.condition Some (any_symbols t) t (depth_of t, any_is t (depth_of t) (omega arith) tree)))

group_is : (columns : List Column) → grammar.group_part (group_symbols columns) columns
group_is [] = inr (refl, refl)
group_is (c ∷ columns) =
    let all = joined comma column_symbols (c ∷ columns) in
    inl (after_is (form.◌>>◌ (form.word key.By) (form.separated comma grammar.column)) (symbol.Keyword key.Group) (symbol.Keyword key.By ∷ all) (c ∷ columns)
    (after_is (form.separated comma grammar.column) (symbol.Keyword key.By) all (c ∷ columns) (joined_is comma column_symbols grammar.column column_is (c ∷ columns) tt)))

kind_is : (k : Kind) → grammar.kind (kind_symbol k ∷ []) k
kind_is kinds.Int = inl (symbol.Keyword key.Int ∷ [], [], tt, refl, refl, (refl, refl))
kind_is kinds.Text = inr (symbol.Keyword key.Text ∷ [], [], tt, refl, refl, (refl, refl))

plain_column_is : (c : AstColumn) → c.references ≡ None → grammar.plain_column (declared_symbols c) c
plain_column_is c untargeted =
    let kind = kind_symbol c.kind in (
      symbol.Name c.name ∷ [],
      kind ∷ target_symbols c.references,
      c.name,
      refl,
      refl,
      (
        kind ∷ [],
        target_symbols c.references,
        c.kind,
        refl,
        kind_is c.kind,
        (ap target_symbols untargeted, ap (λ z. record { name = c.name; kind = c.kind; references = z }) untargeted),
      ),
    )

plain_columns_are : (columns : List AstColumn) → IsNonempty columns → HaveNoTargets columns
    → form.separated comma grammar.plain_column (joined comma declared_symbols columns) columns
plain_columns_are [] some plain = absurd some
plain_columns_are (c ∷ []) some plain = subst (λ z. grammar.plain_column z c) (sym (append-nil (declared_symbols c))) (plain_column_is c plain.0)
plain_columns_are (c ∷ d ∷ columns) some plain =
    (declared_symbols c, joined comma declared_symbols (d ∷ columns), refl, plain_column_is c plain.0, plain_columns_are (d ∷ columns) tt plain.1)

others_are : (columns : List AstColumn) → HaveNoTargets columns
    → form.◌or◌ (after comma (form.separated comma grammar.plain_column)) (stands_for []) (flat_map (λ c. comma ∷ declared_symbols c) columns) columns
others_are [] plain = inr (refl, refl)
others_are (c ∷ columns) plain =
    inl (after_is (form.separated comma grammar.plain_column) comma (joined comma declared_symbols (c ∷ columns)) (c ∷ columns) (plain_columns_are (c ∷ columns) tt plain))

dimension_columns_are : (columns : List AstColumn) → IsNonempty columns → HaveNoTargets columns → grammar.dimension_columns (dimension_column_symbols columns) columns
dimension_columns_are [] some plain = absurd some
dimension_columns_are (first ∷ others) some plain =
    let behind = flat_map (λ c. comma ∷ declared_symbols c) others in (
      declared_symbols first,
      symbol.Keyword key.Key ∷ behind,
      first,
      refl,
      plain_column_is first plain.0,
      (symbol.Keyword key.Key ∷ [], behind, tt, refl, refl, (behind, [], others, sym (append-nil behind), others_are others plain.1, (refl, refl))),
    )

target_is : (target : Option (List ℕ))
    → form.◌or◌ (after (symbol.Keyword key.References) (form.◌>>=◌ form.name (λ d. stands_for (Some d)))) (stands_for None) (target_symbols target) target
target_is None = inr (refl, refl)
target_is (Some d) = inl (symbol.Keyword key.References ∷ [], symbol.Name d ∷ [], tt, refl, refl, (symbol.Name d ∷ [], [], d, refl, refl, (refl, refl)))

fact_column_is : (c : AstColumn) → grammar.fact_column (declared_symbols c) c
fact_column_is c = (
  symbol.Name c.name ∷ [],
  kind_symbol c.kind ∷ target_symbols c.references,
  c.name,
  refl,
  refl,
  (
    kind_symbol c.kind ∷ [],
    target_symbols c.references,
    c.kind,
    refl,
    kind_is c.kind,
    (target_symbols c.references, [], c.references, sym (append-nil (target_symbols c.references)), target_is c.references, (refl, refl)),
  ),
)

header_is : (header : Bool) → form.◌or◌ (after (symbol.Keyword key.Header) (stands_for true)) (stands_for false) (header_symbols header) header
header_is true = inl (symbol.Keyword key.Header ∷ [], [], tt, refl, refl, (refl, refl))
header_is false = inr (refl, refl)

statement_is : (meaning : Statement) → IsShaped meaning → grammar.statement (statement_symbols meaning) meaning
statement_is (Dimension name columns) shaped =
    let inner = in_brackets (dimension_column_symbols columns) in
    inl (after_is grammar.dimension (symbol.Keyword key.Dimension) (symbol.Name name ∷ inner) (Dimension name columns) (
      symbol.Name name ∷ [],
      inner,
      name,
      refl,
      refl,
      as_is (grammar.bracketed grammar.dimension_columns) (Dimension name) inner columns
          (bracketed_is grammar.dimension_columns (dimension_column_symbols columns) columns (dimension_columns_are columns shaped.0 shaped.1)),
    ))
statement_is (Fact name columns) shaped =
    let inner = in_brackets (joined comma declared_symbols columns) in
    inr (inl (after_is grammar.fact (symbol.Keyword key.Fact) (symbol.Name name ∷ inner) (Fact name columns) (
      symbol.Name name ∷ [],
      inner,
      name,
      refl,
      refl,
      as_is (grammar.bracketed (form.separated comma grammar.fact_column)) (Fact name) inner columns
          (bracketed_is (form.separated comma grammar.fact_column) (joined comma declared_symbols columns) columns
          (joined_is comma declared_symbols grammar.fact_column fact_column_is columns shaped)),
    )))
statement_is (Load name header) shaped =
    inr (inr (inl (after_is grammar.load (symbol.Keyword key.Load) (symbol.Name name ∷ header_symbols header) (Load name header)
    (symbol.Name name ∷ [], header_symbols header, name, refl, refl, as_is (form.◌or◌ (after (symbol.Keyword key.Header) (stands_for true)) (stands_for false)) (Load name) (header_symbols header) header (header_is header)))))
statement_is (Delete name condition) shaped =
    inr (inr (inr (inl (after_is grammar.delete (symbol.Keyword key.Delete) (symbol.Keyword key.From ∷ symbol.Name name ∷ where_symbols condition) (Delete name condition)
    (after_is (form.◌>>=◌ form.name (λ table. form.◌>>=◌ grammar.where_part (λ kept_out. stands_for (Delete table kept_out)))) (symbol.Keyword key.From) (symbol.Name name ∷ where_symbols condition) (Delete name condition)
    (symbol.Name name ∷ [], where_symbols condition, name, refl, refl, as_is grammar.where_part (Delete name) (where_symbols condition) condition (where_is condition shaped)))))))
statement_is (Select its_items tables condition groups) shaped =
    let behind_where = group_symbols groups in
    let behind_tables = where_symbols condition ++ behind_where in
    let behind_from = joined comma name_symbols tables ++ behind_tables in
    inr (inr (inr (inr (inl (after_is grammar.select (symbol.Keyword key.Select) (joined comma item_symbols its_items ++ symbol.Keyword key.From ∷ behind_from) (Select its_items tables condition groups) (
      joined comma item_symbols its_items,
      symbol.Keyword key.From ∷ behind_from,
      its_items,
      refl,
      joined_is comma item_symbols grammar.item item_is its_items shaped.0,
      (
        symbol.Keyword key.From ∷ [],
        behind_from,
        tt,
        refl,
        refl,
        (
          joined comma name_symbols tables,
          behind_tables,
          tables,
          refl,
          joined_is comma name_symbols form.name (λ n. refl) tables shaped.1,
          (
            where_symbols condition,
            behind_where,
            condition,
            refl,
            where_is condition shaped.2,
            as_is grammar.group_part (Select its_items tables condition) behind_where groups (group_is groups),
          ),
        ),
      ),
    ))))))
statement_is Wait shaped = inr (inr (inr (inr (inr (symbol.Keyword key.Wait ∷ [], [], tt, refl, refl, (refl, refl))))))

-- what is printed of a shaped statement is a sentence that stands for it
pub printed_is : (meaning : Statement) → IsShaped meaning → grammar.sentence (statement_symbols meaning) meaning
printed_is meaning shaped =
    (statement_symbols meaning, [], meaning, sym (append-nil (statement_symbols meaning)), statement_is meaning shaped, ([], [], tt, refl, inr (refl, refl), (refl, refl)))
