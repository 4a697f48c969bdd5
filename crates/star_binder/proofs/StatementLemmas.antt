-- What is bound by the parts of a statement is what the statement is bound to, and it keeps to its schema.
use Rattle.std.proofs.Common.{◌≡◌, ℕ, ◌<◌, true, false, List, [], ◌∷◌, length, Option, option_map, Result, Ok, Err, IfOk, ap, sym, ◌∙◌, subst, arith}
use Rattle.star_parser.specs.declared.ast.Ast.{Ast}
use Rattle.star_parser.specs.declared.ast.Ast.TheVariants as ast
use Rattle.star_parser.specs.declared.ast.AstItem.{AstItem}
use Rattle.star_parser.specs.declared.tree.Column.{Column}
use Rattle.star_parser.specs.declared.tree.Tree.{Tree}
use Rattle.star_parser.specs.Condition.{Condition, condition_of}
use Rattle.star_parser.specs.Statement.{statement_of}
use Rattle.star_plan.specs.Fits.{some_test_fits}
use Rattle.star_plan.specs.Columns.{fact_columns, kinds_of}
use Rattle.star_plan.specs.Over.{IsOver}
use Rattle.star_plan.specs.Test.{query_of, test_of}
use Rattle.star_plan.specs.declared.predicate.Predicate.{Predicate}
use Rattle.star_plan.specs.declared.schema.Schema.{Schema}
use Rattle.star_plan.specs.declared.star_query.StarQuery.{StarQuery}
use Rattle.star_binder.specs.Fault.{Binds, BindsSelect, is_select}
use Rattle.star_binder.specs.Named.{where_conjuncts}
use Rattle.star_binder.specs.Refused.{bound_delete, bound_select}
use Rattle.star_binder.specs.Select.{SelectParts, select_of}
use Rattle.star_values.specs.declared.statement_fault.StatementFault.{StatementFault}
use Rattle.star_values.specs.declared.statement_fault.StatementFault.TheVariants.{Refused, Memory}
use Rattle.star_binder.proofs.OverLemmas.{bound_delete-fits, bound_select-IsOver}

-- a select is bound by its parts
pub select-binds : (result : Result StarQuery StatementFault) (schema : Schema) (statement : Ast)
    (items : List AstItem) (names : List (List ℕ)) (condition : Option Tree) (groups : List Column)
    (given : List AstItem) (tables : List (List ℕ)) (conjuncts : List Condition) (columns : List Column)
    → statement ≡ ast.Select items names condition groups → given ≡ items → tables ≡ names
    → conjuncts ≡ where_conjuncts (option_map condition_of condition) → columns ≡ groups
    → Binds query_of result (bound_select schema (record { items = given; names = tables; conjuncts = conjuncts; groups = columns }))
    → BindsSelect result schema (statement_of statement)
select-binds result schema statement items names condition groups given tables conjuncts columns is i n e g h =
    let parts : SelectParts = record { items = given; names = tables; conjuncts = conjuncts; groups = columns } in
    let same : parts ≡ select_of items names (option_map condition_of condition) groups =
    ap (λ (x : List AstItem). record { items = x; names = tables; conjuncts = conjuncts; groups = columns }) i
    ∙ ap (λ (x : List (List ℕ)). record { items = items; names = x; conjuncts = conjuncts; groups = columns }) n
    ∙ ap (λ (x : List Condition). record { items = items; names = names; conjuncts = x; groups = columns }) e
    ∙ ap (λ (x : List Column). select_of items names (option_map condition_of condition) x) g in
    subst (λ (x : Ast). BindsSelect result schema (statement_of x)) (sym is)
    (subst (λ (x : SelectParts). Binds query_of result (bound_select schema x)) same h)

-- a select of some item has one
some_item : (statement : Ast) (items : List AstItem) (names : List (List ℕ)) (condition : Option Tree) (groups : List Column)
    → statement ≡ ast.Select items names condition groups → is_select (statement_of statement) ≡ true → 0 < length items
some_item statement [] names condition groups is h =
    let wrong : false ≡ true = ap (λ (x : Ast). is_select (statement_of x)) (sym is) ∙ h in (cc)
some_item statement (item ∷ items) names condition groups is h = omega arith

-- the query that it is bound to keeps to its schema
pub select-over : (result : Result StarQuery StatementFault) (schema : Schema) (select : SelectParts) (statement : Ast)
    (items : List AstItem) (names : List (List ℕ)) (condition : Option Tree) (groups : List Column)
    → statement ≡ ast.Select items names condition groups → is_select (statement_of statement) ≡ true → select.items ≡ items
    → Binds query_of result (bound_select schema select) → IfOk result (λ query. IsOver schema (query_of query))
select-over (Ok query) schema select statement items names condition groups is h e binds =
    let some = some_item statement items names condition groups is h in
    let here : 0 < length select.items = subst (λ (x : List AstItem). 0 < length x) (sym e) some in
    bound_select-IsOver schema select (query_of query) here binds
select-over (Err (Refused reason)) schema select statement items names condition groups is h e binds = tt
select-over (Err Memory) schema select statement items names condition groups is h e binds = tt

-- the test of a delete fits the fact table
pub delete-fits : (result : Result (Option Predicate) StatementFault) (schema : Schema) (name : List ℕ) (conjuncts : List Condition)
    → Binds (option_map test_of) result (bound_delete schema name conjuncts)
    → IfOk result (λ condition. some_test_fits (kinds_of (fact_columns schema)) (option_map test_of condition) ≡ true)
delete-fits (Ok condition) schema name conjuncts h = bound_delete-fits schema name conjuncts (option_map test_of condition) h
delete-fits (Err (Refused reason)) schema name conjuncts h = tt
delete-fits (Err Memory) schema name conjuncts h = tt
