-- What binding a statement answers.
use Rattle.std.specs.Prelude.{◌≡◌, Bool, true, false, ◌∷◌, Option, option_map, Result, Ok, Err}
use Rattle.star_values.specs.declared.refusal.Refusal.{Refusal}
use Rattle.star_parser.specs.Statement.{Statement, Delete, Select}
use Rattle.star_plan.specs.Test.{query_of, test_of}
use Rattle.star_plan.specs.declared.predicate.Predicate.{Predicate}
use Rattle.star_plan.specs.declared.schema.Schema.{Schema}
use Rattle.star_plan.specs.declared.star_query.StarQuery.{StarQuery}
use Rattle.star_binder.specs.Named.{where_conjuncts}
use Rattle.star_binder.specs.Refused.{bound_select, bound_delete}
use Rattle.star_binder.specs.Select.{select_of}
use Rattle.star_values.specs.declared.statement_fault.StatementFault.{StatementFault}
use Rattle.star_values.specs.declared.statement_fault.StatementFault.TheVariants.{Refused, Memory}

-- the answer is what is bound or the reason that refuses it, unless memory ran out
abbrev pub Binds : {A B : Type 0} → (A → B) → Result A StatementFault → Result B Refusal → Type 0
Binds view (Ok value) bound = bound ≡ Ok (view value)
Binds view (Err (Refused reason)) bound = bound ≡ Err reason
Binds view (Err Memory) bound = Unit {0}

-- the answer says what query a select is, and nothing is said of another statement
abbrev pub BindsSelect : Result StarQuery StatementFault → Schema → Statement → Type 0
BindsSelect result schema (Select items names condition groups) =
    Binds query_of result (bound_select schema (select_of items names condition groups))
BindsSelect result schema other = Unit {0}

-- the answer says what test a delete has
abbrev pub BindsDelete : Result (Option Predicate) StatementFault → Schema → Statement → Type 0
BindsDelete result schema (Delete name condition) =
    Binds (option_map test_of) result (bound_delete schema name (where_conjuncts condition))
BindsDelete result schema other = Unit {0}

-- a select of some item
abbrev pub is_select : Statement → Bool
is_select (Select (item ∷ items) names condition groups) = true
is_select other = false

-- a delete
abbrev pub is_delete : Statement → Bool
is_delete (Delete name condition) = true
is_delete other = false
