-- What a call answers, and what the tables are then.
use Rattle.std.specs.Prelude.{◌≡◌, ℕ, ◌+◌, length, IsOk, IsOkAnd, Result, Ok, Err}
use Rattle.star_values.specs.declared.refusal.Refusal.{Refusal}
use Rattle.star_plan.specs.declared.table_def.TableDef.{TableDef}
use Rattle.query_meaning.specs.History.{Change, DimensionDeclared, FactDeclared, Loaded, Ended, after_change}
use Rattle.query_meaning.specs.Keyed.{KeyedStore, plain}
use Rattle.star_store.specs.declared.done.Done.{Done}
use Rattle.star_values.specs.declared.statement_fault.StatementFault.{StatementFault}
use Rattle.star_values.specs.declared.statement_fault.StatementFault.TheVariants.{Refused, Memory}

-- how many rows a change loads, or how many versions it ends
abbrev pub changed_rows : Change → ℕ
changed_rows (DimensionDeclared table) = 0
changed_rows (FactDeclared table) = 0
changed_rows (Loaded table rows) = length rows
changed_rows (Ended positions) = length positions

-- at Ok nothing refuses the load or delete, the tables are those after its change, and the answer
-- has the number of the next commit and the rows; else the tables are as they were, and there is
-- the reason that refuses it, or no memory
abbrev pub Commits : Result Change Refusal → KeyedStore → KeyedStore → Result Done StatementFault
    → Type 0
Commits found old new (Ok done) = IsOkAnd found (λ change.
    (plain new ≡ after_change (plain old) change)
    × (done ≡ record { commit = old.commits + 1; rows = changed_rows change }))
Commits found old new (Err (Refused reason)) = (found ≡ Err reason) × (new ≡ old)
Commits found old new (Err Memory) = new ≡ old

-- the same of a declaration, which is no commit, and for which no memory is
-- wanted where it is refused
abbrev pub DeclaresTable : (TableDef → Change) → Result TableDef Refusal → KeyedStore → KeyedStore
    → Result (Unit {0}) StatementFault → Type 0
DeclaresTable declared found old new (Ok done) =
    IsOkAnd found (λ table. plain new ≡ after_change (plain old) (declared table))
DeclaresTable declared found old new (Err (Refused reason)) = (found ≡ Err reason) × (new ≡ old)
DeclaresTable declared found old new (Err Memory) = IsOk found × (new ≡ old)
