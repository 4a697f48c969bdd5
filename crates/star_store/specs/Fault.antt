-- What a fault of a statement tells.
use Rattle.std.specs.Prelude.{◌≡◌, IsOk, Result, Err, ⊤}
use Rattle.star_values.specs.declared.refusal.Refusal.{Refusal}
use Rattle.star_values.specs.declared.statement_fault.StatementFault.{StatementFault}
use Rattle.star_values.specs.declared.statement_fault.StatementFault.TheVariants.{Refused, Memory}

-- the fault tells the reason that was found, or that there was no memory
abbrev pub Tells : {A : Type 0} → Result A Refusal → StatementFault → Type 0
Tells found (Refused reason) = found ≡ Err reason
Tells found Memory = ⊤

-- the fault tells the reason that was found, or, where none was, that there was no memory
abbrev pub TellsReasonFirst : {A : Type 0} → Result A Refusal → StatementFault → Type 0
TellsReasonFirst found (Refused reason) = found ≡ Err reason
TellsReasonFirst found Memory = IsOk found
