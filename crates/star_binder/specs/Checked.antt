-- What checks answer.
use Rattle.std.specs.Prelude.{Option, Some, None, Result, Ok, Err}
use Rattle.star_values.specs.declared.refusal.Refusal.{Refusal}

-- what a statement is, unless there is a reason to refuse it
abbrev pub unless_refused : {A : Type 0} → Option Refusal → A → Result A Refusal
unless_refused None value = Ok value
unless_refused (Some reason) value = Err reason
