-- Which statements are a `wait`.
use Rattle.std.specs.Prelude.{Bool, true, false, Result, Ok}
use Rattle.star_values.specs.declared.refusal.Refusal.{Refusal}
use Rattle.script_reader.specs.declared.statement.Statement.{Statement}
use Rattle.star_parser.specs.Statement as written
use Rattle.star_store.specs.Text.{meaning_of}

-- what a statement means is that it waits
abbrev pub means_wait : Result written.Statement Refusal → Bool
means_wait (Ok written.Wait) = true
means_wait meaning = false

-- whether a statement is a `wait`
abbrev pub is_wait : Statement → Bool
is_wait statement = means_wait (meaning_of statement)
