-- By what form the block of a statement is read: that of a load into a table that is there.
use Rattle.std.specs.Prelude.{Option, None, Result, Ok, Err}
use Rattle.star_values.specs.declared.refusal.Refusal.{Refusal}
use Rattle.star_parser.specs.Statement as written
use Rattle.star_plan.specs.declared.schema.Schema.{Schema}
use Rattle.csv_load.specs.declared.read_once.BlockForm.{BlockForm}
use Rattle.star_store.specs.Loads.{load_form}

-- the form for a statement of this meaning
abbrev pub form_of_meaning : Schema → written.Statement → Option BlockForm
form_of_meaning schema (written.Load name header) = load_form schema name header
form_of_meaning schema other = None

-- the form for what a text means, and none where the text is refused
abbrev pub form_of_text : Schema → Result written.Statement Refusal → Option BlockForm
form_of_text schema (Ok meaning) = form_of_meaning schema meaning
form_of_text schema (Err reason) = None
