use Rattle.star_values.proofs.CodeLemmas.{key_by_codes, value_by_code}
use Rattle.star_values.proofs.laws_of_codes.codes_tell_values_apart.Goals as goal

pub returns : goal.returns
returns c = record { values = value_by_code; keys = key_by_codes }
