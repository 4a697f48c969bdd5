use Rattle.query_meaning.proofs.NumberLemmas.{numbers_found}
use Rattle.query_meaning.proofs.laws_of_history.key_numbers_are_found_by_keys.Goals as goal

pub returns : goal.returns
returns c = numbers_found
