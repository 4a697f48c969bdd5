use Rattle.query_meaning.proofs.KeyLemmas.{kept_by_keys-is}
use Rattle.query_meaning.proofs.laws_of_history.key_numbers_stand_for_keys.Goals as goal

pub returns : goal.returns
returns c = kept_by_keys-is
