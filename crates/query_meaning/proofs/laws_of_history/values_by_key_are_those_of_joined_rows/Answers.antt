use Rattle.query_meaning.proofs.ReadLemmas.{items_same, key_same, places_same}
use Rattle.query_meaning.proofs.laws_of_history.values_by_key_are_those_of_joined_rows.Goals as goal

pub returns : goal.returns
returns c = record { places = places_same; key = key_same; items = items_same }
