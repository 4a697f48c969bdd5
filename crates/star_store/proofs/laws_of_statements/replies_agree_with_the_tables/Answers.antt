use Rattle.star_store.proofs.LawLemmas.{effect_agrees}
use Rattle.star_store.proofs.laws_of_statements.replies_agree_with_the_tables.Goals as goal

pub returns : goal.returns
returns c = effect_agrees
