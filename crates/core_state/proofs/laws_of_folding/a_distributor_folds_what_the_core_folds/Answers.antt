use Rattle.core_state.proofs.HandedLemmas.{batch-folded}
use Rattle.core_state.proofs.laws_of_folding.a_distributor_folds_what_the_core_folds.Goals as goal

pub returns : goal.returns
returns c = batch-folded c.values_by_key_fold_the_same.ensures c.one_row_more_is_folded.ensures
