use Rattle.star_binder.proofs.OverLemmas.{bound_delete-law, bound_select-law}
use Rattle.star_binder.proofs.laws.bound_queries_keep_to_their_schema.Goals as goal

pub returns : goal.returns
returns c = record { select = bound_select-law; delete = bound_delete-law }
