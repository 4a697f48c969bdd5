use Rattle.star_plan.proofs.FitsLemmas.{fits_table-law}
use Rattle.star_plan.proofs.fitting.rows_fit_by_their_kinds.Goals as goal

pub returns : goal.returns
returns c = fits_table-law
