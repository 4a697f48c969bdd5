use Rattle.dimension_rows.proofs.AppendLemmas.{index_of-kept, index_of-last, index_of-others, AreKeyed-append}
use Rattle.dimension_rows.proofs.laws.a_new_row_moves_no_other.Goals as goal

pub returns-clause-kept : goal.returns-clause-kept
returns-clause-kept c = index_of-kept

pub returns-clause-last : goal.returns-clause-last
returns-clause-last c = index_of-last

pub returns-clause-others : goal.returns-clause-others
returns-clause-others c = index_of-others

pub returns-clause-keyed : goal.returns-clause-keyed
returns-clause-keyed c = AreKeyed-append
