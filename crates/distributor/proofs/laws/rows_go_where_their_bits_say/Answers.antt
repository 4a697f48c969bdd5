use Rattle.distributor.proofs.MemberLemmas.{for_slot, for_slot-push}
use Rattle.distributor.proofs.laws.rows_go_where_their_bits_say.Goals as goal

pub returns-clause-members : goal.returns-clause-members
returns-clause-members c = for_slot

pub returns-clause-order : goal.returns-clause-order
returns-clause-order c = for_slot-push
