use Rattle.std.proofs.Common.{length}
use Rattle.make_load.proofs.ReplyLemmas.{IsReadTo}
use Rattle.make_load.proofs.reading.replies_in.Given as goal

abbrev pub invariant-replies : goal.invariant-replies
invariant-replies l = IsReadTo l.bytes l.list l.rest

-- each reply has at least one byte
abbrev pub decreases-replies : goal.decreases-replies
decreases-replies l = length l.rest
