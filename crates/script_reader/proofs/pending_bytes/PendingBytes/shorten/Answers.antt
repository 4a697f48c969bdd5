use Rattle.std.proofs.Common.{drop}
use Rattle.script_reader.proofs.ComingLemmas.{ended_cut}
use Rattle.script_reader.proofs.pending_bytes.PendingBytes.shorten.Goals as goal

pub invariant_of-self : goal.invariant_of-self
invariant_of-self c =
    let new = c.shorten.new in
    (c.shorten.ensures.within, (ended_cut new.sought (drop new.start new.bytes.items) c.shorten.ensures.none).0)
