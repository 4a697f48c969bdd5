use Rattle.event_core.proofs.Words.{holder_of, slot_at}
use Rattle.event_core.proofs.SpoilingLemmas.{held-in, none-out}
use Rattle.event_core.proofs.spoiling.query_in.Goals as goal

pub returns-then-has-clause-query : goal.returns-then-has-clause-query
returns-then-has-clause-query c =
    held-in c.args.slots c.args.slot (holder_of (slot_at c.args.manager.now c.args.slot)) c.query_at-holder.result c.has.result
    c.has.ensures c.if-has.true c.query_at-holder.ensures.query

pub returns-then-has-clause-sound : goal.returns-then-has-clause-sound
returns-then-has-clause-sound c = c.query_at-holder.ensures.sound

pub returns-else-has-clause-query : goal.returns-else-has-clause-query
returns-else-has-clause-query c =
    none-out c.args.slots c.args.slot (holder_of (slot_at c.args.manager.now c.args.slot)) c.has.result c.has.ensures c.if-has.false

pub returns-else-has-clause-sound : goal.returns-else-has-clause-sound
returns-else-has-clause-sound c = c.query_at-holder.ensures.sound
