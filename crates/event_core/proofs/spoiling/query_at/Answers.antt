use Rattle.event_core.proofs.Words.{◌∙◌, ap, holder_of, sym}
use Rattle.event_core.proofs.spoiling.query_at.Goals as goal

pub returns-in-Held-clause-query : goal.returns-in-Held-clause-query
returns-in-Held-clause-query c = ap holder_of (sym c.in-Held.is ∙ c.slot.ensures.state)

pub returns-in-Held-clause-sound : goal.returns-in-Held-clause-sound
returns-in-Held-clause-sound c = c.slot.ensures.sound
