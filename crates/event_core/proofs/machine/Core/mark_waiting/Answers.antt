use Rattle.event_core.proofs.Words.{ap, CoreParts, refl, the_view}
use Rattle.event_core.proofs.WorkLemmas.{seen-same}
use Rattle.event_core.proofs.machine.Core.mark_waiting.Goals as goal

pub invariant_of-self : goal.invariant_of-self
invariant_of-self c = (
  (seen-same (the_view c.self.inside) c.self.inside.flights.items (record c.self.inside.marks { waiting = c.args.waiting }) refl c.self.invariant.0).core,
  c.self.invariant.1,
  c.self.invariant.2,
  c.self.invariant.3,
  c.self.invariant.4,
  c.self.invariant.5,
)

pub returns : goal.returns
returns c = ap (λ (parts : CoreParts). record parts { marks = record parts.marks { waiting = c.args.waiting } }) c.self.view_is
