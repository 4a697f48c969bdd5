use Rattle.event_core.proofs.Words.{◌+◌, ◌∙◌, ap, CoreParts, refl, the_view}
use Rattle.std.specs.Prelude.{◌%◌}
use Rattle.event_core.proofs.WorkLemmas.{seen-same}
use Rattle.event_core.proofs.machine.Core.count_up.Goals as goal

pub invariant_of-self : goal.invariant_of-self
invariant_of-self c = (
  (seen-same (the_view c.self.inside) c.self.inside.flights.items
      (record c.self.inside.marks { distributed = c.next_in_round-self-inside.result }) refl c.self.invariant.0).core,
  c.self.invariant.1,
  c.self.invariant.2,
  c.self.invariant.3,
  c.self.invariant.4,
  c.self.invariant.5,
)

pub returns-clause-count : goal.returns-clause-count
returns-clause-count c = c.next_in_round-self-inside.ensures ∙ ap (λ (parts : CoreParts). (parts.marks.distributed + 1) % 16) c.self.view_is

pub returns-clause-marks : goal.returns-clause-marks
returns-clause-marks c =
    ap (λ (parts : CoreParts). record parts { marks = record parts.marks { distributed = c.next_in_round-self-inside.result } }) c.self.view_is
