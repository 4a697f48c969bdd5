-- A batch that wants a filter, or an event that may come, is something to do.
use Rattle.std.proofs.Common.{refl}
use Rattle.event_core.specs.Seen.{state_of}
use Rattle.worker_gate.specs.Managed.{IsFirstOf, managed_kinds}
use Rattle.worker_gate.specs.declared.managing.NextEvent.{NextEvent}
use Rattle.worker_gate.proofs.LookLemmas.{first-not_idle, more-by, wants-not_idle}
use Rattle.worker_gate.proofs.looking.is_more_to_do.Goals as goal

pub returns-in-Some : goal.returns-in-Some
returns-in-Some c = (
  (λ yes. wants-not_idle (state_of c.args.core.now) c.in-Some.field-0 c.in-Some.ensures.some),
  (λ more. refl),
)

pub returns-in-None : goal.returns-in-None
returns-in-None c =
    more-by (λ (next : NextEvent). IsFirstOf managed_kinds (state_of c.args.core.now) next.kind next.event) (state_of c.args.core.now)
    c.next_managed.result c.is_some.result (λ next first. first-not_idle (state_of c.args.core.now) next.kind next.event first)
    c.next_managed.ensures.first (λ none. record { wants = c.in-None.ensures.none refl; left = c.next_managed.ensures.none none })
    c.is_some.ensures
