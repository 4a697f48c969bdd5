use Rattle.event_core.proofs.Words.{◌≡◌, All, CoreParts, None, subst}
use Rattle.std.proofs.Common.{◌↔◌, false}
use Rattle.event_core.proofs.machine.Core.is_any_out.Goals as goal

pub returns : goal.returns
returns c = subst (λ (parts : CoreParts). (c.is_any_out.result ≡ false) ↔ All (λ lending. lending ≡ None) parts.out) c.self.view_is c.is_any_out.ensures
