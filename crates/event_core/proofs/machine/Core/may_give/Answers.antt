use Rattle.event_core.proofs.Words.{◌∙◌, ap, CoreParts}
use Rattle.std.proofs.Common.{is_some}
use Rattle.event_core.proofs.EnablingLemmas.{given-held}
use Rattle.event_core.proofs.machine.Core.may_give.Goals as goal

pub returns : goal.returns
returns c =
    given-held c.args.self.now c.args.worker c.as_slice.result.now c.is_some.result
    (c.as_slice.ensures ∙ ap (λ (parts : CoreParts). parts.flights) c.self.view_is)
    (c.is_some.ensures ∙ ap is_some c.place_held_by.ensures.place)
