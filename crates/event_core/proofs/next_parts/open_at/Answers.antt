use Rattle.event_core.proofs.Words.{◌∙◌, CanAbandon, inl, inr, subst, sym}
use Rattle.pipeline_manager.proofs.SlotLemmas.{holder-there, unheld-clearing, unheld-free}
use Rattle.event_core.proofs.OpenLemmas.{begun-open}
use Rattle.event_core.proofs.next_parts.open_at.Goals as goal

pub returns-in-Held-clause-none : goal.returns-in-Held-clause-none
returns-in-Held-clause-none c = λ none query first can.
    let same = holder-there c.args.manager.now c.args.slot query c.in-Held.query c.in-Held.built (sym c.in-Held.ensures.state) first in
    c.if_open.ensures.none none (subst (λ one. CanAbandon one c.args.manager.now) (sym same) (begun-open c.args.manager.now query can))

pub returns-in-Free-clause-none : goal.returns-in-Free-clause-none
returns-in-Free-clause-none c = λ none query first can. elim c.in-Free.is [
  | inl free ↦ unheld-free c.args.manager.now c.args.slot query (sym c.slot.ensures.state ∙ free) first
  | inr clearing ↦
      unheld-clearing c.args.manager.now c.args.slot query clearing.0 (sym c.slot.ensures.state ∙ clearing.1) first
]
