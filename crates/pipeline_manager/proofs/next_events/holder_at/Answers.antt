use Rattle.std.proofs.Common.{sym, ◌∙◌, inl, inr}
use Rattle.pipeline_manager.proofs.SlotLemmas.{holder-there, unheld-clearing, unheld-free}
use Rattle.pipeline_manager.proofs.next_events.holder_at.Goals as goal

pub returns-in-Held-clause-only : goal.returns-in-Held-clause-only
returns-in-Held-clause-only c = λ query first.
    holder-there c.args.manager.now c.args.slot query c.in-Held.query c.in-Held.built (sym c.in-Held.ensures.state) first

pub returns-in-Free-clause-only : goal.returns-in-Free-clause-only
returns-in-Free-clause-only c = λ query first. elim c.in-Free.is [
  | inl free ↦ unheld-free c.args.manager.now c.args.slot query (sym c.slot.ensures.state ∙ free) first
  | inr clearing ↦
      unheld-clearing c.args.manager.now c.args.slot query clearing.0 (sym c.slot.ensures.state ∙ clearing.1) first
]
