use Rattle.std.proofs.Common.{◌≡◌, ap, sym, subst, ◌∙◌, position}
use Rattle.pipeline_manager.specs.declared.life.SlotState.TheVariants.{Free}
use Rattle.pipeline_manager.specs.Lives.{slot_at, is_free}
use Rattle.pipeline_manager.proofs.LawLemmas.{first-is_free}
use Rattle.pipeline_manager.proofs.manager.Manager.free_slot.Goals as goal

pub returns-clause-is_free : goal.returns-clause-is_free
returns-clause-is_free c =
    subst (λ lives. slot_at lives c.in_ok-first_free.field-0 ≡ Free) c.self.view_is
    (first-is_free c.self.inside.slots c.in_ok-first_free.field-0
    (ap (position is_free) (sym c.as_slice.ensures) ∙ sym c.first_free.ensures.first ∙ c.in_ok-first_free.was))
