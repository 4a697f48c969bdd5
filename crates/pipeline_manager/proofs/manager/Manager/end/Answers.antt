use Rattle.std.proofs.Common.{◌≡◌, ◌<◌, sym, subst, ◌∙◌, length, get_or, ap, arith}
use Rattle.pipeline_manager.specs.declared.life.SlotState.TheVariants.{Free, Held, Clearing}
use Rattle.pipeline_manager.specs.Conditions.{CanEnd}
use Rattle.pipeline_manager.proofs.UsedLemmas.{uses-set}
use Rattle.pipeline_manager.proofs.EndLemmas.{sound-ended}
use Rattle.pipeline_manager.proofs.manager.Manager.end.Goals as goal

pub invariant_of-self : goal.invariant_of-self
invariant_of-self c =
    let within : c.args.slot < length c.self.inside.slots = subst (λ lives. c.args.slot < length lives.slots) (sym c.self.view_is) c.requires.within in
    let holds : get_or c.self.inside.slots c.args.slot Free ≡ Held c.in-Held.query c.in-Held.built =
    ap (λ slots. get_or slots c.args.slot Free) (sym c.as_slice.ensures) ∙ c.in-Held.is in
    let over = rw holds at (subst (CanEnd c.args.slot) (sym c.self.view_is) c.requires.can) in
    rw (c.answer.ensures, c.set_slot.ensures) (
      sound-ended c.args.slot c.in-Held.query c.in-Held.built _ within holds over c.self.invariant.0,
      uses-set c.self.inside.used c.self.inside.used c.args.slot (Clearing c.in-Held.built) c.self.inside.slots (omega arith)
          c.self.invariant.1.in_range within (λ from free. absurd (let both : Held c.in-Held.query c.in-Held.built ≡ Free = sym holds ∙ free in cc))
          c.self.invariant.1,
    )
