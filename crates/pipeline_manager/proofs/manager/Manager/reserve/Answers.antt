use Rattle.std.proofs.Common.{◌≡◌, ◌<◌, false, length, sym, subst, ap, ◌∙◌, Some, arith}
use Rattle.std.specs.Option.{option_map_or}
use Rattle.pipeline_manager.specs.declared.life.SlotState.TheVariants.{Free, Held}
use Rattle.pipeline_manager.specs.Lives.{oldest_waiting, slot_at}
use Rattle.pipeline_manager.specs.Conditions.{is_open}
use Rattle.pipeline_manager.proofs.UsedLemmas.{uses-set}
use Rattle.pipeline_manager.proofs.CallLemmas.{sound-reserved}
use Rattle.pipeline_manager.proofs.LifeLemmas.{oldest-waits}
use Rattle.pipeline_manager.proofs.manager.Manager.reserve.Goals as goal

pub set_life-requires-clause-may : goal.set_life-requires-clause-may
set_life-requires-clause-may c =
    let oldest = subst (λ lives. oldest_waiting lives ≡ Some c.in-Some.query) (sym c.self.view_is) (sym c.oldest_waiting.ensures.oldest ∙ c.in-Some.is) in
    ap (λ life. option_map_or is_open life false) (oldest-waits c.self.inside.queries c.in-Some.query c.self.invariant.0.rising oldest)

pub invariant_of-self : goal.invariant_of-self
invariant_of-self c =
    let within = subst (λ lives. c.args.slot < length lives.slots) (sym c.self.view_is) c.requires.within in
    let is_free = subst (λ lives. slot_at lives c.args.slot ≡ Free) (sym c.self.view_is) c.requires.can.is_free in
    let oldest = subst (λ lives. oldest_waiting lives ≡ Some c.in-Some.query) (sym c.self.view_is) (sym c.oldest_waiting.ensures.oldest ∙ c.in-Some.is) in (
      rw (c.set_life.ensures, c.set_slot.ensures) (sound-reserved c.args.slot c.in-Some.query _ within is_free oldest c.self.invariant.0),
      rw c.set_slot.ensures (uses-set c.self.inside.used c.max-self-inside.result c.args.slot (Held c.in-Some.query 0) c.self.inside.slots
          (omega arith) (omega arith) within (λ behind free. absurd (omega arith)) c.self.invariant.1),
    )
