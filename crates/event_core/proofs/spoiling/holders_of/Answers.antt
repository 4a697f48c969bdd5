use Rattle.event_core.proofs.Words.{◌∙◌, ◌≡◌, ◌≢◌, ap, arith, cases_lt, get_or, get_or-set_other, holder_of, inl, inr, length-set, option_map_or, refl, replicate, slot_at, suc, sym, zero, ℕ}
use Rattle.event_core.proofs.SpoilingLemmas.{number-or, written-more}
use Rattle.event_core.proofs.spoiling.holders_of.Goals as goal

-- no slot has a number yet
none-yet : (n k : ℕ) → get_or {A = ℕ} (replicate n 0) k 0 ≡ 0
none-yet zero k = refl
none-yet (suc n) zero = refl
none-yet (suc n) (suc k) = none-yet n k

pub loop-slot-init : goal.loop-slot-init
loop-slot-init c = record {
  count = refl;
  below = λ slot low. absurd (omega arith);
  behind = λ slot from. none-yet 64 slot;
}

pub loop-slot-preserved : goal.loop-slot-preserved
loop-slot-preserved c = record {
  count = omega (arith, length-set c.loop-slot.holders c.loop-slot.slot c.unwrap_or.result);
  below = written-more (λ slot. option_map_or (λ number. number) (holder_of (slot_at c.args.manager.now slot)) 0)
      c.loop-slot.holders c.loop-slot.slot c.unwrap_or.result (omega arith)
      (c.unwrap_or.ensures ∙ number-or c.query_at.result ∙ ap (λ o. option_map_or (λ number. number) o 0) c.query_at.ensures.query)
      c.loop-slot.invariant.below;
  behind = λ slot from.
      let apart : slot ≢ c.loop-slot.slot = omega arith in
      get_or-set_other c.loop-slot.holders c.loop-slot.slot slot c.unwrap_or.result 0 apart ∙ c.loop-slot.invariant.behind slot (omega arith);
}

pub returns : goal.returns
returns c = record {
  count = (let few = c.used-slot-end.ensures.sound.few in omega arith);
  each = λ slot low. elim (cases_lt slot c.used-slot-end.result) [
    | inl inside ↦ c.loop-slot.invariant.below slot (omega arith)
    | inr past ↦
        c.loop-slot.invariant.behind slot (omega arith)
        ∙ sym (ap (λ state. option_map_or (λ number. number) (holder_of state) 0) (c.used-slot-end.ensures.free slot past))
  ];
}
