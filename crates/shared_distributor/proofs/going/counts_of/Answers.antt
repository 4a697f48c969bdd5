use Rattle.std.proofs.Common.{◌∙◌, ◌<◌, ap, arith, get_or, inl, inr, length, set, sym}
use Rattle.std.specs.Prelude.{None}
use Rattle.std.proofs.lemmas.Bool.{cases_eq}
use Rattle.std.proofs.lemmas.List.{get_or-set_other, get_or-set_same, length-set}
use Rattle.shared_distributor.specs.Apart.{count_in}
use Rattle.shared_distributor.proofs.going.counts_of.Goals as goal

pub loop-slot-preserved : goal.loop-slot-preserved
loop-slot-preserved c =
    let counts = c.loop-slot.counts in
    let at = c.loop-slot.slot in
    let so_far = c.loop-slot.invariant in
    let few = c.slots-slot-end.ensures.few in
    let many = c.slots-slot-end.ensures.count in
    let test = c.loop-slot-test.true in
    let within : at < length counts = let long = so_far.0 in omega (arith, long, few, many, test) in (
      length-set counts at c.count_at.result ∙ so_far.0,
      λ slot low. elim (cases_eq slot at) [
        | inl e ↦
            ap (λ n. get_or (set counts at c.count_at.result) n 0) e
            ∙ get_or-set_same counts at c.count_at.result 0 within
            ∙ c.count_at.ensures.count
            ∙ ap (λ n. count_in (get_or c.args.own.now n None)) (sym e)
        | inr apart ↦ get_or-set_other counts at slot c.count_at.result 0 apart ∙ so_far.1 slot (omega arith)
      ],
    )
