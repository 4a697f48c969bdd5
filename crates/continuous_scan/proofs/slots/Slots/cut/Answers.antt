use Rattle.std.proofs.Common.{◌≡◌, ◌∙◌, length, map, ap, subst, sym}
use Rattle.std.proofs.lemmas.List.{length-map}
use Rattle.continuous_scan.specs.Range.{cut_slot}
use Rattle.continuous_scan.specs.Inside.{RunBelow}
use Rattle.continuous_scan.proofs.WriteLemmas.{refill_all}
use Rattle.continuous_scan.proofs.UsedLemmas.{below-cut}
use Rattle.continuous_scan.proofs.slots.Slots.cut.Goals as goal

pub used_below-self-inside-requires : goal.used_below-self-inside-requires
used_below-self-inside-requires c =
    let old = c.self.inside.running in
    let f = cut_slot c.args.first c.args.end in
    let new : c.cut_slots.new.running ≡ map f old = c.cut_slots.ensures ∙ ap (map f) c.as_mut_slice.ensures.members in
    let whole = refill_all old c.cut_slots.new.running (ap length new ∙ length-map old f) in
    subst (RunBelow c.self.inside.used) (sym (c.as_slice.ensures ∙ whole ∙ new)) (below-cut c.self.inside.used c.args.first c.args.end old c.self.invariant.below)
