use Rattle.std.proofs.Common.{◌≡◌, ◌<◌, ◌++◌, ◌∙◌, ap, set, get_or, refl, length, map, take, drop, arith}
use Rattle.continuous_scan.specs.Range.{cut_slot}
use Rattle.continuous_scan.proofs.WriteLemmas.{written_more, read_next}
use Rattle.continuous_scan.proofs.UsedLemmas.{cut-behind}
use Rattle.continuous_scan.proofs.slots.cut_slots.Goals as goal

pub loop-slot-preserved : goal.loop-slot-preserved
loop-slot-preserved c =
    let d = c.index-running-slot.result in
    let old = c.args.running.now in
    let i = c.loop-slot.slot in
    let inside : i < length old = let within = c.requires.within in omega arith in
    ap (λ l. set l i c.cut_slot.new.slot) c.loop-slot.invariant
    ∙ ap (set _ i) (c.cut_slot.ensures
    ∙ ap (λ l. cut_slot c.args.first c.args.end (get_or l i d)) c.loop-slot.invariant
    ∙ ap (cut_slot c.args.first c.args.end) (read_next (cut_slot c.args.first c.args.end) old i d inside))
    ∙ written_more (cut_slot c.args.first c.args.end) old old i d d inside refl

pub returns : goal.returns
returns c =
    let f = cut_slot c.args.first c.args.end in
    let old = c.args.running.now in
    let all : c.loop-slot.slot ≡ c.args.used = omega arith in
    c.loop-slot.invariant ∙ ap (λ i. map f (take i old) ++ drop i old) all
    ∙ cut-behind c.args.first c.args.end c.args.used old c.requires
