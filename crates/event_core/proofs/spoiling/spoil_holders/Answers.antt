use Rattle.std.proofs.Common.{◌+◌, length, sym, ap, ◌∙◌, arith}
use Rattle.event_core.proofs.SpoilingLemmas.{all-spoiled, may-spoil, none-below, one-below, running-same, same-below, slots-same}
use Rattle.event_core.proofs.spoiling.spoil_holders.Goals as goal
use Rattle.event_core.proofs.spoiling.spoil_holders.Goals.{in-Some, in_default}

pub query_in-requires-clause-there : goal.query_in-requires-clause-there
query_in-requires-clause-there c =
    let same = ap length (slots-same c.args.manager.now c.args.scan.now c.args.slots c.loop-slot.slot c.loop-slot.manager c.loop-slot.scan c.loop-slot.invariant) in
    omega arith

pub query_in-requires-clause-few : goal.query_in-requires-clause-few
query_in-requires-clause-few c =
    let few = c.used-slot-end.ensures.sound.few in
    omega arith

pub stop-requires : goal.stop-requires
stop-requires c =
    let same = running-same c.args.manager.now c.args.scan.now c.args.slots c.loop-slot.slot c.loop-slot.manager c.loop-slot.scan c.loop-slot.invariant in
    omega arith

pub spoil-requires : goal.spoil-requires
spoil-requires c =
    may-spoil c.args.manager.now c.args.scan.now c.args.slots c.loop-slot.slot c.loop-slot.manager c.loop-slot.scan c.loop-slot.invariant
    c.in-Some.query c.query_in.ensures.sound (omega arith) (sym c.query_in.ensures.query ∙ c.in-Some.is) c.requires.begun

pub loop-slot-preserved : goal.loop-slot-preserved
loop-slot-preserved c = elim c.match-query_in.branch [
  | in-Some w ↦ same-below c.args.manager.now c.args.scan.now c.args.slots (c.loop-slot.slot + 1) _ _ _ _
      (w.manager-is ∙ w.spoil.ensures) (w.scan-is ∙ w.stop.ensures)
      (one-below c.args.manager.now c.args.scan.now c.args.slots c.loop-slot.slot c.loop-slot.manager c.loop-slot.scan c.loop-slot.invariant
      w.in-Some.query c.query_in.ensures.sound (omega arith) (sym c.query_in.ensures.query ∙ w.in-Some.is))
  | in_default w ↦ same-below c.args.manager.now c.args.scan.now c.args.slots (c.loop-slot.slot + 1) _ _ _ _ w.manager-is w.scan-is
      (none-below c.args.manager.now c.args.scan.now c.args.slots c.loop-slot.slot c.loop-slot.manager c.loop-slot.scan c.loop-slot.invariant
      (sym c.query_in.ensures.query ∙ w.in_default.is))
]

pub returns-clause-lives : goal.returns-clause-lives
returns-clause-lives c =
    (all-spoiled c.args.manager.now c.args.scan.now c.args.slots c.used-slot-end.result c.loop-slot.slot c.loop-slot.manager c.loop-slot.scan
    (omega arith) c.used-slot-end.ensures.within c.used-slot-end.ensures.free c.loop-slot.invariant).spoiled

pub returns-clause-scan : goal.returns-clause-scan
returns-clause-scan c =
    (all-spoiled c.args.manager.now c.args.scan.now c.args.slots c.used-slot-end.result c.loop-slot.slot c.loop-slot.manager c.loop-slot.scan
    (omega arith) c.used-slot-end.ensures.within c.used-slot-end.ensures.free c.loop-slot.invariant).stopped
