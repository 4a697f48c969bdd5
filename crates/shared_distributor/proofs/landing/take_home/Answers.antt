use Rattle.std.proofs.Common.{rules}
use Rattle.shared_distributor.proofs.LoopLemmas.{landed-more}
use Rattle.shared_distributor.proofs.landing.take_home.Goals as goal

pub loop-slot-preserved : goal.loop-slot-preserved
loop-slot-preserved c =
    let spoils = c.spoils_slot-spoils in
    rw c.with_if-spoiled.ensures
    (landed-more c.args.lost.now c.loop-slot.spoiled c.args.home.now c.args.lent.now.groups.value c.args.own.now c.loop-slot.home c.loop-slot.own
    spoils.new.home spoils.new.own c.loop-slot.slot c.has.result spoils.result c.loop-slot.invariant c.has.ensures spoils.ensures.landed
    spoils.ensures.others)

pub returns-clause-landed : goal.returns-clause-landed
returns-clause-landed c = record { each = search rules; low = search rules }
