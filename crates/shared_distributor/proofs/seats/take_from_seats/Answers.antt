use Rattle.std.proofs.Common.{arith, subst, sym, ◌<◌, length}
use Rattle.shared_distributor.specs.Shared.{IsAllIn}
use Rattle.shared_distributor.proofs.LoopLemmas.{taken-all, taken-next}
use Rattle.shared_distributor.proofs.SeatLemmas.{inside-seat, pair-at}
use Rattle.shared_distributor.proofs.seats.take_from_seats.Goals as goal

pub take_from_seat-requires-clause-pair : goal.take_from_seat-requires-clause-pair
take_from_seat-requires-clause-pair c =
    let so_far = c.loop-k.invariant in
    let low : c.loop-k.k < length c.loop-k.seats = omega arith in
    pair-at c.loop-k.home c.loop-k.seats c.loop-k.k c.args.slot c.index-seats-k.result low so_far.shared

pub take_from_seat-requires-clause-inside : goal.take_from_seat-requires-clause-inside
take_from_seat-requires-clause-inside c =
    let so_far = c.loop-k.invariant in
    let low : c.loop-k.k < length c.loop-k.seats = omega arith in
    inside-seat c.args.slot c.loop-k.seats c.loop-k.k c.index-seats-k.result low
    (subst (λ out. IsAllIn c.args.slot out) (sym so_far.out) c.requires.inside)

pub loop-k-preserved : goal.loop-k-preserved
loop-k-preserved c =
    let so_far = c.loop-k.invariant in
    let now = c.take_from_seat in
    let low : c.loop-k.k < length c.loop-k.seats = omega arith in
    taken-next c.rows_fold_apart.ensures c.args.slot c.args.home.now c.args.seats.now c.loop-k.home c.loop-k.seats c.loop-k.k now.new.home
    c.index-seats-k.result now.new.seat so_far low now.ensures.taken.moved now.ensures.taken.others now.ensures.seat

pub returns-clause-stays : goal.returns-clause-stays
returns-clause-stays c = let so_far = c.loop-k.invariant in record { out = so_far.out; shared = so_far.shared }

pub returns-clause-none : goal.returns-clause-none
returns-clause-none c =
    let so_far = c.loop-k.invariant in
    let wide = so_far.wide in
    taken-all c.args.slot c.args.home.now c.args.seats.now c.loop-k.home c.loop-k.seats c.loop-k.k so_far (omega arith)
