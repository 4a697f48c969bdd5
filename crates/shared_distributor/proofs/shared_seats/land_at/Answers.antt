use Rattle.std.proofs.Common.{◌<◌, ◌∙◌, ap, length, map, set}
use Rattle.std.proofs.lemmas.List.{map-set}
use Rattle.shared_distributor.specs.Seats.{lending_in}
use Rattle.shared_distributor.proofs.LandLemmas.{MayCome, may-come, out-low, seen-come, shared-come, spoiled-come}
use Rattle.shared_distributor.proofs.shared_seats.land_at.Goals as goal

pub land_at_seat-requires-clause-may : goal.land_at_seat-requires-clause-may
land_at_seat-requires-clause-may c =
    let low : c.args.seat < length c.args.seats.now = out-low c.args.seats.now c.args.seat (MayCome c.args.batch.now c.args.lost c.args.own)
    c.requires.folded in
    may-come c.args.batch.now c.args.lost c.args.own c.args.seats.now c.args.seat c.index-seats-seat.result low c.requires.folded c.args.home.now
    c.requires.shared
    c.rows_fold_apart.ensures c.requires.room

pub returns-clause-seen : goal.returns-clause-seen
returns-clause-seen c =
    let low : c.args.seat < length c.args.seats.now = out-low c.args.seats.now c.args.seat (MayCome c.args.batch.now c.args.lost c.args.own)
    c.requires.folded in
    let now = c.land_at_seat in
    seen-come c.args.batch.now c.args.lost c.args.own c.args.seats.now c.args.seat c.index-seats-seat.result low c.requires.folded c.args.home.now
    c.requires.shared
    c.rows_fold_apart.ensures c.requires.room now.new.home now.new.seat now.result now.ensures.seat.long now.ensures.seat.fits now.ensures.landed.each

pub returns-clause-spoiled : goal.returns-clause-spoiled
returns-clause-spoiled c slot has =
    let low : c.args.seat < length c.args.seats.now = out-low c.args.seats.now c.args.seat (MayCome c.args.batch.now c.args.lost c.args.own)
    c.requires.folded in
    let now = c.land_at_seat in
    spoiled-come c.args.batch.now c.args.lost c.args.own c.args.seats.now c.args.seat c.index-seats-seat.result low c.requires.folded
    c.args.home.now c.requires.shared
    c.rows_fold_apart.ensures c.requires.room now.new.home now.new.seat now.result now.ensures.seat.long now.ensures.seat.fits now.ensures.landed.each slot has
    (now.ensures.landed.low slot has)

pub returns-clause-stays : goal.returns-clause-stays
returns-clause-stays c =
    let low : c.args.seat < length c.args.seats.now = out-low c.args.seats.now c.args.seat (MayCome c.args.batch.now c.args.lost c.args.own)
    c.requires.folded in
    let now = c.land_at_seat in
    record {
      out = map-set lending_in c.args.seats.now c.args.seat now.new.seat ∙ ap (set (map lending_in c.args.seats.now) c.args.seat) now.ensures.home;
      shared =
          shared-come c.args.batch.now c.args.lost c.args.own c.args.seats.now c.args.seat c.index-seats-seat.result low c.requires.folded
          c.args.home.now c.requires.shared
          c.rows_fold_apart.ensures c.requires.room now.new.home now.new.seat now.result now.ensures.seat.long now.ensures.seat.fits now.ensures.landed.each;
    }
