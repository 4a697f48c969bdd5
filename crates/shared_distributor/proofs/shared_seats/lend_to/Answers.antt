use Rattle.std.proofs.Common.{◌≡◌, ◌<◌, ◌∙◌, ap, arith, get_or, length, map, set, sym}
use Rattle.std.specs.Prelude.{None}
use Rattle.std.proofs.Math.Seq.{map-set_same}
use Rattle.std.proofs.lemmas.List.{length-map, map-set}
use Rattle.std.proofs.lemmas.Option.{IfSome_then, get_or_from_slice_get, slice_get_within}
use Rattle.shared_distributor.specs.Seats.{lending_in}
use Rattle.shared_distributor.proofs.LandLemmas.{few-lent, if-both}
use Rattle.shared_distributor.proofs.SeatLemmas.{lending-get, pair-at, seat-moved}
use Rattle.shared_distributor.proofs.shared_seats.lend_to.Goals as goal

pub lend_to_seat-requires-clause-may : goal.lend_to_seat-requires-clause-may
lend_to_seat-requires-clause-may c =
    let within = slice_get_within (map lending_in c.args.seats.now) c.args.seat None c.requires.home in
    let long = length-map c.args.seats.now lending_in in
    let low : c.args.seat < length c.args.seats.now = omega (arith, within, long) in
    let d = c.index-seats-seat.result in
    record {
      none =
          sym (lending-get c.args.seats.now c.args.seat d low)
          ∙ get_or_from_slice_get (map lending_in c.args.seats.now) c.args.seat None None c.requires.home;
      fits = c.requires.shared.seats c.args.seat d low;
      pairs = λ slot. pair-at c.args.home.now c.args.seats.now c.args.seat slot d low c.requires.shared;
    }

pub returns-clause-seen : goal.returns-clause-seen
returns-clause-seen c =
    let within = slice_get_within (map lending_in c.args.seats.now) c.args.seat None c.requires.home in
    let long = length-map c.args.seats.now lending_in in
    let low : c.args.seat < length c.args.seats.now = omega (arith, within, long) in
    let now = c.lend_to_seat in
    seat-moved c.rows_fold_apart.ensures c.args.home.now now.new.home c.args.seats.now c.args.seat c.index-seats-seat.result now.new.seat low
    c.requires.shared
    now.ensures.seat.long now.ensures.seat.fits now.ensures.moved

pub returns-clause-out : goal.returns-clause-out
returns-clause-out c =
    let now = c.lend_to_seat in
    IfSome_then now.result now.ensures.out.out
    (λ own is. map-set lending_in c.args.seats.now c.args.seat now.new.seat ∙ ap (set (map lending_in c.args.seats.now) c.args.seat) is)

pub returns-clause-none : goal.returns-clause-none
returns-clause-none c none =
    let within = slice_get_within (map lending_in c.args.seats.now) c.args.seat None c.requires.home in
    let long = length-map c.args.seats.now lending_in in
    let low : c.args.seat < length c.args.seats.now = omega (arith, within, long) in
    let d = c.index-seats-seat.result in
    let now = c.lend_to_seat in
    let was : lending_in (get_or c.args.seats.now c.args.seat d) ≡ None =
    sym (lending-get c.args.seats.now c.args.seat d low) ∙ get_or_from_slice_get (map lending_in c.args.seats.now) c.args.seat None None
    c.requires.home in
    map-set_same lending_in c.args.seats.now c.args.seat now.new.seat d (now.ensures.out.none none ∙ sym was)

pub returns-clause-few : goal.returns-clause-few
returns-clause-few c =
    let within = slice_get_within (map lending_in c.args.seats.now) c.args.seat None c.requires.home in
    let long = length-map c.args.seats.now lending_in in
    let low : c.args.seat < length c.args.seats.now = omega (arith, within, long) in
    let now = c.lend_to_seat in
    let same = (seat-moved c.rows_fold_apart.ensures c.args.home.now now.new.home c.args.seats.now c.args.seat c.index-seats-seat.result
    now.new.seat low c.requires.shared
    now.ensures.seat.long now.ensures.seat.fits now.ensures.moved).0 in
    IfSome_then now.result (if-both now.result _ _ now.ensures.out.out now.ensures.out.inside)
    (λ own is.
    few-lent c.args.seats.now c.args.home.now now.new.home c.args.seat now.new.seat (record { slots = c.args.slots; groups = own }) low is.0 is.1
    same)
