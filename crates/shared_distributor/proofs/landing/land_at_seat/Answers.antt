use Rattle.std.proofs.Common.{◌≡◌, ◌==◌, ℕ, get_or, subst, sym, rules}
use Rattle.std.specs.Prelude.{None}
use Rattle.std.specs.Int.{bit_at}
use Rattle.shared_distributor.specs.declared.seats.SeatGroups.{SeatGroups}
use Rattle.shared_distributor.specs.declared.seats.SeatGroups.TheVariants.{AtHome, Away}
use Rattle.shared_distributor.specs.Apart.{MayLand, count_in}
use Rattle.shared_distributor.specs.Seats.{HaveLanded, IsOut, IsSeat, own_in}
use Rattle.shared_distributor.proofs.landing.land_at_seat.Goals as goal

pub take_home-spoiled-requires-clause-may : goal.take_home-spoiled-requires-clause-may
take_home-spoiled-requires-clause-may c slot low =
    let away : c.args.seat.now ≡ Away c.in-Away.lent = sym c.in-Away.ensures.value in
    let out : IsOut c.args.home.now c.in-Away.lent = subst (IsSeat c.args.home.now) away c.requires.may.fits in
    let M : SeatGroups → Type 0 = λ seat. MayLand (bit_at c.args.lost.now slot == 1) (count_in (get_or (own_in seat) slot None))
    (get_or c.args.home.now slot None)
    (get_or (own_in seat) slot None) (get_or c.args.own slot None) in
    let C : ℕ → Type 0 = λ n. MayLand (bit_at c.args.lost.now slot == 1) n (get_or c.args.home.now slot None)
    (get_or c.in-Away.lent.groups.value slot None)
    (get_or c.args.own slot None) in
    subst C (sym (out.counts slot low)) (subst M away (c.requires.may.each slot low))

pub returns-in_default-clause-landed : goal.returns-in_default-clause-landed
returns-in_default-clause-landed c = record { each = search rules; low = search rules }

pub returns-in_default-clause-seat : goal.returns-in_default-clause-seat
returns-in_default-clause-seat c = record { long = search rules; fits = search rules }

pub returns-clause-landed : goal.returns-clause-landed
returns-clause-landed c =
    let away : c.args.seat.now ≡ Away c.in-Away.lent = sym c.in-Away.ensures.value in
    let landed = c.take_home-spoiled in
    let L : SeatGroups → SeatGroups → Type 0 = λ seat now.
    HaveLanded c.args.lost.now landed.result c.args.home.now (own_in seat) c.args.own landed.new.home (own_in now) in
    subst (L c.args.seat.now) (sym c.put_seat.ensures) (subst (λ seat. L seat (AtHome landed.new.own)) (sym away) landed.ensures.landed)

pub returns-clause-seat : goal.returns-clause-seat
returns-clause-seat c = record { long = search rules; fits = search rules }
