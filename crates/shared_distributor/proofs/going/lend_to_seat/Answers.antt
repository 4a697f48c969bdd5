use Rattle.std.proofs.Common.{◌≡◌, ◌∙◌, length, subst, sym, rules}
use Rattle.shared_distributor.specs.declared.seats.SeatGroups.{SeatGroups}
use Rattle.shared_distributor.specs.Seats.{IsSeat}
use Rattle.shared_distributor.proofs.ComingLemmas.{on_not_err}
use Rattle.shared_distributor.proofs.SeatLemmas.{is-out}
use Rattle.shared_distributor.proofs.going.lend_to_seat.Goals as goal

pub prepare-requires-clause-long : goal.prepare-requires-clause-long
prepare-requires-clause-long c =
    c.in_ok-own.ensures.long c.args.home.now (sym c.slots.ensures.count)
    (subst (λ (seat : SeatGroups). IsSeat c.args.home.now seat) (sym c.replace.ensures.value) c.requires.may.fits)

pub returns-in_err-own-clause-seat : goal.returns-in_err-own-clause-seat
returns-in_err-own-clause-seat c = record { long = search rules; fits = search rules }

pub returns-in_err-own-clause-out : goal.returns-in_err-own-clause-out
returns-in_err-own-clause-out c = record { out = search rules; none = search rules; inside = search rules }

pub returns-then-is_err-clause-seat : goal.returns-then-is_err-clause-seat
returns-then-is_err-clause-seat c =
    let same = c.prepare.ensures.long in
    let was : length c.in_ok-own.own ≡ length c.args.home.now =
    c.in_ok-own.ensures.long c.args.home.now (sym c.slots.ensures.count)
    (subst (λ (seat : SeatGroups). IsSeat c.args.home.now seat) (sym c.replace.ensures.value) c.requires.may.fits) in
    record {
      long = same.0;
      fits = subst (IsSeat c.prepare.new.home) (sym c.put_seat.ensures) (same.1 ∙ was ∙ sym same.0);
    }

pub returns-then-is_err-clause-out : goal.returns-then-is_err-clause-out
returns-then-is_err-clause-out c = record { out = search rules; none = search rules; inside = search rules }

pub returns-clause-seat : goal.returns-clause-seat
returns-clause-seat c =
    let same = c.prepare.ensures.long in
    let was : length c.in_ok-own.own ≡ length c.args.home.now =
    c.in_ok-own.ensures.long c.args.home.now (sym c.slots.ensures.count)
    (subst (λ (seat : SeatGroups). IsSeat c.args.home.now seat) (sym c.replace.ensures.value) c.requires.may.fits) in
    let ready = on_not_err c.prepare.result c.is_err.result _ c.is_err.ensures.value c.if-is_err.false c.prepare.ensures.ready in
    record {
      long = same.0;
      fits =
          subst (IsSeat c.prepare.new.home) (sym c.put_seat-2.ensures)
          (is-out c.prepare.new.home c.prepare.new.own (record { slots = c.args.slots; counts = c.counts_of.result; groups = c.of.result }) c.of.ensures
          (same.1 ∙ was ∙ sym same.0) ready c.counts_of.ensures);
    }

pub returns-clause-out : goal.returns-clause-out
returns-clause-out c = record { out = search rules; none = search rules; inside = search rules }
