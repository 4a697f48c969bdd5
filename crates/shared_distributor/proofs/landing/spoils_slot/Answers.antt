use Rattle.std.proofs.Common.{rules, ◌≡◌, Bool, get_or, subst, sym}
use Rattle.std.specs.Prelude.{None, IsSome}
use Rattle.distributor.specs.Adding.{with_slot_keys}
use Rattle.shared_distributor.specs.Apart.{HasLanded, HasSettled, MayLand}
use Rattle.shared_distributor.proofs.ComingLemmas.{at-set, landed-settled, on_not_err, places-given, settle-rows}
use Rattle.shared_distributor.proofs.landing.spoils_slot.Goals as goal

pub add_groups_at-requires-clause-places : goal.add_groups_at-requires-clause-places
add_groups_at-requires-clause-places c =
    places-given c.args.is_lost c.args.from (get_or c.args.home.now c.args.slot None) (get_or c.args.out.now.value c.args.slot None)
    (get_or c.args.own.now c.args.slot None) c.if-is_lost.false c.requires.may

pub settle-requires-clause-rows : goal.settle-requires-clause-rows
settle-requires-clause-rows c =
    let home = get_or c.args.home.now c.args.slot None in
    let own = get_or c.args.own.now c.args.slot None in
    let out = get_or c.args.out.now.value c.args.slot None in
    settle-rows c.rows_fold_apart.ensures c.args.is_lost c.args.from home out own (get_or c.add_groups_at.new.self c.args.slot None)
    c.if-is_lost.false c.requires.may
    c.count_at-first.ensures.first
    (at-set c.args.home.now c.add_groups_at.new.self c.args.slot (with_slot_keys c.args.from own home) c.requires.slot
    (on_not_err c.add_groups_at.result c.is_err.result _ c.is_err.ensures.value c.if-is_err.false c.add_groups_at.ensures.ok))

pub returns-clause-landed : goal.returns-clause-landed
returns-clause-landed c =
    let home = get_or c.args.home.now c.args.slot None in
    let own = get_or c.args.own.now c.args.slot None in
    let out = get_or c.args.out.now.value c.args.slot None in
    let at = get_or c.add_groups_at.new.self c.args.slot None in
    let later = get_or c.settle.new.home c.args.slot None in
    let kept = get_or c.settle.new.own c.args.slot None in
    let M : Bool → Type 0 = λ t. MayLand t c.args.from home out own in
    let L : Bool → Type 0 = λ t. HasLanded t c.is_err-2.result home out own later kept in
    let S : Bool → Type 0 = λ t. HasSettled t at own later kept in
    let some : IsSome home = c.has.ensures.0 (search rules) in
    let is : at ≡ with_slot_keys c.args.from own home =
    at-set c.args.home.now c.add_groups_at.new.self c.args.slot (with_slot_keys c.args.from own home) c.requires.slot
    (on_not_err c.add_groups_at.result c.is_err.result _ c.is_err.ensures.value c.if-is_err.false c.add_groups_at.ensures.ok) in
    subst L (sym c.if-is_lost.false)
    (landed-settled c.rows_fold_apart.ensures c.is_err-2.result c.args.from home out own at later kept (subst M c.if-is_lost.false c.requires.may)
    some
    c.count_at-first.ensures.first is (subst S (sym c.is_err-2.ensures.value) c.settle.ensures.settled))
