use Rattle.std.proofs.Common.{◌≡◌, ◌++◌, ◌+◌, drop, option_map, ap, ◌∙◌, subst, sym, arith}
use Rattle.std.specs.List.{All, cons_option}
use Rattle.filter_order.specs.Filters.{left_of, rows_or_none}
use Rattle.filter_order.specs.Spares.{AreApart, IsSpareFor, with_all_taken}
use Rattle.filter_order.proofs.TakingLemmas.{first-holds, left-next, taken-one}
use Rattle.filter_order.proofs.spares.take_left.Goals as goal

pub take_next-requires-clause-kept : goal.take_next-requires-clause-kept
take_next-requires-clause-kept c =
    let versions = c.args.filters.now.versions in
    let rows = rows_or_none (option_map (λ batch. batch.now) c.args.batch) in
    let order = c.args.order.now in
    let place = c.order.dimension-index in
    let low = c.order-test.true in
    first-holds c.left_to-left.result (λ version. version.now) (IsSpareFor c.args.seat c.order.spares)
    (left_of versions rows (drop (place + 1) order))
    (subst (All (IsSpareFor c.args.seat c.order.spares))
    (left-next versions rows order place _ (option_map (λ version. version.now) c.left_to-left.result)
    (omega arith) c.left_to-left.ensures)
    c.order.invariant.kept)

pub order-preserved : goal.order-preserved
order-preserved c =
    let seat = c.args.seat in
    let versions = c.args.filters.now.versions in
    let rows = rows_or_none (option_map (λ batch. batch.now) c.args.batch) in
    let order = c.args.order.now in
    let place = c.order.dimension-index in
    let low = c.order-test.true in
    let one = option_map (λ version. version.now) c.left_to-left.result in
    let rest = left_of versions rows (drop (place + 1) order) in
    let first : left_of versions rows (drop place order) ≡ cons_option one rest =
    left-next versions rows order place _ one (omega arith) c.left_to-left.ensures in
    let before = c.order.invariant in
    let next =
    taken-one seat c.order.spares c.take_next.new.spares c.order.versions
    c.take_next.new.versions one rest
    (subst AreApart first before.apart) (subst (All (IsSpareFor seat c.order.spares)) first before.kept)
    c.take_next.ensures.versions c.take_next.ensures.left in
    let few = before.few in
    let long = next.long in
    record {
      few = omega arith;
      versions = next.versions ∙ ap (λ list. c.order.versions ++ list) (sym first)
          ∙ before.versions;
      apart = next.apart;
      kept = next.kept;
      left = next.left ∙ ap (λ list. with_all_taken seat list c.order.spares) (sym first)
          ∙ before.left;
    }
