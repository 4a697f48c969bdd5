use Rattle.std.proofs.Common.{◌≡◌, ◌≤◌, ◌++◌, drop, length, option_map}
use Rattle.std.specs.List.{All}
use Rattle.filter_order.specs.Filters.{left_of, rows_or_none}
use Rattle.filter_order.specs.Spares.{AreApart, IsSpareFor, with_all_taken}
use Rattle.filter_order.proofs.spares.take_left.Given as goal

-- what was taken, and what is still to take, is all
abbrev pub invariant-order : goal.invariant-order
invariant-order l = let rows = rows_or_none (option_map (λ batch. batch.now) l.batch) in record {
  few : length l.versions ≤ l.dimension-index;
  versions :
      l.versions ++ left_of l.filters.versions rows (drop l.dimension-index l.order)
      ≡ left_of l.filters.versions rows l.order;
  apart : AreApart (left_of l.filters.versions rows (drop l.dimension-index l.order));
  kept : All (IsSpareFor l.seat l.spares)
      (left_of l.filters.versions rows (drop l.dimension-index l.order));
  left :
      with_all_taken l.seat
      (left_of l.filters.versions rows (drop l.dimension-index l.order)) l.spares
      ≡ with_all_taken l.seat (left_of l.filters.versions rows l.order) l.initial.spares;
}
