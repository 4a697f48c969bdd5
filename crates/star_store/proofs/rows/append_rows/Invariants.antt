use Rattle.std.specs.Vec.Iter.{into_iter_items}
use Rattle.dimension_rows.specs.declared.dimension_row.TheConstants.{MAX_DIMENSION_ROWS}
use Rattle.star_store.proofs.RowLemmas.{AreAppendedTo}
use Rattle.star_store.proofs.rows.append_rows.Given as goal

abbrev pub invariant-rows : goal.invariant-rows
invariant-rows l =
    AreAppendedTo l.commit MAX_DIMENSION_ROWS l.fn.dimension.items l.dimension.items l.fn.rows (into_iter_items l.row-iterator) l.dimension.room
