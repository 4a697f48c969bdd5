use Rattle.std.specs.Vec.Iter.{into_iter_items}
use Rattle.dimension_rows.specs.declared.dimension_row.TheConstants.{MAX_DIMENSION_ROWS}
use Rattle.star_store.proofs.RowLemmas.{AreAppendedTo-may, AreAppendedTo-next}
use Rattle.star_store.proofs.rows.append_rows.Goals as goal

pub append-requires : goal.append-requires
append-requires c =
    let may = AreAppendedTo-may c.args.commit MAX_DIMENSION_ROWS c.args.dimension.now.items c.rows.dimension.items c.args.rows
    (into_iter_items c.rows.row-iterator) (into_iter_items c.next.new.self) c.in-Some.row c.rows.dimension.room c.rows.invariant
    c.in-Some.ensures.steps.0 in
    record { follows = record { few = may.0; key = may.2; fresh = may.3 } }

pub rows-preserved : goal.rows-preserved
rows-preserved c =
    let may = AreAppendedTo-may c.args.commit MAX_DIMENSION_ROWS c.args.dimension.now.items c.rows.dimension.items c.args.rows
    (into_iter_items c.rows.row-iterator) (into_iter_items c.next.new.self) c.in-Some.row c.rows.dimension.room c.rows.invariant
    c.in-Some.ensures.steps.0 in
    let items = rw c.unwrap.ensures at c.append.ensures.items in
    let room = rw c.unwrap.ensures at c.append.ensures.room may.1 in
    rw items
    (AreAppendedTo-next c.args.commit MAX_DIMENSION_ROWS c.args.dimension.now.items c.rows.dimension.items c.args.rows
    (into_iter_items c.rows.row-iterator) (into_iter_items c.next.new.self) c.in-Some.row c.rows.dimension.room c.append.new.self.room
    c.a_new_row_moves_no_other.ensures.others c.rows.invariant c.in-Some.ensures.steps.0 room)
