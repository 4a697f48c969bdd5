use Rattle.std.proofs.Common.{nat_eq, sym, subst}
use Rattle.std.specs.HashMap.{get}
use Rattle.dimension_rows.specs.Integers.{AreColumns}
use Rattle.dimension_rows.proofs.PartLemmas.{AreIndexed-append}
use Rattle.dimension_rows.proofs.parts.push_row.Goals as goal

pub returns-clause-puts : goal.returns-clause-puts
returns-clause-puts c =
    let parts = c.args.parts.now in
    let follows = c.requires.follows in
    let old = rw c.unwrap.ensures at c.insert-inserted.ensures.old in
    let updates = rw c.unwrap.ensures at c.insert-inserted.ensures.updates in
    record {
      items = c.push_reserved-2.ensures.items;
      indexed =
          rw (c.push_reserved-2.ensures.items, c.push_reserved.ensures.items)
          (AreIndexed-append c.args.hash_keys parts.rows.items c.args.entry parts.older.items (get nat_eq parts.newest) (get nat_eq c.insert-inserted.new.self)
          c.row_hash.result c.len-before.result c.unwrap.result c.requires.indexed follows.few follows.key follows.fresh
          c.row_hash.ensures c.len-before.ensures old updates.0);
      rows_room = c.push_reserved-2.ensures.room;
      older_room = c.push_reserved.ensures.room;
      newest_room = c.insert-inserted.ensures.spare;
    }

pub returns-clause-columns : goal.returns-clause-columns
returns-clause-columns c = λ columns.
    subst (λ rows. AreColumns rows c.append_to_columns-kept.new.integers c.append_to_columns-kept.new.codes) (sym c.push_reserved-2.ensures.items)
    (c.append_to_columns-kept.ensures.columns c.args.parts.now.rows.items (sym c.len-before.ensures) columns c.args.entry.commit)
