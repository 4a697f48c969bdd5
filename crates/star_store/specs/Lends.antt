-- What shared tables end as, where the store was lent to be written.
use Rattle.std.specs.Prelude.{Option}
use Rattle.std.specs.Borrow.{LendsIf, MutBor, Fml}
use Rattle.query_meaning.specs.Keyed.{KeyedStore}
use Rattle.star_store.specs.contracts.store.Store.{the_row as store_layout}
use Rattle.star_store.specs.contracts.tables.Tables.{the_row as tables_layout}

-- the tables end as the store was last written, or as they were where it was not lent
abbrev pub lends_store : MutBor KeyedStore → Option (MutBor KeyedStore) → Fml
lends_store tables store =
    LendsIf tables_layout store_layout tables store (λ written. written) tables.now
