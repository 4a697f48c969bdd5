use Rattle.std.proofs.Common.{◌≡◌, drop, find}
use Rattle.star_binder.specs.Places.{stands_in}
use Rattle.star_binder.proofs.scope.Scope.first_table.Given as goal

-- the first of all tables in which the column stands is the first of those that are left
abbrev pub invariant-tables : goal.invariant-tables
invariant-tables l =
    find (stands_in l.self.schema l.column) (drop l.table-index l.self.tables) ≡ find (stands_in l.self.schema l.column) l.self.tables
