-- Which kind of change a change is.
use Rattle.query_meaning.specs.History.{Change, DimensionDeclared, FactDeclared, Loaded, Ended}
use Rattle.star_store.specs.declared.applied.ChangeKind.{ChangeKind}
use Rattle.star_store.specs.declared.applied.ChangeKind.TheVariants.{DeclaresDimension, DeclaresFact, Loads, Ends}

-- the kind of a change
abbrev pub kind_of_change : Change → ChangeKind
kind_of_change (DimensionDeclared table) = DeclaresDimension
kind_of_change (FactDeclared table) = DeclaresFact
kind_of_change (Loaded table rows) = Loads table
kind_of_change (Ended positions) = Ends
