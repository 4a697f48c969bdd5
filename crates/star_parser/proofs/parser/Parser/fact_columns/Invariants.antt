use Rattle.std.proofs.Common.{◌≡◌, length}
use Rattle.star_parser.specs.Reader.{with_front}
use Rattle.star_parser.specs.Reading.{fact_columns_at}
use Rattle.star_parser.proofs.parser.Parser.fact_columns.Given as goal

-- the members so far and those of the rest are those of all
abbrev pub invariant-members : goal.invariant-members
invariant-members l = with_front l.columns.items (fact_columns_at l.self.rest.now) ≡ fact_columns_at l.initial.self.rest.now

abbrev pub decreases-members : goal.decreases-members
decreases-members l = length l.self.rest.now
