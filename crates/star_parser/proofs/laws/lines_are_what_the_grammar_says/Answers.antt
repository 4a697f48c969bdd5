use Rattle.star_parser.proofs.ParsedLemmas.{over_is, means_is, stopped_is}
use Rattle.star_parser.proofs.laws.lines_are_what_the_grammar_says.Goals as goal

pub returns-clause-over : goal.returns-clause-over
returns-clause-over c = over_is c.limits_are_tested.ensures

pub returns-clause-means : goal.returns-clause-means
returns-clause-means c = means_is c.limits_are_tested.ensures

pub returns-clause-stopped : goal.returns-clause-stopped
returns-clause-stopped c = stopped_is c.limits_are_tested.ensures
