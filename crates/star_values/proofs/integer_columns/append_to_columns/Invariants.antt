use Rattle.star_values.specs.First.{HasInteger}
use Rattle.star_values.proofs.FirstLemmas.{AreAppended}
use Rattle.star_values.proofs.integer_columns.append_to_columns.Given as goal

abbrev pub invariant-loop-number : goal.invariant-loop-number
invariant-loop-number l = AreAppended HasInteger HasInteger l.before l.row l.initial.columns l.columns l.number l.kept
