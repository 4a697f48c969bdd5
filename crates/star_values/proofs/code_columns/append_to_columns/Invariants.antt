use Rattle.star_values.specs.First.{HasCode, HasText}
use Rattle.star_values.proofs.FirstLemmas.{AreAppended}
use Rattle.star_values.proofs.code_columns.append_to_columns.Given as goal

abbrev pub invariant-loop-number : goal.invariant-loop-number
invariant-loop-number l = AreAppended HasCode HasText l.before l.row l.initial.columns l.columns l.number l.kept
