use Rattle.std.proofs.Common.{refl}
use Rattle.query_meaning.specs.Store.{empty_store}
use Rattle.query_meaning.proofs.CommitLemmas.{commits_from}
use Rattle.query_meaning.proofs.laws_of_history.commits_are_counted.Goals as goal

pub returns : goal.returns
returns c = λ history. commits_from empty_store 0 history refl
