use Rattle.star_binder.proofs.ConjunctLemmas.{conjuncts-Both}
use Rattle.star_binder.proofs.named.conjuncts_in.Goals as goal

pub returns-in-Both : goal.returns-in-Both
returns-in-Both c = conjuncts-Both c.args.tree.now c.in-Both.list c.as_slice.result.now c.in-Both.is c.as_slice.ensures.value
