use Rattle.std.proofs.Common.{option_map}
use Rattle.star_plan.specs.Test.{test_of}
use Rattle.star_store.proofs.EndLemmas.{IsEndedTo}
use Rattle.star_store.proofs.ends.end_versions.Given as goal

abbrev pub invariant-positions : goal.invariant-positions
invariant-positions l =
    IsEndedTo (option_map (λ p. test_of p.now) l.condition) l.commit l.fn.facts.items l.facts.items l.position l.position-end l.ended
