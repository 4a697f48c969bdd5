use Rattle.star_values.proofs.LiteralLemmas.{cmp-same, searched-any}
use Rattle.star_values.proofs.literal_list.has_sorted.Goals as goal

pub returns : goal.returns
returns c =
    searched-any c.args.literals.now c.args.value.now _ c.binary_search.result (cmp-same c.args.value.now) c.requires c.is_ok.result c.is_ok.ensures.value
    (λ i is. rw is at c.binary_search.ensures.bound) c.binary_search.ensures.position
