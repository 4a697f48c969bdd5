use Rattle.std.proofs.Common.{sym, ◌∙◌}
use Rattle.star_plan.proofs.RepeatLemmas.{repeats-from_sorted, repeats_alike}
use Rattle.std.specs.Ordering.{eq_by_cmp}
use Rattle.star_plan.proofs.repeat.sorts_to_repeat.Goals as goal

pub returns : goal.returns
returns g c =
    repeats-from_sorted g.T.Ord.cmp g.met.T.Ord.total c.args.members.now c.sort_unstable.new.self c.sort_unstable.ensures.permutation
    c.sort_unstable.ensures.sorted c.ascends.result c.ascends.ensures
    ∙ repeats_alike (eq_by_cmp g.T.Ord.cmp) g.T.PartialEq.eq c.args.members.now (λ x y. sym (g.met.T.Ord.matches_eq x y))
