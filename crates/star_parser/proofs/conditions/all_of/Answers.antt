use Rattle.std.proofs.Common.{sym, ◌∙◌}
use Rattle.star_parser.specs.Condition.{condition_of, Both}
use Rattle.star_parser.proofs.TreeLemmas.{alone_or-many}
use Rattle.star_parser.proofs.conditions.all_of.Goals as goal

pub returns-else-len-eq1 : goal.returns-else-len-eq1
returns-else-len-eq1 c =
    c.conjunction.ensures ∙ sym (alone_or-many condition_of Both c.args.members.items (λ one. c.if-len-eq1.false (c.len.ensures ∙ c.args.members.ok.0 ∙ one)))
