use Rattle.std.proofs.Common.{◌≡◌, ◌++◌, map, drop}
use Rattle.star_parser.specs.Condition.{condition_of, conditions}
use Rattle.star_parser.specs.Printed.{both_symbols, both_symbols_from, either_symbols, either_symbols_from}
use Rattle.star_parser.proofs.print_conditions.+printing.Given as goal

-- what is written so far, and what the rest is written as, are all
abbrev pub invariant-add_both-members : goal.invariant-add_both-members
invariant-add_both-members l =
    l.out.items ++ both_symbols_from l.behind_another (conditions (map condition_of (drop l.member-index l.members)))
    ≡ l.initial.out.items ++ both_symbols (conditions (map condition_of l.members))

-- what is written so far, and what the rest is written as, are all
abbrev pub invariant-add_either-members : goal.invariant-add_either-members
invariant-add_either-members l =
    l.out.items ++ either_symbols_from l.behind_another (conditions (map condition_of (drop l.member-index l.members)))
    ≡ l.initial.out.items ++ either_symbols (conditions (map condition_of l.members))
