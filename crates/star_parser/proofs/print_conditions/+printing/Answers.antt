use Rattle.std.proofs.Common.{[], ◌∷◌, ◌++◌, map, ap, sym, ◌∙◌}
use Rattle.std.proofs.lemmas.Result.{IfOk-equal}
use Rattle.star_lexer.specs.declared.sign.Sign.TheVariants as mark
use Rattle.star_lexer.specs.declared.symbol.Symbol.TheVariants as symbol
use Rattle.star_parser.specs.Condition.{conditions, condition_of}
use Rattle.star_parser.specs.Printed.{in_brackets, one_symbols, all_symbols, both_symbols, either_symbols}
use Rattle.star_parser.proofs.MemberLemmas.{both_turn, either_turn, brackets_behind}
use Rattle.star_parser.proofs.TreeLemmas.{both_by, either_by}
use Rattle.star_parser.proofs.print_conditions.+printing.Goals as goal

pub add_both-members-preserved : goal.add_both-members-preserved
add_both-members-preserved t c =
    both_turn c.args.members.now c.members.member-index c.member-item.result c.members.behind_another c.members.out.items c.add_between_members.new.out.items c.add_one.new.out.items
    (c.args.out.now.items ++ both_symbols (conditions (map condition_of c.args.members.now)))
    c.members-test.true c.member-item.is c.members.invariant c.in_ok-add_between_members.ensures c.in_ok-add_one.ensures

pub add_either-members-preserved : goal.add_either-members-preserved
add_either-members-preserved t c =
    either_turn c.args.members.now c.members.member-index c.member-item.result c.members.behind_another c.members.out.items c.add_between_members.new.out.items c.add_all.new.out.items
    (c.args.out.now.items ++ either_symbols (conditions (map condition_of c.args.members.now)))
    c.members-test.true c.member-item.is c.members.invariant c.in_ok-add_between_members.ensures c.in_ok-add_all.ensures

pub add_one-returns-in_ok-add_either-in-Either : goal.add_one-returns-in_ok-add_either-in-Either
add_one-returns-in_ok-add_either-in-Either t c =
    let front = c.args.out.now.items in
    let inner = either_symbols (conditions (map condition_of c.as_slice.result.now)) in
    IfOk-equal c.add_sign-in-Either.result c.add_sign-in-Either.new.out.items (c.add_either.new.out.items ++ symbol.Sign mark.Close ∷ []) (front ++ one_symbols (condition_of c.args.tree.now)) c.add_sign-in-Either.ensures
    (brackets_behind front c.add_sign.new.out.items c.add_either.new.out.items inner c.in_ok-add_sign-in-Either.ensures c.in_ok-add_either-in-Either.ensures
    ∙ ap (λ z. front ++ in_brackets (either_symbols (conditions (map condition_of z)))) c.as_slice.ensures.value
    ∙ ap (λ z. front ++ one_symbols z) (sym (either_by c.args.tree.now c.in-Either.list c.in-Either.is)))

pub add_one-returns-in_ok-add_both-in-Both : goal.add_one-returns-in_ok-add_both-in-Both
add_one-returns-in_ok-add_both-in-Both t c =
    let front = c.args.out.now.items in
    let inner = both_symbols (conditions (map condition_of c.as_slice-in-Both.result.now)) in
    IfOk-equal c.add_sign-in-Both-2.result c.add_sign-in-Both-2.new.out.items (c.add_both.new.out.items ++ symbol.Sign mark.Close ∷ []) (front ++ one_symbols (condition_of c.args.tree.now)) c.add_sign-in-Both-2.ensures
    (brackets_behind front c.add_sign-in-Both.new.out.items c.add_both.new.out.items inner c.in_ok-add_sign-in-Both.ensures c.in_ok-add_both-in-Both.ensures
    ∙ ap (λ z. front ++ in_brackets (both_symbols (conditions (map condition_of z)))) c.as_slice-in-Both.ensures.value
    ∙ ap (λ z. front ++ one_symbols z) (sym (both_by c.args.tree.now c.in-Both.list c.in-Both.is)))

pub add_all-returns-in-Both : goal.add_all-returns-in-Both
add_all-returns-in-Both t c =
    let front = c.args.out.now.items in
    IfOk-equal c.add_both.result c.add_both.new.out.items (front ++ both_symbols (conditions (map condition_of c.as_slice.result.now))) (front ++ all_symbols (condition_of c.args.tree.now)) c.add_both.ensures
    (ap (λ z. front ++ both_symbols (conditions (map condition_of z))) c.as_slice.ensures.value
    ∙ ap (λ z. front ++ all_symbols z) (sym (both_by c.args.tree.now c.in-Both.list c.in-Both.is)))
