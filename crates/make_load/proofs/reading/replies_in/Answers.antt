use Rattle.std.proofs.Common.{◌≡◌, [], Some, length, rules, ap, subst}
use Rattle.std.proofs.lemmas.List.{nil_from_length}
use Rattle.make_load.proofs.ReplyLemmas.{IsReadTo, all_read, found_is, none_at, none_is, none_read, one_more_at}
use Rattle.make_load.proofs.reading.replies_in.Goals as goal

pub replies-init : goal.replies-init
replies-init c = rw c.new-list.ensures (none_read c.args.bytes.now)

pub replies-preserved : goal.replies-preserved
replies-preserved c =
    one_more_at c.args.bytes.now c.replies.list _ c.replies.rest.now _ c.in-Some.reply c.in-Some.len c.replies.invariant
    (found_is _ _ _ _ c.in-Some.is c.in-Ok.ensures.some c.in-Ok.ensures.back) (search rules) c.in_ok-push.ensures.ok c.split_at.ensures.back

pub returns-in_default-found-clause-none : goal.returns-in_default-found-clause-none
returns-in_default-found-clause-none c =
    none_at c.args.bytes.now c.replies.list c.replies.rest.now c.replies.invariant (search rules)
    (none_is c.replies.rest.now c.in-Ok.found c.in_default-found.is c.in-Ok.ensures.back)

pub returns-in_default-found-clause-back : goal.returns-in_default-found-clause-back
returns-in_default-found-clause-back c =
    λ list formed e. absurd (none_at c.args.bytes.now c.replies.list c.replies.rest.now c.replies.invariant (search rules)
    (none_is c.replies.rest.now c.in-Ok.found c.in_default-found.is c.in-Ok.ensures.back) list formed e)

pub returns-clause-back : goal.returns-clause-back
returns-clause-back c = λ list formed e.
    let none : length c.replies.rest.now ≡ 0 = search rules in
    let all : IsReadTo c.args.bytes.now c.replies.list [] =
    subst (λ rest. IsReadTo c.args.bytes.now c.replies.list rest) (nil_from_length c.replies.rest.now none) c.replies.invariant in
    ap Some (all_read c.args.bytes.now c.replies.list all list formed e)
