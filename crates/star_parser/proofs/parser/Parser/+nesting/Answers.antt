use Rattle.std.proofs.Common.{◌≡◌, ◌≤◌, ◌-◌, Some, map, subst, sym, ap, ◌∙◌, arith}
use Rattle.star_lexer.specs.declared.keyword.Keyword.TheVariants as key
use Rattle.star_parser.specs.Condition.{Both, Either, alone_or, conjuncts, disjuncts, condition_of}
use Rattle.star_parser.specs.Reader.{Gave, gives, is_word}
use Rattle.star_parser.specs.Reading.{one_at, all_by, all_at, any_at, conjuncts_at, disjuncts_at}
use Rattle.star_parser.proofs.SeparatedLemmas.{flat_on, smaller_on}
use Rattle.star_parser.proofs.ShorterLemmas.{one_shorter, all_shorter}
use Rattle.star_parser.proofs.StepLemmas.{bind_ok}
use Rattle.star_parser.proofs.OneLemmas.{one_else}
use Rattle.star_parser.proofs.parser.Parser.+nesting.Goals as goal

pub conjuncts-members-smaller : goal.conjuncts-members-smaller
unfolding conjuncts_at
conjuncts-members-smaller t c =
    smaller_on (is_word key.And) (one_at c.args.depth) (one_shorter c.args.depth) c.members.self.rest.now c.one.new.self.rest.now c.skip_keyword.new.self.rest.now
    (condition_of c.in_ok-one.field-0) c.in_ok-one.ensures (sym c.if-not-skip_keyword.ensures.skipped) c.skip_keyword.ensures.rest

pub conjuncts-members-preserved : goal.conjuncts-members-preserved
unfolding conjuncts_at
conjuncts-members-preserved t c =
    flat_on (is_word key.And) (one_at c.args.depth) conjuncts (one_shorter c.args.depth) (map condition_of c.members.trees.items) (map condition_of c.add_conjunct.new.members.items) c.members.self.rest.now c.one.new.self.rest.now
    c.skip_keyword.new.self.rest.now (condition_of c.in_ok-one.field-0) (conjuncts_at c.args.depth c.args.self.now.rest.now)
    c.members.invariant c.in_ok-one.ensures (sym c.if-not-skip_keyword.ensures.skipped) c.skip_keyword.ensures.rest c.in_ok-add_conjunct.ensures

pub disjuncts-members-smaller : goal.disjuncts-members-smaller
unfolding disjuncts_at all_at
disjuncts-members-smaller t c =
    smaller_on (is_word key.Or) (all_by (one_at c.args.depth)) (all_shorter (one_at c.args.depth) (one_shorter c.args.depth)) c.members.self.rest.now c.all.new.self.rest.now c.skip_keyword.new.self.rest.now
    (condition_of c.in_ok-all.field-0) c.in_ok-all.ensures (sym c.if-not-skip_keyword.ensures.skipped) c.skip_keyword.ensures.rest

pub disjuncts-members-preserved : goal.disjuncts-members-preserved
unfolding disjuncts_at all_at
disjuncts-members-preserved t c =
    flat_on (is_word key.Or) (all_by (one_at c.args.depth)) disjuncts (all_shorter (one_at c.args.depth) (one_shorter c.args.depth)) (map condition_of c.members.trees.items) (map condition_of c.add_disjunct.new.members.items) c.members.self.rest.now c.all.new.self.rest.now
    c.skip_keyword.new.self.rest.now (condition_of c.in_ok-all.field-0) (disjuncts_at c.args.depth c.args.self.now.rest.now)
    c.members.invariant c.in_ok-all.ensures (sym c.if-not-skip_keyword.ensures.skipped) c.skip_keyword.ensures.rest c.in_ok-add_disjunct.ensures

pub one-returns-else-skip_keyword : goal.one-returns-else-skip_keyword
one-returns-else-skip_keyword t c =
    let deep : (1 ≤ c.args.depth) × (c.in-Some.inner ≡ c.args.depth - 1) = c.in-Some.ensures in
    subst (λ z. Gave condition_of c.not_negated.result c.not_negated.new.self.rest.now z)
    (sym (one_else c.args.depth c.in-Some.inner c.args.self.now.rest.now c.skip_keyword.new.self.rest.now (omega (arith, deep.0, deep.1)) (sym c.if-skip_keyword.ensures.skipped) c.skip_keyword.ensures.rest))
    c.not_negated.ensures

pub any-returns : goal.any-returns
unfolding any_at disjuncts_at
any-returns t c =
    let rest = c.disjuncts.new.self.rest.now in
    bind_ok (λ ts. gives (alone_or Either ts)) (map condition_of c.in_ok-disjuncts.disjuncts.items) rest c.in_ok-disjuncts.ensures
    ∙ ap (λ z. (Some z, rest)) (sym c.any_of.ensures)

pub all-returns : goal.all-returns
unfolding all_at conjuncts_at
all-returns t c =
    let rest = c.conjuncts.new.self.rest.now in
    bind_ok (λ ts. gives (alone_or Both ts)) (map condition_of c.in_ok-conjuncts.conjuncts.items) rest c.in_ok-conjuncts.ensures
    ∙ ap (λ z. (Some z, rest)) (sym c.all_of.ensures)
