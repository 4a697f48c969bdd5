use Rattle.std.proofs.Common.{rules, sym, ◌∙◌}
use Rattle.star_lexer.proofs.LineLemmas.{next_end, next_bad, next_token}
use Rattle.star_lexer.proofs.SpacedLemmas.{spaced_end, spaced_bad, spaced_token}
use Rattle.star_lexer.proofs.lexeme.next_token.Goals as goal

pub returns-then-is_empty-clause-next : goal.returns-then-is_empty-clause-next
returns-then-is_empty-clause-next c =
    next_end c.args.place c.args.bytes.now c.blanks_len-blanks.result c.split_at.result.1.now
    c.blanks_len-blanks.ensures.len c.split_at.ensures.back (search rules)

pub returns-then-is_empty-clause-spaced : goal.returns-then-is_empty-clause-spaced
returns-then-is_empty-clause-spaced c =
    spaced_end c.args.bytes.now c.blanks_len-blanks.result c.split_at.result.1.now
    c.blanks_len-blanks.ensures.len c.blanks_len-blanks.ensures.within c.split_at.ensures.back (search rules)

pub returns-in-Some-clause-next : goal.returns-in-Some-clause-next
returns-in-Some-clause-next c = (
  next_token c.args.place c.args.bytes.now c.blanks_len-blanks.result c.split_at.result.1.now c.in-Some.what c.in-Some.len
      c.blanks_len-blanks.ensures.len c.split_at.ensures.back (sym c.token_at.ensures.found ∙ c.in-Some.is)
      c.in-Some.ensures.within.0 c.in-Some.ensures.within.1,
  search rules,
  search rules,
)

pub returns-in-Some-clause-spaced : goal.returns-in-Some-clause-spaced
returns-in-Some-clause-spaced c =
    spaced_token c.args.place c.args.bytes.now c.blanks_len-blanks.result c.split_at.result.1.now c.in-Some.what c.in-Some.len
    c.blanks_len-blanks.ensures.len c.split_at.ensures.back (sym c.token_at.ensures.found ∙ c.in-Some.is)
    c.in-Some.ensures.within.0 c.in-Some.ensures.within.1

pub returns-in-None-clause-next : goal.returns-in-None-clause-next
returns-in-None-clause-next c =
    next_bad c.args.place c.args.bytes.now c.blanks_len-blanks.result c.split_at.result.1.now
    c.blanks_len-blanks.ensures.len c.split_at.ensures.back (search rules) (sym c.token_at.ensures.found ∙ c.in-None.is)

pub returns-in-None-clause-spaced : goal.returns-in-None-clause-spaced
returns-in-None-clause-spaced c =
    spaced_bad c.args.place c.args.bytes.now c.blanks_len-blanks.result c.split_at.result.1.now
    c.blanks_len-blanks.ensures.len c.split_at.ensures.back (search rules) (sym c.token_at.ensures.found ∙ c.in-None.is)
