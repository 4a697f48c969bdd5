use Rattle.std.proofs.Common.{Err, length, sym, subst, ap}
use Rattle.std.specs.Prelude.{IfOk}
use Rattle.star_parser.specs.Statement.{statement_of}
use Rattle.star_parser.specs.Parsed.{IsParsed, parsed_by}
use Rattle.star_parser.specs.Reading.{sentence_at}
use Rattle.star_parser.specs.Sentence.{IsSentenceOf, IsStopOf}
use Rattle.star_parser.proofs.ParsedLemmas.{over_parsed, within_parsed}
use Rattle.star_parser.proofs.reading.parse.Goals as goal

pub returns-in-Ok-clause-read : goal.returns-in-Ok-clause-read
returns-in-Ok-clause-read c =
    subst (λ z. IfOk c.read_sentence.result (λ ast. IsSentenceOf z (statement_of ast))) c.in-Ok.ensures.read c.read_sentence.ensures.read

pub returns-in-Ok-clause-only : goal.returns-in-Ok-clause-only
returns-in-Ok-clause-only c = λ meaning is within.
    c.read_sentence.ensures.only meaning (subst (λ z. IsSentenceOf z meaning) (sym c.in-Ok.ensures.read) is)

pub returns-in-Ok-clause-syntax : goal.returns-in-Ok-clause-syntax
returns-in-Ok-clause-syntax c = λ place is.
    subst (λ z. IsStopOf z (length c.args.line.now) place) c.in-Ok.ensures.read (c.read_sentence.ensures.syntax place is)

pub returns-in-Ok-clause-exact : goal.returns-in-Ok-clause-exact
returns-in-Ok-clause-exact c =
    let here = subst (λ z. IsParsed c.read_sentence.result (parsed_by z (length c.args.line.now) (sentence_at z.symbols))) c.in-Ok.ensures.read c.read_sentence.ensures.exact in
    subst (IsParsed c.read_sentence.result) (sym (within_parsed c.limits_are_tested.ensures c.args.line.now c.in-Ok.ensures.within)) here

pub returns-in-Err-Limit-clause-exact : goal.returns-in-Err-Limit-clause-exact
returns-in-Err-Limit-clause-exact c =
    over_parsed c.limits_are_tested.ensures c.args.line.now (c.in-Err-Limit.ensures.limit (ap Err c.in-Err-Limit.field-0-is))
