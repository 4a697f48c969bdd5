use Rattle.std.proofs.Common.{◌≡◌, Some, None, Err, ap, sym, subst, ◌∙◌}
use Rattle.std.specs.Prelude.{IfOk, IsErrOf}
use Rattle.std.specs.Option.{option_map_or}
use Rattle.star_parser.specs.declared.fault.ParseFault.TheVariants.{Limit, Syntax}
use Rattle.star_parser.specs.Statement.{statement_of}
use Rattle.star_parser.specs.Reader.{Gave}
use Rattle.star_parser.specs.Sentence.{Answers, IsSentenceOf, IsStopOf}
use Rattle.star_parser.specs.Parsed.{IsParsed, Stopped, Means, parsed_by}
use Rattle.star_parser.specs.Reading.{sentence_at}
use Rattle.star_parser.proofs.ReadsLemmas.{none_some, some_same}
use Rattle.star_parser.proofs.SentenceLemmas.{sentence_read, sentence_only, sentence_shorter, stops, stops_behind, whole_by}
use Rattle.star_parser.proofs.reading.read_sentence.Goals as goal

pub place_of-requires : goal.place_of-requires
place_of-requires c =
    let rest = c.sentence.new.self.rest.now in
    let gives = subst (λ z. Gave statement_of (Err z) rest (sentence_at c.as_slice.result.now)) c.in-Err-Unfit.field-0-is c.in-Err-Unfit.ensures in
    sentence_shorter c.args.symbols.now.symbols (None, rest) (ap sentence_at (sym c.as_slice.ensures.symbols) ∙ gives)

pub returns-in-Ok-clause-read : goal.returns-in-Ok-clause-read
returns-in-Ok-clause-read c =
    let line = c.args.symbols.now in
    let read = sentence_read line.symbols (statement_of c.in-Ok.ast) c.sentence.new.self.rest.now (ap sentence_at (sym c.as_slice.ensures.symbols) ∙ c.in-Ok.ensures) in
    whole_by (λ r. IfOk r (λ ast. IsSentenceOf line (statement_of ast))) line c.in-Ok.ast c.bad.result c.unless_bad.result c.unless_bad.ensures c.bad.ensures
    (λ place broken. tt) (λ whole. (whole, read))

pub returns-in-Ok-clause-only : goal.returns-in-Ok-clause-only
returns-in-Ok-clause-only c = λ meaning is.
    let line = c.args.symbols.now in
    whole_by (Answers meaning) line c.in-Ok.ast c.bad.result c.unless_bad.result c.unless_bad.ensures c.bad.ensures (λ place broken. none_some (sym is.0 ∙ broken))
    (λ whole. some_same (sentence_only line.symbols meaning (Some (statement_of c.in-Ok.ast), c.sentence.new.self.rest.now) (ap sentence_at (sym c.as_slice.ensures.symbols) ∙ c.in-Ok.ensures) is.1))

pub returns-in-Ok-clause-syntax : goal.returns-in-Ok-clause-syntax
returns-in-Ok-clause-syntax c = λ place is.
    let line = c.args.symbols.now in
    let found = ap sentence_at (sym c.as_slice.ensures.symbols) ∙ c.in-Ok.ensures in
    whole_by (λ r. IsErrOf r (Syntax place) → IsStopOf line c.args.end place) line c.in-Ok.ast c.bad.result c.unless_bad.result c.unless_bad.ensures c.bad.ensures
    (λ at broken err. stops_behind line c.args.end place (statement_of c.in-Ok.ast) c.sentence.new.self.rest.now found (broken ∙ ap Some (cc err)))
    (λ whole err. absurd (cc err)) is

pub returns-in-Ok-clause-limit : goal.returns-in-Ok-clause-limit
returns-in-Ok-clause-limit c =
    whole_by (λ r. ¬ (IsErrOf r Limit)) c.args.symbols.now c.in-Ok.ast c.bad.result c.unless_bad.result c.unless_bad.ensures c.bad.ensures
    (λ place broken err. absurd (cc err)) (λ whole err. absurd (cc err))

pub returns-in-Ok-clause-exact : goal.returns-in-Ok-clause-exact
returns-in-Ok-clause-exact c =
    let line = c.args.symbols.now in
    let meaning = statement_of c.in-Ok.ast in
    let by = ap (parsed_by line c.args.end) (ap sentence_at (sym c.as_slice.ensures.symbols) ∙ c.in-Ok.ensures) in
    whole_by (λ r. IsParsed r (parsed_by line c.args.end (sentence_at line.symbols))) line c.in-Ok.ast c.bad.result c.unless_bad.result c.unless_bad.ensures c.bad.ensures
    (λ place broken. by ∙ ap (λ b. option_map_or Stopped b (Means meaning)) broken) (λ whole. by ∙ ap (λ b. option_map_or Stopped b (Means meaning)) whole)

pub returns-in-Err-Unfit-clause-only : goal.returns-in-Err-Unfit-clause-only
returns-in-Err-Unfit-clause-only c = λ meaning is.
    let rest = c.sentence.new.self.rest.now in
    let gives = subst (λ z. Gave statement_of (Err z) rest (sentence_at c.as_slice.result.now)) c.in-Err-Unfit.field-0-is c.in-Err-Unfit.ensures in
    none_some (sentence_only c.args.symbols.now.symbols meaning (None, rest) (ap sentence_at (sym c.as_slice.ensures.symbols) ∙ gives) is.1)

pub returns-in-Err-Unfit-clause-syntax : goal.returns-in-Err-Unfit-clause-syntax
returns-in-Err-Unfit-clause-syntax c = λ place is.
    let rest = c.sentence.new.self.rest.now in
    let gives = subst (λ z. Gave statement_of (Err z) rest (sentence_at c.as_slice.result.now)) c.in-Err-Unfit.field-0-is c.in-Err-Unfit.ensures in
    let found = stops c.args.symbols.now c.args.end rest c.as_slice.ensures.placed (ap sentence_at (sym c.as_slice.ensures.symbols) ∙ gives) in
    let same : c.place_of.result ≡ place = cc is in
    subst (IsStopOf c.args.symbols.now c.args.end) (sym c.place_of.ensures ∙ same) found
