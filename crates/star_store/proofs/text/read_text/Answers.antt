use Rattle.std.proofs.Common.{◌∙◌, sym}
use Rattle.star_store.proofs.TextLemmas.{meaning_of-utf8, meaning_of-not_utf8}
use Rattle.star_store.proofs.text.read_text.Goals as goal

pub returns-in-Ok-clause-meaning : goal.returns-in-Ok-clause-meaning
returns-in-Ok-clause-meaning c =
    let utf8 = rw c.as_bytes.ensures at c.in-Ok.ensures.cases.1 in
    let line = c.in-Ok.ensures.cases.0 ∙ c.as_bytes.ensures in
    rw (meaning_of-utf8 c.args.statement.now utf8) (rw line at c.read_line.ensures.meaning)

pub returns-in-Err-clause-meaning : goal.returns-in-Err-clause-meaning
returns-in-Err-clause-meaning c =
    let broken = rw c.as_bytes.ensures at c.in-Err.ensures.cases.0 in
    sym (meaning_of-not_utf8 c.args.statement.now broken)
