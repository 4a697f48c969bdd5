use Rattle.std.proofs.Common.{rules, ◌∙◌}
use Rattle.reply_text.proofs.NumberLemmas.{number_in-no_number, number_in-same, number_in-other}
use Rattle.reply_text.proofs.numbers.number_in.Goals as goal

pub returns-in_default : goal.returns-in_default
returns-in_default c = number_in-no_number c.args.bytes.now (search rules)

pub returns-then-eq : goal.returns-then-eq
returns-then-eq c =
    number_in-same c.args.bytes.now _ c.in-Some.number c.in-Some.ensures.0 c.in-Some.ensures.1 (c.as_bytes.ensures.value ∙ c.format.ensures.text) (search rules)

pub returns-else-eq : goal.returns-else-eq
returns-else-eq c =
    number_in-other c.args.bytes.now _ c.in-Some.number c.in-Some.ensures.1 (c.as_bytes.ensures.value ∙ c.format.ensures.text) (search rules)
