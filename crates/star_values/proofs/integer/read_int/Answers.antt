use Rattle.std.proofs.Common.{rules, None}
use Rattle.star_values.proofs.IntegerLemmas.{IsUtf8-from_integer, integer_in-from_rule}
use Rattle.star_values.proofs.integer.read_int.Goals as goal

pub returns-in_default-clause-exact : goal.returns-in_default-clause-exact
returns-in_default-clause-exact c = λ h. c.in_default.ensures.cases.0 (IsUtf8-from_integer _ h)

pub returns-in_default-clause-value : goal.returns-in_default-clause-value
returns-in_default-clause-value c =
    integer_in-from_rule c.args.bytes.now None (λ h. c.in_default.ensures.cases.0 (IsUtf8-from_integer _ h))

pub returns-clause-value : goal.returns-clause-value
returns-clause-value c = integer_in-from_rule c.args.bytes.now _ (search rules)
