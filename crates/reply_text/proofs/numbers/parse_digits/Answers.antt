use Rattle.reply_text.proofs.NumberLemmas.{IsUtf8-number}
use Rattle.reply_text.proofs.numbers.parse_digits.Goals as goal

pub returns-in_default : goal.returns-in_default
returns-in_default c = λ h. c.in_default.ensures.cases.0 (IsUtf8-number _ h)
