use Rattle.std.proofs.Common.{sym}
use Rattle.std.proofs.lemmas.Str.{utf8_valid_len-IsUtf8}
use Rattle.script_reader.proofs.long_line.valid_len.Goals as goal

pub returns-in-Ok-clause-len : goal.returns-in-Ok-clause-len
returns-in-Ok-clause-len c = sym (utf8_valid_len-IsUtf8 c.args.text.now c.in-Ok.ensures.cases.1)
