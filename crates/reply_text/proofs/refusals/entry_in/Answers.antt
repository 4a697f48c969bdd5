use Rattle.std.proofs.Common.{◌∙◌}
use Rattle.reply_text.proofs.RefusalLemmas.{entry_in-read}
use Rattle.reply_text.proofs.refusals.entry_in.Goals as goal

pub returns : goal.returns
returns c = c.first_entry.ensures ∙ entry_in-read c.args.bytes.now c.args.table.now
