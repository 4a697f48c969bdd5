use Rattle.reply_text.specs.Reading.{reason_at, reasons}
use Rattle.reply_text.proofs.refusals.reason_at.Goals as goal

pub returns : goal.returns
unfolding reason_at reasons
returns c = c.reason_in.ensures
