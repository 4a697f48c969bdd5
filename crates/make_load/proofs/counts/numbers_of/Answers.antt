use Rattle.std.proofs.Common.{arith}
use Rattle.make_load.proofs.ReplyLemmas.{rows_fit}
use Rattle.make_load.proofs.counts.numbers_of.Goals as goal

pub answer_rows-requires : goal.answer_rows-requires
answer_rows-requires c = rows_fit c.args.replies.now c.args.text.now c.requires (omega arith)
