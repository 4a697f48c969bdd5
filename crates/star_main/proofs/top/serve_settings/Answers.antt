use Rattle.std.proofs.Common.{arith}
use Rattle.star_main.proofs.WorkLemmas.{within-limits}
use Rattle.star_main.proofs.top.serve_settings.Goals as goal

pub returns-clause-within : goal.returns-clause-within
returns-clause-within c = within-limits c.args.settings.now 65 (omega arith) (omega arith) c.requires
