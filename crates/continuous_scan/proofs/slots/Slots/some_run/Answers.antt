use Rattle.std.proofs.Common.{◌∙◌, ap}
use Rattle.continuous_scan.specs.Range.{some_run}
use Rattle.continuous_scan.proofs.UsedLemmas.{used-runs}
use Rattle.continuous_scan.proofs.slots.Slots.some_run.Goals as goal

pub returns : goal.returns
returns c = used-runs c.self.inside.used c.self.inside.running c.self.invariant ∙ ap some_run c.self.view_is
