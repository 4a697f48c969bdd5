use Rattle.std.proofs.Common.{◌-◌, ◌∙◌, length}
use Rattle.continuous_scan.proofs.UsedLemmas.{roster-behind}
use Rattle.continuous_scan.proofs.slots.Slots.roster.Goals as goal

pub returns : goal.returns
returns c =
    let slots = c.in_use.result.now in
    let running = c.args.self.now in
    c.roster_of.ensures ∙ roster-behind (length running - length slots) slots running c.in_use.ensures.split
