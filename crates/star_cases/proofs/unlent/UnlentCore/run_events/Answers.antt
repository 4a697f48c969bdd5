-- No batch is lent that one of the events might pass.
use Rattle.star_cases.proofs.UnlentLemmas.{unlent-all-home}
use Rattle.star_cases.proofs.unlent.UnlentCore.run_events.Goals as goal

pub run_events-requires : goal.run_events-requires
run_events-requires c = record { home = unlent-all-home c.args.events.items _ c.args.self.now.home }
