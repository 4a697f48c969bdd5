use Rattle.event_core.proofs.Words.{ap, Lives, refl, the_view}
use Rattle.event_core.proofs.LentLemmas.{beside-by}
use Rattle.event_core.proofs.machine.Core.release.Goals as goal

pub returns-clause-beside : goal.returns-clause-beside
returns-clause-beside c =
    beside-by (the_view c.self.inside) c.args.self.now c.self.inside.flights.items c.free.new.self c.self.inside.distributor.out
    c.self.view_is refl (ap (λ (lives : Lives). lives.filters) c.free.ensures) refl
