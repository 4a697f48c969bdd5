use Rattle.event_core.proofs.Words.{refl, sym}
use Rattle.event_core.proofs.OpenLemmas.{oldest-open, open-begun}
use Rattle.event_core.proofs.next_parts.next_open.Goals as goal

pub returns-in-Some-clause-some : goal.returns-in-Some-clause-some
returns-in-Some-clause-some c =
    oldest-open c.args.manager.now c.in-Some.query c.in-Some.ensures.sound (sym c.in-Some.ensures.oldest)

pub returns-in-None-clause-none : goal.returns-in-None-clause-none
returns-in-None-clause-none c = λ none query can.
    c.next_begun.ensures.none none query (open-begun c.args.manager.now query (sym c.in-None.ensures.oldest) can)
