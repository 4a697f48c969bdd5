use Rattle.star_store.proofs.SoundLemmas.{fact_sound}
use Rattle.star_store.proofs.store.Store.declare_fact.Goals as goal

pub invariant_of-self-2 : goal.invariant_of-self-2
invariant_of-self-2 c =
    fact_sound c.accepted_histories_are_settled.ensures.next c.self.inside.schema c.declare_fact.new.schema c.self.inside.dims c.self.inside.facts
    c.self.inside.commits c.args.table c.requires.columns c.in_ok-declare_fact.ensures.declares c.self.invariant
