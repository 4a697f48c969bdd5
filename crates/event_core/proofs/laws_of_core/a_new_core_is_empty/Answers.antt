use Rattle.event_core.proofs.FirstLemmas.{becomes-first}
use Rattle.event_core.proofs.laws_of_core.a_new_core_is_empty.Goals as goal

pub returns : goal.returns
returns c = becomes-first
    c.an_empty_core_is_sound.ensures
    c.a_new_scan_is_that_of_an_empty_core.ensures
    c.a_new_distributor_is_that_of_an_empty_core.ensures
