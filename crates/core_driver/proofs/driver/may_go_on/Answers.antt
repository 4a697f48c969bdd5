-- An event of these kinds that may come was found, or none may.
use Rattle.core_driver.proofs.Words.{◌∷◌, [], state_of}
use Rattle.event_core.specs.declared.choosing.EventKind.TheVariants as kind
use Rattle.core_driver.proofs.KindLemmas.{next-told}
use Rattle.core_driver.proofs.driver.may_go_on.Goals as goal

pub next_of-requires : goal.next_of-requires
next_of-requires c = record { managed = (tt, (tt, (tt, (tt, tt)))) }

pub returns : goal.returns
returns c =
    next-told (kind.Reserve ∷ kind.Build ∷ kind.Start ∷ kind.Cut ∷ []) (state_of c.args.core.now) c.next_of.result c.is_some.result
    c.is_some.ensures c.next_of.ensures.kind c.next_of.ensures.enabled c.next_of.ensures.none
