use Rattle.std.proofs.Common.{◌∙◌, ap, sym}
use Rattle.std.specs.Option.{option_map_or}
use Rattle.core_parts.specs.Asked.{AskedEntry, AskedQuery}
use Rattle.core_parts.proofs.AskedLemmas.{found-place, none-found}
use Rattle.core_parts.proofs.queries.snapshot_of.Goals as goal

pub returns-in-None : goal.returns-in-None
returns-in-None c =
    sym (ap (λ o. option_map_or (λ (entry : AskedQuery). entry.snapshot) o 0)
    (none-found c.args.asked.now c.args.number c.in-None.ensures.there))

pub returns-in-Some : goal.returns-in-Some
returns-in-Some c =
    c.snapshot.ensures
    ∙ ap (λ (entry : AskedEntry). entry.asked.snapshot) c.index-asked-place.is
    ∙ sym (ap (λ o. option_map_or (λ (entry : AskedQuery). entry.snapshot) o 0)
    (found-place c.args.asked.now c.in-Some.place c.args.number c.index-asked-place.result c.requires c.in-Some.ensures.place))
