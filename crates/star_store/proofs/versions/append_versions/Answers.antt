use Rattle.std.specs.Vec.Iter.{into_iter_items}
use Rattle.fact_versions.specs.declared.version.TheConstants.{MAX_VERSIONS}
use Rattle.star_store.proofs.AppendLemmas.{room_for_one}
use Rattle.star_store.proofs.versions.append_versions.Goals as goal

pub append-requires : goal.append-requires
append-requires c =
    room_for_one c.versions.facts.items (into_iter_items c.versions.version-iterator) c.args.facts.now.items c.args.versions.items
    (into_iter_items c.next.new.self) c.in-Some.version MAX_VERSIONS c.versions.invariant.0 c.in-Some.ensures.steps.0 c.requires.few
