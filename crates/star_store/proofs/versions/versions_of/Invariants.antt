use Rattle.std.proofs.Common.{map, vec_len, vec_capacity}
use Rattle.std.specs.Vec.Iter.{into_iter_items}
use Rattle.star_store.proofs.VersionLemmas.{AreMadeOf}
use Rattle.star_store.proofs.versions.versions_of.Given as goal

abbrev pub invariant-rows : goal.invariant-rows
invariant-rows l =
    AreMadeOf l.schema (map (λ d. d.items) l.dims) l.commit l.fn.rows (into_iter_items l.row-iterator) l.versions.items (vec_len l.versions) (vec_capacity l.versions)
