use Rattle.std.proofs.Common.{map, refl, vec_len, vec_capacity, arith, ◌∙◌}
use Rattle.std.specs.Vec.Iter.{into_iter_items, into_iter_len}
use Rattle.star_store.proofs.AppendLemmas.{none_left}
use Rattle.star_store.proofs.VersionLemmas.{AreMadeOf-start, AreMadeOf-room, AreMadeOf-wide, AreMadeOf-next, AreMadeOf-all}
use Rattle.star_store.proofs.versions.versions_of.Goals as goal

pub rows-init : goal.rows-init
rows-init c =
    AreMadeOf-start c.args.schema.now (map (λ d. d.items) c.args.dims.now) c.args.commit c.args.rows (into_iter_items c.into_iter-row-iterator.result)
    c.in_ok-versions.versions.items (vec_len c.in_ok-versions.versions) (vec_capacity c.in_ok-versions.versions)
    (c.into_iter-row-iterator.ensures.into_iter_gives.0 ∙ c.into_vec-row-items.ensures) c.in_ok-versions.ensures.items c.in_ok-versions.ensures.len
    (let capacity = c.in_ok-versions.ensures.capacity in let len = c.len.ensures in omega arith) c.requires.fit

pub keys_of-requires-clause-width : goal.keys_of-requires-clause-width
keys_of-requires-clause-width c =
    AreMadeOf-wide c.args.schema.now (map (λ d. d.items) c.args.dims.now) c.args.commit c.args.rows (into_iter_items c.rows.row-iterator)
    (into_iter_items c.next.new.self) c.in-Some.row c.rows.versions.items (vec_len c.rows.versions) (vec_capacity c.rows.versions)
    c.rows_fit_by_their_kinds.ensures c.rows.invariant c.in-Some.ensures.steps.0

pub push_reserved-requires : goal.push_reserved-requires
push_reserved-requires c =
    AreMadeOf-room c.args.schema.now (map (λ d. d.items) c.args.dims.now) c.args.commit c.args.rows (into_iter_items c.rows.row-iterator)
    (into_iter_items c.next.new.self) c.in-Some.row c.rows.versions.items (vec_len c.rows.versions) (vec_capacity c.rows.versions)
    c.rows.invariant c.in-Some.ensures.steps.0

pub rows-preserved : goal.rows-preserved
rows-preserved c =
    rw (c.push_reserved.ensures.items, c.push_reserved.ensures.len, c.push_reserved.ensures.capacity)
    (AreMadeOf-next c.args.schema.now (map (λ d. d.items) c.args.dims.now) c.args.commit c.args.rows (into_iter_items c.rows.row-iterator)
    (into_iter_items c.next.new.self) c.in-Some.row c.rows.versions.items _ (vec_len c.rows.versions) (vec_capacity c.rows.versions)
    c.rows.invariant c.in-Some.ensures.steps.0 refl c.in-Some-keys_of.ensures.found refl c.in-Some-keys_of.ensures.missing c.requires.rows.loaded)

pub returns-clause-versions : goal.returns-clause-versions
returns-clause-versions c = record {
  versions = (AreMadeOf-all c.args.schema.now (map (λ d. d.items) c.args.dims.now) c.args.commit c.args.rows (into_iter_items c.rows.row-iterator)
      c.rows.versions.items (vec_len c.rows.versions) (vec_capacity c.rows.versions) c.rows.invariant
      (none_left (into_iter_items c.rows.row-iterator) (into_iter_len c.rows.row-iterator) c.rows.row-iterator.rest.ok.0 c.in-None.ensures.steps.0)).0;
  keyed = c.rows.invariant.keyed;
}

pub returns-clause-taken : goal.returns-clause-taken
returns-clause-taken c =
    (AreMadeOf-all c.args.schema.now (map (λ d. d.items) c.args.dims.now) c.args.commit c.args.rows (into_iter_items c.rows.row-iterator)
    c.rows.versions.items (vec_len c.rows.versions) (vec_capacity c.rows.versions) c.rows.invariant
    (none_left (into_iter_items c.rows.row-iterator) (into_iter_len c.rows.row-iterator) c.rows.row-iterator.rest.ok.0 c.in-None.ensures.steps.0)).1
