use Rattle.std.proofs.Common.{◌≡◌, ◌++◌, ◌∷◌, [], ap, ◌∙◌, sym}
use Rattle.std.specs.Option.{option_to_list}
use Rattle.filter_order.specs.Spares.{is_present, with_all_returned, with_returned}
use Rattle.filter_order.proofs.TakingLemmas.{places-left, returned-last}
use Rattle.filter_order.proofs.spares.give_each.Goals as goal

pub versions-preserved : goal.versions-preserved
versions-preserved c =
    let seat = c.args.seat in
    let present = c.args.filters.now.versions in
    let version = c.in-Some.version in
    let left = c.pop.new.self in
    let before = c.versions.spares in
    let whole : c.versions.versions ≡ left ++ version ∷ [] =
    c.pop.ensures.items ∙ ap (λ last. left ++ option_to_list last) c.in-Some.is in
    let after : c.give_version.new.spares
    ≡ with_returned seat version (is_present present version) before =
    c.give_version.ensures
    ∙ ap (λ kept. with_returned seat version kept before) c.is_present-kept.ensures in
    record {
      places =
          places-left seat present c.versions.versions left version before c.give_version.new.spares
          (is_present present version) whole after
          c.versions.invariant.places;
      all =
          ap (with_all_returned seat present left) after
          ∙ sym (returned-last seat present left version before)
          ∙ ap (λ versions. with_all_returned seat present versions before) (sym whole)
          ∙ c.versions.invariant.all;
    }
