use Rattle.std.proofs.Common.{◌≡◌, ◌∙◌, ap, subst, sym}
use Rattle.std.specs.Prelude.{IfSome}
use Rattle.std.specs.Arc.{arc_value}
use Rattle.std.proofs.lemmas.List.{length-set}
use Rattle.core_parts.specs.Asked.{AskedEntry, AskedQuery}
use Rattle.core_parts.proofs.AskedLemmas.{asked-same, found-place, handed-one, place-within, some-place, whole-at}
use Rattle.core_parts.proofs.queries.hand_on.Goals as goal

pub unwrap-place-requires : goal.unwrap-place-requires
unwrap-place-requires c = some-place c.args.asked.now c.args.number c.place_of.result c.place_of.ensures.there c.requires.there

pub hand_on-requires : goal.hand_on-requires
hand_on-requires c =
    let there = place-within c.args.asked.now c.unwrap-place.result c.args.number c.index-asked-place.result
    (sym c.unwrap-place.ensures ∙ c.place_of.ensures.place) in
    whole-at c.args.asked.now c.unwrap-place.result c.args.number c.index-asked-place.result there.0 there.1 c.requires.whole

pub returns-clause-query : goal.returns-clause-query
returns-clause-query c =
    subst (λ o. IfSome o (λ (entry : AskedQuery). arc_value c.hand_on.result ≡ entry.query))
    (sym (found-place c.args.asked.now c.unwrap-place.result c.args.number c.index-asked-place.result c.requires.rising
    (sym c.unwrap-place.ensures ∙ c.place_of.ensures.place)))
    c.hand_on.ensures.query

pub returns-clause-length : goal.returns-clause-length
returns-clause-length c = length-set c.args.asked.now c.unwrap-place.result c.hand_on.new.self

pub returns-clause-items : goal.returns-clause-items
returns-clause-items c =
    asked-same c.args.asked.now c.unwrap-place.result c.hand_on.new.self c.index-asked-place.result
    (ap (λ (entry : AskedEntry). entry.asked) c.hand_on.ensures.handed)

pub returns-clause-handed : goal.returns-clause-handed
returns-clause-handed c =
    let there = place-within c.args.asked.now c.unwrap-place.result c.args.number c.index-asked-place.result (sym c.unwrap-place.ensures ∙ c.place_of.ensures.place) in
    handed-one c.args.asked.now c.unwrap-place.result c.args.number c.hand_on.new.self
    (ap (λ (entry : AskedEntry). entry.asked.number) c.hand_on.ensures.handed ∙ there.1)
