use Rattle.std.proofs.Common.{◌∙◌, Some, ap, sym}
use Rattle.core_parts.specs.Asked.{AskedEntry}
use Rattle.core_parts.proofs.AskedLemmas.{found-place, place-within, some-place, whole-at}
use Rattle.core_parts.proofs.queries.asked_of.Goals as goal

pub unwrap-place-requires : goal.unwrap-place-requires
unwrap-place-requires c = some-place c.args.asked.now c.args.number c.place_of.result c.place_of.ensures.there c.requires.there

pub returns-clause-asked : goal.returns-clause-asked
returns-clause-asked c =
    found-place c.args.asked.now c.unwrap-place.result c.args.number c.index-asked-place.result c.requires.rising
    (sym c.unwrap-place.ensures ∙ c.place_of.ensures.place)
    ∙ ap (λ (entry : AskedEntry). Some entry.asked) (sym c.index-asked-place.is)

pub returns-clause-whole : goal.returns-clause-whole
returns-clause-whole c = λ none.
    let there = place-within c.args.asked.now c.unwrap-place.result c.args.number c.index-asked-place.result
    (sym c.unwrap-place.ensures ∙ c.place_of.ensures.place) in
    ap (λ (entry : AskedEntry). entry.whole) c.index-asked-place.is
    ∙ whole-at c.args.asked.now c.unwrap-place.result c.args.number c.index-asked-place.result there.0 there.1 none
