use Rattle.std.proofs.Common.{◌∷◌, ◌∙◌, None, ap, refl}
use Rattle.std.specs.List.{Contains}
use Rattle.std.proofs.lemmas.List.Elements.{All-contains_itself, All-tail}
use Rattle.std.proofs.lemmas.List.{length-set}
use Rattle.core_parts.specs.Asked.{AskedEntry, handed_in}
use Rattle.core_parts.proofs.AskedLemmas.{given_up, handed-one, kept-at, kept-nowhere, place-within}
use Rattle.core_parts.proofs.queries.give_up.Goals as goal

pub returns-in-Some-clause-length : goal.returns-in-Some-clause-length
returns-in-Some-clause-length c = length-set c.args.asked.now c.in-Some.place c.give_up.new.self

pub returns-in-Some-clause-items : goal.returns-in-Some-clause-items
returns-in-Some-clause-items c =
    kept-at given_up None (λ entry. refl) c.args.asked.now c.in-Some.place c.args.number c.index-asked-place.result c.give_up.new.self
    c.requires c.in-Some.ensures.place c.give_up.ensures

pub returns-in-Some-clause-handed : goal.returns-in-Some-clause-handed
returns-in-Some-clause-handed c =
    let there = place-within c.args.asked.now c.in-Some.place c.args.number c.index-asked-place.result c.in-Some.ensures.place in
    handed-one c.args.asked.now c.in-Some.place c.args.number c.give_up.new.self
    (ap (λ (entry : AskedEntry). entry.asked.number) c.give_up.ensures ∙ there.1)

pub returns-in_default-clause-items : goal.returns-in_default-clause-items
returns-in_default-clause-items c = kept-nowhere c.args.asked.now c.args.number None c.in_default.ensures.place

pub returns-in_default-clause-handed : goal.returns-in_default-clause-handed
returns-in_default-clause-handed c =
    All-tail (Contains (c.args.number ∷ handed_in c.args.asked.now)) c.args.number (handed_in c.args.asked.now)
    (All-contains_itself (c.args.number ∷ handed_in c.args.asked.now))
