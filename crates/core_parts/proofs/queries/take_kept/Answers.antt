use Rattle.std.proofs.Common.{◌∙◌, None, ap, refl, sym}
use Rattle.std.specs.Option.{option_and_then}
use Rattle.std.proofs.lemmas.List.{length-set}
use Rattle.core_parts.specs.Asked.{AskedQuery}
use Rattle.core_parts.proofs.AskedLemmas.{found-place, handed-same, keeping, kept-at, kept-nowhere, key_of, none-found}
use Rattle.core_parts.proofs.queries.take_kept.Goals as goal

pub returns-in_err-place-clause-groups : goal.returns-in_err-place-clause-groups
returns-in_err-place-clause-groups c =
    c.from_residual.ensures
    ∙ sym (ap (option_and_then (λ (entry : AskedQuery). entry.kept)) (none-found c.args.asked.now c.args.number c.in_err-place.ensures.there))

pub returns-in_err-place-clause-items : goal.returns-in_err-place-clause-items
returns-in_err-place-clause-items c = kept-nowhere c.args.asked.now c.args.number None c.in_err-place.ensures.place

pub returns-clause-groups : goal.returns-clause-groups
returns-clause-groups c =
    c.take_kept.ensures.groups
    ∙ sym (ap (option_and_then (λ (entry : AskedQuery). entry.kept))
    (found-place c.args.asked.now c.in_ok-place.place c.args.number c.index-asked-place.result c.requires c.in_ok-place.ensures.place))

pub returns-clause-length : goal.returns-clause-length
returns-clause-length c = length-set c.args.asked.now c.in_ok-place.place c.take_kept.new.self

pub returns-clause-items : goal.returns-clause-items
returns-clause-items c =
    kept-at (keeping None) None (λ entry. refl) c.args.asked.now c.in_ok-place.place c.args.number c.index-asked-place.result
    c.take_kept.new.self c.requires c.in_ok-place.ensures.place c.take_kept.ensures.left

pub returns-clause-handed : goal.returns-clause-handed
returns-clause-handed c =
    handed-same c.args.asked.now c.in_ok-place.place c.take_kept.new.self c.index-asked-place.result (ap key_of c.take_kept.ensures.left)
