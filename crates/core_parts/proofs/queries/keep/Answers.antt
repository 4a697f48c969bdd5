use Rattle.std.proofs.Common.{ap, refl}
use Rattle.std.proofs.lemmas.List.{length-set}
use Rattle.core_parts.proofs.AskedLemmas.{handed-same, keeping, kept-at, kept-nowhere, key_of}
use Rattle.core_parts.proofs.queries.keep.Goals as goal

pub returns-in-Some-clause-length : goal.returns-in-Some-clause-length
returns-in-Some-clause-length c = length-set c.args.asked.now c.in-Some.place c.keep.new.self

pub returns-in-Some-clause-items : goal.returns-in-Some-clause-items
returns-in-Some-clause-items c =
    kept-at (keeping c.args.kept) c.args.kept (λ entry. refl) c.args.asked.now c.in-Some.place c.args.number c.index-asked-place.result
    c.keep.new.self c.requires c.in-Some.ensures.place c.keep.ensures

pub returns-in-Some-clause-handed : goal.returns-in-Some-clause-handed
returns-in-Some-clause-handed c =
    handed-same c.args.asked.now c.in-Some.place c.keep.new.self c.index-asked-place.result (ap key_of c.keep.ensures)

pub returns-in_default-clause-items : goal.returns-in_default-clause-items
returns-in_default-clause-items c = kept-nowhere c.args.asked.now c.args.number c.args.kept c.in_default.ensures.place
