use Rattle.std.proofs.Common.{◌∙◌, Option, ap, sym, subst}
use Rattle.std.specs.Option.{option_map_or}
use Rattle.core_parts.specs.Asked.{AreAskedRising, AskedQuery, asked_at, asked_in}
use Rattle.core_parts.proofs.LetGoLemmas.{kept-found, rest-rises}
use Rattle.core_parts.proofs.queries.Queries.snapshot_of.Goals as goal

pub snapshot_of-requires : goal.snapshot_of-requires
snapshot_of-requires c =
    subst (λ list. AreAskedRising (asked_in list)) (sym c.rest.ensures)
    (rest-rises c.self.inside.asked c.args.self.now c.self.view_is c.requires)

pub returns : goal.returns
returns c = λ some.
    let read = λ (o : Option AskedQuery). option_map_or (λ (entry : AskedQuery). entry.snapshot) o 0 in
    c.snapshot_of.ensures
    ∙ ap (λ list. read (asked_at (asked_in list) c.args.number)) c.rest.ensures
    ∙ ap read (kept-found c.self.inside.asked c.args.self.now c.args.number c.self.view_is c.requires c.self.invariant some)
