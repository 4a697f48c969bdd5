use Rattle.std.proofs.Common.{◌∙◌, None, ap, subst, sym}
use Rattle.std.specs.Option.{option_and_then}
use Rattle.core_parts.specs.Asked.{AreAskedRising, AskedQuery, asked_at, asked_in, handed_in, with_kept_at}
use Rattle.core_parts.proofs.AskedLemmas.{lent}
use Rattle.core_parts.proofs.LetGoLemmas.{items-bare, rest-kept, rest-rises, seen-kept}
use Rattle.core_parts.proofs.queries.Queries.take_kept.Goals as goal

pub take_kept-requires : goal.take_kept-requires
take_kept-requires c =
    subst (λ list. AreAskedRising (asked_in list)) (sym c.rest_mut.ensures.members)
    (rest-rises c.self.inside.asked c.args.self.now c.self.view_is c.requires)

pub returns-clause-groups : goal.returns-clause-groups
returns-clause-groups c =
    c.take_kept.ensures.groups
    ∙ ap (λ list. option_and_then (λ (entry : AskedQuery). entry.kept) (asked_at (asked_in list) c.args.number)) c.rest_mut.ensures.members
    ∙ rest-kept c.self.inside.asked c.args.self.now c.args.number c.self.view_is c.requires c.self.invariant

pub returns-clause-left : goal.returns-clause-left
returns-clause-left c =
    seen-kept c.self.inside.asked c.args.self.now _ (with_kept_at c.args.number None c.args.self.now.items) c.self.view_is
    (items-bare c.self.inside.asked c.args.self.now _ c.args.number c.self.view_is c.self.invariant
    (ap asked_in (lent c.self.inside.asked.rest c.rest_mut.result.now c.take_kept.new.asked c.rest_mut.ensures.members c.take_kept.ensures.length) ∙ c.take_kept.ensures.items
    ∙ ap (λ list. with_kept_at c.args.number None (asked_in list)) c.rest_mut.ensures.members))
    (ap handed_in (lent c.self.inside.asked.rest c.rest_mut.result.now c.take_kept.new.asked c.rest_mut.ensures.members c.take_kept.ensures.length) ∙ c.take_kept.ensures.handed ∙ ap handed_in c.rest_mut.ensures.members)
