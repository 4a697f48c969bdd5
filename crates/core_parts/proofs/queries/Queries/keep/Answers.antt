use Rattle.std.proofs.Common.{◌∙◌, ap, subst, sym}
use Rattle.core_parts.specs.Asked.{AreAskedRising, asked_in, handed_in, with_kept_at}
use Rattle.core_parts.proofs.AskedLemmas.{lent}
use Rattle.core_parts.proofs.LetGoLemmas.{items-kept, rest-rises, seen-kept}
use Rattle.core_parts.proofs.queries.Queries.keep.Goals as goal

pub keep-requires : goal.keep-requires
keep-requires c =
    subst (λ list. AreAskedRising (asked_in list)) (sym c.rest_mut.ensures.members)
    (rest-rises c.self.inside.asked c.args.self.now c.self.view_is c.requires.rising)

pub returns : goal.returns
returns c =
    seen-kept c.self.inside.asked c.args.self.now _ (with_kept_at c.args.number c.args.kept c.args.self.now.items) c.self.view_is
    (items-kept c.self.inside.asked c.args.self.now _ c.args.number c.args.kept c.self.view_is c.requires.stands
    (ap asked_in (lent c.self.inside.asked.rest c.rest_mut.result.now c.keep.new.asked c.rest_mut.ensures.members c.keep.ensures.length) ∙ c.keep.ensures.items
    ∙ ap (λ list. with_kept_at c.args.number c.args.kept (asked_in list)) c.rest_mut.ensures.members))
    (ap handed_in (lent c.self.inside.asked.rest c.rest_mut.result.now c.keep.new.asked c.rest_mut.ensures.members c.keep.ensures.length) ∙ c.keep.ensures.handed ∙ ap handed_in c.rest_mut.ensures.members)
