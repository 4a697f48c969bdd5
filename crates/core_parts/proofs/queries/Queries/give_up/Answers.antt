use Rattle.std.proofs.Common.{◌∙◌, ◌∷◌, None, ap, subst, sym}
use Rattle.std.specs.List.{All, Contains}
use Rattle.core_parts.specs.Asked.{AreAskedRising, AskedQueries, asked_in, handed_in, with_kept_at}
use Rattle.core_parts.proofs.AskedLemmas.{lent}
use Rattle.core_parts.proofs.LetGoLemmas.{items-kept, rest-rises}
use Rattle.core_parts.proofs.queries.Queries.give_up.Goals as goal

pub give_up-requires : goal.give_up-requires
give_up-requires c =
    subst (λ list. AreAskedRising (asked_in list)) (sym c.rest_mut.ensures.members)
    (rest-rises c.self.inside.asked c.args.self.now c.self.view_is c.requires.rising)

pub returns-clause-items : goal.returns-clause-items
returns-clause-items c =
    items-kept c.self.inside.asked c.args.self.now _ c.args.number None c.self.view_is c.requires.stands
    (ap asked_in (lent c.self.inside.asked.rest c.rest_mut.result.now c.give_up.new.asked c.rest_mut.ensures.members c.give_up.ensures.length) ∙ c.give_up.ensures.items ∙ ap (λ list. with_kept_at c.args.number None (asked_in list)) c.rest_mut.ensures.members)

pub returns-clause-gone : goal.returns-clause-gone
returns-clause-gone c = ap (λ (all : AskedQueries). all.gone) c.self.view_is

pub returns-clause-handed : goal.returns-clause-handed
returns-clause-handed c =
    subst (λ list. All (Contains (c.args.number ∷ c.args.self.now.handed)) (handed_in list))
    (sym (lent c.self.inside.asked.rest c.rest_mut.result.now c.give_up.new.asked c.rest_mut.ensures.members c.give_up.ensures.length))
    (subst (λ list. All (Contains (c.args.number ∷ list)) (handed_in c.give_up.new.asked))
    (ap handed_in c.rest_mut.ensures.members ∙ ap (λ (all : AskedQueries). all.handed) c.self.view_is) c.give_up.ensures.handed)
