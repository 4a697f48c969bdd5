use Rattle.std.proofs.Common.{◌∙◌, ap, sym, subst, IsSome}
use Rattle.core_parts.specs.Asked.{AreAskedRising, AskedQueries, IsNoneOf, asked_at, asked_in, handed_in}
use Rattle.core_parts.proofs.LetGoLemmas.{rest-found, rest-rises}
use Rattle.core_parts.proofs.queries.Queries.asked_of.Goals as goal

pub asked_of-requires-clause-rising : goal.asked_of-requires-clause-rising
asked_of-requires-clause-rising c =
    subst (λ list. AreAskedRising (asked_in list)) (sym c.rest.ensures)
    (rest-rises c.self.inside.asked c.args.self.now c.self.view_is c.requires.rising)

pub asked_of-requires-clause-there : goal.asked_of-requires-clause-there
asked_of-requires-clause-there c =
    subst (λ o. IsSome o)
    (rest-found c.self.inside.asked c.args.self.now c.args.number c.self.view_is c.requires.stands
    ∙ ap (λ list. asked_at (asked_in list) c.args.number) (sym c.rest.ensures))
    c.requires.there

pub returns-clause-asked : goal.returns-clause-asked
returns-clause-asked c =
    rest-found c.self.inside.asked c.args.self.now c.args.number c.self.view_is c.requires.stands
    ∙ ap (λ list. asked_at (asked_in list) c.args.number) (sym c.rest.ensures)
    ∙ c.asked_of.ensures.asked

pub returns-clause-whole : goal.returns-clause-whole
returns-clause-whole c = λ none.
    c.asked_of.ensures.whole (subst (λ list. IsNoneOf (handed_in list) c.args.number) (sym c.rest.ensures)
    (subst (λ (all : AskedQueries). IsNoneOf all.handed c.args.number) (sym c.self.view_is) none))
