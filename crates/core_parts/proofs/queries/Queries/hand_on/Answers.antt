use Rattle.std.proofs.Common.{◌≡◌, ◌∙◌, ◌∷◌, ◌++◌, IsSome, ap, subst, sym}
use Rattle.std.specs.Prelude.{IfSome}
use Rattle.std.specs.Arc.{arc_value}
use Rattle.std.specs.List.{All, Contains}
use Rattle.core_parts.specs.Asked.{AreAskedRising, AskedQueries, AskedQuery, IsNoneOf, asked_at, asked_in, handed_in}
use Rattle.core_parts.proofs.AskedLemmas.{lent}
use Rattle.core_parts.proofs.LetGoLemmas.{rest-found, rest-rises}
use Rattle.core_parts.proofs.queries.Queries.hand_on.Goals as goal

pub hand_on-requires : goal.hand_on-requires
hand_on-requires c = record {
  rising =
      subst (λ list. AreAskedRising (asked_in list)) (sym c.rest_mut.ensures.members)
      (rest-rises c.self.inside.asked c.args.self.now c.self.view_is c.requires.can.rising);
  there =
      subst (λ o. IsSome o)
      (rest-found c.self.inside.asked c.args.self.now c.args.number c.self.view_is c.requires.stands
      ∙ ap (λ list. asked_at (asked_in list) c.args.number) (sym c.rest_mut.ensures.members))
      c.requires.can.there;
  whole =
      subst (λ list. IsNoneOf (handed_in list) c.args.number) (sym c.rest_mut.ensures.members)
      (subst (λ (all : AskedQueries). IsNoneOf all.handed c.args.number) (sym c.self.view_is) c.requires.can.whole);
}

pub returns-clause-query : goal.returns-clause-query
returns-clause-query c =
    subst (λ o. IfSome o (λ (entry : AskedQuery). arc_value c.hand_on.result ≡ entry.query))
    (ap (λ list. asked_at (asked_in list) c.args.number) c.rest_mut.ensures.members
    ∙ sym (rest-found c.self.inside.asked c.args.self.now c.args.number c.self.view_is c.requires.stands))
    c.hand_on.ensures.query

pub returns-clause-items : goal.returns-clause-items
returns-clause-items c =
    ap (λ list. asked_in c.self.inside.asked.gone ++ list)
    (ap asked_in (lent c.self.inside.asked.rest c.rest_mut.result.now c.hand_on.new.asked c.rest_mut.ensures.members c.hand_on.ensures.length) ∙ c.hand_on.ensures.items ∙ ap asked_in c.rest_mut.ensures.members)
    ∙ ap (λ (all : AskedQueries). all.items) c.self.view_is

pub returns-clause-gone : goal.returns-clause-gone
returns-clause-gone c = ap (λ (all : AskedQueries). all.gone) c.self.view_is

pub returns-clause-handed : goal.returns-clause-handed
returns-clause-handed c =
    subst (λ list. All (Contains (c.args.number ∷ c.args.self.now.handed)) (handed_in list))
    (sym (lent c.self.inside.asked.rest c.rest_mut.result.now c.hand_on.new.asked c.rest_mut.ensures.members c.hand_on.ensures.length))
    (subst (λ list. All (Contains (c.args.number ∷ list)) (handed_in c.hand_on.new.asked))
    (ap handed_in c.rest_mut.ensures.members ∙ ap (λ (all : AskedQueries). all.handed) c.self.view_is) c.hand_on.ensures.handed)
