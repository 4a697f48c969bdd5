use Rattle.std.proofs.Common.{◌++◌, ◌∙◌, ap, sym, subst}
use Rattle.core_parts.specs.Asked.{AreBare, AskedQueries, asked_in, handed_in}
use Rattle.core_parts.proofs.queries.Queries.reserve.Goals as goal

pub invariant_of-self : goal.invariant_of-self
invariant_of-self c = subst (λ list. AreBare (asked_in list)) (sym c.reserve.ensures.gone) c.self.invariant

pub returns-clause-items : goal.returns-clause-items
returns-clause-items c =
    ap (λ gone. asked_in gone ++ asked_in c.reserve.new.self.rest) c.reserve.ensures.gone
    ∙ ap (λ rest. asked_in c.self.inside.asked.gone ++ asked_in rest) c.reserve.ensures.rest
    ∙ ap (λ (all : AskedQueries). all.items) c.self.view_is

pub returns-clause-gone : goal.returns-clause-gone
returns-clause-gone c = ap asked_in c.reserve.ensures.gone ∙ ap (λ (all : AskedQueries). all.gone) c.self.view_is

pub returns-clause-handed : goal.returns-clause-handed
returns-clause-handed c = ap handed_in c.reserve.ensures.rest ∙ ap (λ (all : AskedQueries). all.handed) c.self.view_is
