use Rattle.std.proofs.Common.{◌++◌, ◌∷◌, [], ◌∙◌, ap, append_assoc, sym, subst}
use Rattle.std.proofs.lemmas.List.{map-append}
use Rattle.core_parts.specs.Asked.{AreBare, AskedQueries, asked_in, handed_in}
use Rattle.core_parts.proofs.AskedLemmas.{handed-push, plain}
use Rattle.core_parts.proofs.queries.Queries.push.Goals as goal

pub invariant_of-self : goal.invariant_of-self
invariant_of-self c = subst (λ list. AreBare (asked_in list)) (sym c.push_reserved.ensures.gone) c.self.invariant

pub returns-clause-items : goal.returns-clause-items
returns-clause-items c =
    ap (λ gone. asked_in gone ++ asked_in c.push_reserved.new.self.rest) c.push_reserved.ensures.gone
    ∙ ap (λ rest. asked_in c.self.inside.asked.gone ++ asked_in rest) c.push_reserved.ensures.rest
    ∙ ap (λ rest. asked_in c.self.inside.asked.gone ++ rest) (map-append plain c.self.inside.asked.rest (c.args.query ∷ []))
    ∙ sym (append_assoc (asked_in c.self.inside.asked.gone) (asked_in c.self.inside.asked.rest) (c.args.query.asked ∷ []))
    ∙ ap (λ (all : AskedQueries). all.items ++ c.args.query.asked ∷ []) c.self.view_is

pub returns-clause-gone : goal.returns-clause-gone
returns-clause-gone c = ap asked_in c.push_reserved.ensures.gone ∙ ap (λ (all : AskedQueries). all.gone) c.self.view_is

pub returns-clause-handed : goal.returns-clause-handed
returns-clause-handed c =
    ap handed_in c.push_reserved.ensures.rest
    ∙ handed-push c.self.inside.asked.rest c.args.query c.requires.whole
    ∙ ap (λ (all : AskedQueries). all.handed) c.self.view_is
