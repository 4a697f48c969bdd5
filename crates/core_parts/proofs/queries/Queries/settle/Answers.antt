use Rattle.std.proofs.Common.{◌∙◌, ap, sym, subst}
use Rattle.core_parts.specs.Asked.{AreFinished, AskedQueries}
use Rattle.core_parts.proofs.LetGoLemmas.{forgotten-bare, forgotten-finished, forgotten-items}
use Rattle.core_parts.proofs.queries.Queries.settle.Goals as goal

pub invariant_of-self : goal.invariant_of-self
invariant_of-self c = forgotten-bare c.args.manager.now c.self.inside.asked c.settle.new.asked c.settle.ensures c.self.invariant

pub returns-clause-items : goal.returns-clause-items
returns-clause-items c =
    forgotten-items c.args.manager.now c.self.inside.asked c.settle.new.asked c.settle.ensures
    ∙ ap (λ (all : AskedQueries). all.items) c.self.view_is

pub returns-clause-finished : goal.returns-clause-finished
returns-clause-finished c = λ finished.
    forgotten-finished c.args.manager.now c.self.inside.asked c.settle.new.asked c.settle.ensures
    (subst (AreFinished c.args.manager.now) (sym c.self.view_is) finished)
