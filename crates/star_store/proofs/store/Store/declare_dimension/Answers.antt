use Rattle.std.proofs.Common.{subst}
use Rattle.star_plan.specs.Declaration.{declared_dimension}
use Rattle.query_meaning.specs.History.{DimensionDeclared}
use Rattle.query_meaning.specs.Keyed.{KeyedStore}
use Rattle.query_meaning.specs.KeptTables.{tables_of}
use Rattle.star_store.specs.Done.{DeclaresTable}
use Rattle.star_store.proofs.SoundLemmas.{dimension_declares, dimension_sound}
use Rattle.star_store.proofs.store.Store.declare_dimension.Goals as goal

pub invariant_of-self : goal.invariant_of-self
invariant_of-self c =
    dimension_sound c.accepted_histories_are_settled.ensures.next c.self.inside.schema c.add_dimension.new.schema c.self.inside.dims c.add_dimension.new.dims
    c.self.inside.facts c.self.inside.commits c.args.table c.add_dimension.result c.requires.columns c.requires.plain
    c.add_dimension.ensures.added c.add_dimension.ensures.err c.self.invariant

pub returns : goal.returns
returns c =
    let new = tables_of c.add_dimension.new.schema c.add_dimension.new.dims c.self.inside.facts c.self.inside.commits in
    subst (λ (old : KeyedStore). DeclaresTable DimensionDeclared (declared_dimension old.schema c.args.table) old new c.add_dimension.result) c.self.view_is
    (dimension_declares c.self.inside.schema c.add_dimension.new.schema c.self.inside.dims c.add_dimension.new.dims c.self.inside.facts
    c.self.inside.commits c.args.table c.add_dimension.result c.add_dimension.ensures.added c.add_dimension.ensures.tells c.add_dimension.ensures.err)
