use Rattle.std.proofs.Common.{ap, sym, ◌∙◌}
use Rattle.star_parser.specs.Statement.{statement_of}
use Rattle.star_plan.specs.Declaration.{declared_dimension}
use Rattle.query_meaning.specs.History.{DimensionDeclared}
use Rattle.star_store.proofs.DeclareLemmas.{follows_refused, references_nothing_in}
use Rattle.star_store.proofs.applying.declare_dimension.Goals as goal

pub declare_dimension-requires-clause-plain : goal.declare_dimension-requires-clause-plain
declare_dimension-requires-clause-plain c =
    references_nothing_in c.schema.result.now (statement_of c.args.ast.now) c.in_ok-table.table c.in_ok-table.ensures c.requires.dimension c.requires.shaped

pub returns-in-Err-Refused : goal.returns-in-Err-Refused
returns-in-Err-Refused c =
    let found = rw c.in-Err-Refused.field-0-is at c.in-Err-Refused.ensures in
    let table = rw c.schema.ensures.schema at c.in_ok-table.ensures in
    rw (c.refused.ensures, c.in-Err-Refused.reason-is) (follows_refused DimensionDeclared c.args.name.now c.args.store.now c.declare_dimension.new.self _ c.in-Err-Refused.reason
    (ap (declared_dimension c.args.store.now.schema) (sym table) ∙ found.0) found.1)
