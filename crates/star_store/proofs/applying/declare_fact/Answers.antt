use Rattle.std.proofs.Common.{ap, refl, sym, ◌∙◌}
use Rattle.star_plan.specs.Declaration.{declared_fact}
use Rattle.query_meaning.specs.History.{FactDeclared}
use Rattle.star_store.proofs.DeclareLemmas.{follows_declared, follows_refused}
use Rattle.star_store.specs.declared.applied.ChangeKind.TheVariants.{DeclaresFact}
use Rattle.star_store.proofs.applying.declare_fact.Goals as goal

pub returns-in-Ok : goal.returns-in-Ok
returns-in-Ok c =
    let table = rw c.schema.ensures.schema at c.in_ok-table.ensures in
    let declares = rw table at c.in-Ok.ensures.declares in
    rw c.in_ok-name.ensures (follows_declared DeclaresFact FactDeclared c.args.name.now c.args.store.now c.declare_fact.new.self _ (λ table. refl) declares)

pub returns-in-Err-Refused : goal.returns-in-Err-Refused
returns-in-Err-Refused c =
    let found = rw c.in-Err-Refused.field-0-is at c.in-Err-Refused.ensures.declares in
    let table = rw c.schema.ensures.schema at c.in_ok-table.ensures in
    rw (c.refused.ensures, c.in-Err-Refused.reason-is) (follows_refused FactDeclared c.args.name.now c.args.store.now c.declare_fact.new.self _ c.in-Err-Refused.reason
    (ap (declared_fact c.args.store.now.schema) (sym table) ∙ found.0) found.1)
