use Rattle.std.proofs.Common.{sym, subst, ◌<◌, get_or, arith}
use Rattle.std.specs.List.{All}
use Rattle.pipeline_manager.specs.declared.life.QueryLife.{QueryLife}
use Rattle.pipeline_manager.specs.declared.life.Life.TheVariants.{Waiting}
use Rattle.pipeline_manager.proofs.KeptLemmas.{next-above}
use Rattle.pipeline_manager.proofs.query_lives.let_all_go.Goals as goal

-- any query
some : QueryLife
some = record { query = 0; extent = 0; life = Waiting }

pub let_go-requires-clause-above : goal.let_go-requires-clause-above
unfolding some
let_go-requires-clause-above c =
    subst (All (λ other. other.query < (get_or c.args.queries.now c.loop-entry.entry-index some).query)) (sym c.loop-entry.invariant.0)
    (next-above c.args.gone.now.queries c.args.queries.now c.loop-entry.entry-index some c.requires.rising (omega arith))
