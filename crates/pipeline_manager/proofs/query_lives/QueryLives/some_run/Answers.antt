use Rattle.std.proofs.Common.{ap, sym, subst, ◌∙◌, ◌++◌}
use Rattle.std.specs.List.{list_any}
use Rattle.pipeline_manager.specs.Inside.{holder_runs}
use Rattle.pipeline_manager.specs.Sound.{AreRising}
use Rattle.pipeline_manager.proofs.GoneLemmas.{holder_runs-behind, list_any-same, rising-rest}
use Rattle.pipeline_manager.proofs.RunLemmas.{some_run-by_slots}
use Rattle.pipeline_manager.proofs.query_lives.QueryLives.some_run.Goals as goal

pub some_holder_runs-requires : goal.some_holder_runs-requires
some_holder_runs-requires c =
    subst AreRising (sym c.as_slice.ensures)
    (rising-rest c.self.inside.gone.queries c.self.inside.rest (subst AreRising (sym c.self.view_is) c.requires.rising))

pub returns : goal.returns
returns c =
    let gone = c.self.inside.gone.queries in
    let rising = subst AreRising (sym c.self.view_is) c.requires.rising in
    some_run-by_slots c.args.self.now c.args.slots.now _ c.requires.rising c.requires.held
    (c.some_holder_runs.ensures
    ∙ ap (λ list. list_any (holder_runs list) c.args.slots.now) c.as_slice.ensures
    ∙ list_any-same (holder_runs c.self.inside.rest) (holder_runs (gone ++ c.self.inside.rest)) c.args.slots.now
    (holder_runs-behind gone c.self.inside.rest rising c.self.invariant.over)
    ∙ ap (λ list. list_any (holder_runs list) c.args.slots.now) c.self.view_is)
