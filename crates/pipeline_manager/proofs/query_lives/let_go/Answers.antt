use Rattle.std.proofs.Common.{◌++◌, ◌∙◌, ap, subst, sym, take}
use Rattle.pipeline_manager.specs.Sound.{AreRising}
use Rattle.pipeline_manager.proofs.KeptLemmas.{rising-front}
use Rattle.pipeline_manager.proofs.query_lives.let_go.Goals as goal

pub let_all_go-requires-clause-rising : goal.let_all_go-requires-clause-rising
let_all_go-requires-clause-rising c =
    subst (λ front. AreRising (c.args.gone.now.queries ++ front)) (sym (c.in_front.ensures ∙ ap (take c.args.count) c.as_slice.ensures))
    (rising-front c.args.gone.now.queries c.args.rest.now c.args.count c.requires.closed.in_range c.requires.rising)
