use Rattle.std.proofs.Common.{ap, sym, subst, map, ◌∙◌, ◌++◌}
use Rattle.pipeline_manager.specs.LetGo.{AreLetGo, cut_held}
use Rattle.pipeline_manager.specs.Sound.{AreRising}
use Rattle.pipeline_manager.proofs.CutLemmas.{cut_held-all}
use Rattle.pipeline_manager.proofs.GoneLemmas.{cut-behind, rising-rest}
use Rattle.pipeline_manager.proofs.KeptLemmas.{kept-cut}
use Rattle.pipeline_manager.proofs.SoundLemmas.{fits-one}
use Rattle.pipeline_manager.proofs.query_lives.QueryLives.cut.Goals as goal

pub cut_holders-requires-clause-rising : goal.cut_holders-requires-clause-rising
cut_holders-requires-clause-rising c =
    rising-rest c.self.inside.gone.queries c.self.inside.rest (subst AreRising (sym c.self.view_is) c.requires.rising)

pub cut_holders-requires-clause-one : goal.cut_holders-requires-clause-one
cut_holders-requires-clause-one c = λ query. fits-one _ _ (c.requires.held query)

pub invariant_of-self : goal.invariant_of-self
invariant_of-self c =
    subst (λ rest. AreLetGo c.self.inside.gone rest c.self.inside.passed c.self.inside.closed) (sym c.cut_holders.ensures)
    (kept-cut c.self.inside.gone c.self.inside.rest c.self.inside.passed c.self.inside.closed c.args.first c.args.last c.args.slots.now
    c.self.invariant)

pub returns : goal.returns
returns c =
    ap (λ rest. c.self.inside.gone.queries ++ rest) c.cut_holders.ensures
    ∙ cut-behind c.args.first c.args.last c.args.slots.now c.self.inside.gone.queries c.self.inside.rest c.self.invariant.over
    ∙ ap (map (cut_held c.args.first c.args.last c.args.slots.now)) c.self.view_is
    ∙ cut_held-all c.args.first c.args.last c.args.self.now c.args.slots.now c.requires.rising c.requires.held
