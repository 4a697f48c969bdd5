use Rattle.std.proofs.Common.{sym, ap, subst, ◌∙◌, map, take, ◌<◌, ◌≤◌, length, arith}
use Rattle.std.proofs.lemmas.List.{take_all}
use Rattle.pipeline_manager.specs.Changes.{cut_query}
use Rattle.pipeline_manager.specs.Inside.{changed_if}
use Rattle.pipeline_manager.specs.LetGo.{cut_held}
use Rattle.pipeline_manager.specs.Sound.{AreRising}
use Rattle.pipeline_manager.proofs.SoundLemmas.{rising-map}
use Rattle.pipeline_manager.proofs.CutLemmas.{cut_held-none, cut_held-more, cut_held-unheld, cut_held-number, unheld}
use Rattle.pipeline_manager.proofs.queries.cut_holders.Goals as goal
use Rattle.pipeline_manager.proofs.queries.cut_holders.Goals.{in-Held, in_default}

pub loop-state-init : goal.loop-state-init
loop-state-init c = sym (cut_held-none c.args.first c.args.last c.args.queries.now)

pub cut_query-requires : goal.cut_query-requires
cut_query-requires c =
    let sofar = take c.loop-state.state-index c.args.slots.now in
    subst AreRising (sym c.loop-state.invariant)
    (rising-map (cut_held c.args.first c.args.last sofar) c.args.queries.now
    (cut_held-number c.args.first c.args.last sofar) c.requires.rising)

pub loop-state-preserved : goal.loop-state-preserved
loop-state-preserved c =
    let within : c.loop-state.state-index < length c.args.slots.now = omega arith in
    elim c.match-state.branch [
      | in-Held w ↦
          w.queries-is ∙ w.cut_query.ensures
          ∙ ap (map (changed_if w.in-Held.query (cut_query c.args.first c.args.last))) c.loop-state.invariant
          ∙ cut_held-more c.args.first c.args.last c.args.queries.now c.args.slots.now c.loop-state.state-index _
          w.in-Held.query w.in-Held.built within w.in-Held.is (c.requires.one w.in-Held.query)
      | in_default w ↦
          w.queries-is ∙ c.loop-state.invariant
          ∙ cut_held-unheld c.args.first c.args.last c.args.queries.now c.args.slots.now c.loop-state.state-index _ within
          (unheld _ w.in_default.not-Held)
    ]

pub returns : goal.returns
returns c =
    let whole : length c.args.slots.now ≤ c.loop-state.state-index = omega arith in
    c.loop-state.invariant
    ∙ ap (λ slots. map (cut_held c.args.first c.args.last slots) c.args.queries.now) (take_all _ c.args.slots.now whole)
