use Rattle.script_run.proofs.Words.{Answered, arith, on_ok_weaker, refl, state_of}
use Rattle.core_state.proofs.RowLemmas.{passes-frame}
use Rattle.core_driver.proofs.TakenLemmas.{frame-driven}
use Rattle.script_run.proofs.FrontCountLemmas.{awaited-some}
use Rattle.script_run.proofs.FrontPlayLemmas.{on-err}
use Rattle.script_run.proofs.FrontRunLemmas.{submits-driven}
use Rattle.script_run.proofs.LapEventLemmas.{goes-round}
use Rattle.script_run.proofs.front.finish.Goals as goal

pub returns-clause-finishes : goal.returns-clause-finishes
returns-clause-finishes g c =
    let old = state_of c.args.core.now in
    let new = state_of c.finish_all.new.core in
    let frame = frame-driven old new c.finish_all.ensures.driven in
    record {
      passes = passes-frame old new 0 frame;
      stay = λ query was. (frame.lives c.every_core_is_sound.ensures.slots.lives.rising).over query Answered refl was;
      round = goes-round old new c.every_core_is_sound.ensures c.requires c.finish_all.ensures.driven c.finish_all.ensures.lap;
      run = submits-driven c.taken_events_are_steps.ensures old new c.finish_all.ensures.driven;
    }

pub returns-clause-number : goal.returns-clause-number
returns-clause-number g c = (frame-driven (state_of c.args.core.now) (state_of c.finish_all.new.core) c.finish_all.ensures.driven).number

pub returns-clause-closed : goal.returns-clause-closed
returns-clause-closed g c = on_ok_weaker c.finish_all.result (λ all. all.finished.none_open) c.finish_all.ensures.finishes

pub returns-clause-waits : goal.returns-clause-waits
returns-clause-waits g c = on-err c.finish_all.result
    (awaited-some (state_of c.args.core.now) (let some = c.requires.some in let unfinished = c.requires.calm.awaited in omega arith))

pub returns-clause-hands : goal.returns-clause-hands
returns-clause-hands g c = c.finish_all.ensures.stays.idle c.requires.calm.idle
