use Rattle.script_run.proofs.Words.{◌∙◌, NoMemory, refl, state_of, subst, sym}
use Rattle.std.specs.Prelude.{◌<◌}
use Rattle.script_run.proofs.AloneLemmas.{run-alone}
use Rattle.script_run.proofs.SharedDoneLemmas.{ended-shared, fault-shared, limit-shared}
use Rattle.script_run.proofs.SharedEndLemmas.{ended-halted, halted-shared, halts-alone, unfed-shared}
use Rattle.script_run.proofs.SharedRunLemmas.{fed-shared, starts-shared, way-none, whole-shared}
use Rattle.script_run.proofs.FrontNewLemmas.{some-slots}
use Rattle.script_run.proofs.FrontPlayLemmas.{ended-all, ended-round}
use Rattle.script_run.proofs.FrontRunLemmas.{run-itself, run-then}
use Rattle.script_run.proofs.shared.play_script.Goals as goal

pub pieces-init : goal.pieces-init
pieces-init g c = record {
  run = starts-shared _ _ _ _ _ c.requires.front.empty c.requires.reader;
  steps = run-itself _;
  alone = λ new run. run-alone c.a_seat_alone_has_the_queries_of_the_core.ensures c.only_abandon_abandons.ensures c.every_core_is_sound.ensures.on
      (state_of c.args.front.now.core).settings (state_of c.args.front.now.core) new c.every_front_is_sound.ensures c.requires.front.empty run;
  room = record {
    counted = c.requires.front.counted;
    free = subst (λ n. n < (state_of c.args.front.now.core).settings.slots) (sym c.requires.front.none)
        (some-slots _ c.every_front_is_sound.ensures.settings);
  };
  ended = refl;
  unread = refl;
  unwritten = refl;
  apart = refl;
}

pub returns-in-Err-clause-run : goal.returns-in-Err-clause-run
returns-in-Err-clause-run g c = run-then _ _ _ c.pieces.invariant.steps c.in-Err.ensures.runs.run

pub returns-in-Err-clause-answers : goal.returns-in-Err-clause-answers
returns-in-Err-clause-answers g c =
    let settings = (state_of c.args.front.now.core).settings in
    let new = state_of c.play_whole.new.front.core in
    let own = (c.pieces.invariant.alone new (returns-in-Err-clause-run g c)).own in
    rw c.end_of_halt.ensures (halts-alone settings new own _ _ _ _ c.in-Err.halt
    (halted-shared settings new own _ _ _ _ c.in-Err.halt _ _ c.play_whole.new.reader _ _ c.pieces.invariant.run c.in-Err.ensures.plays
    c.pieces.invariant.ended c.pieces.invariant.unread))

pub pieces-preserved : goal.pieces-preserved
pieces-preserved g c =
    let run = whole-shared _ _ _ _ _ _ _ _ _ _ _ _ c.pieces.invariant.run c.in-Ok.ensures.plays c.in-Ok.ensures.stays in
    let takes = c.in-Fed.ensures.takes in
    record {
      run = fed-shared _ _ _ _ _ _ _ _ _ _ takes.0 run takes.1 takes.2.0 takes.2.2;
      steps = run-then _ _ _ c.pieces.invariant.steps c.in-Ok.ensures.runs.run;
      alone = c.pieces.invariant.alone;
      room = c.in-Ok.ensures.runs.room;
      ended = c.in-Fed.ensures.end ∙ c.pieces.invariant.ended;
      unread = c.in-Fed.ensures.faults ∙ c.pieces.invariant.unread;
      unwritten = c.in-Ok.ensures.runs.faults ∙ c.pieces.invariant.unwritten;
      apart = c.play_whole.ensures.apart ∙ c.pieces.invariant.apart;
    }

pub returns-in-Fault-clause-run : goal.returns-in-Fault-clause-run
returns-in-Fault-clause-run g c = run-then _ _ _ (run-then _ _ _ c.pieces.invariant.steps c.in-Ok.ensures.runs.run) c.play_out.ensures.runs.run

pub returns-in-Fault-clause-answers : goal.returns-in-Fault-clause-answers
returns-in-Fault-clause-answers g c =
    let plays = c.in-Ok.ensures.plays in
    let run = whole-shared _ _ _ _ _ _ _ _ _ _ _ _ c.pieces.invariant.run plays c.in-Ok.ensures.stays in
    let none = way-none _ _ _ _ _ _ _ _ _ _ _ c.pieces.invariant.run.way plays in
    let takes = c.in-Fault.ensures.takes in
    rw c.end_behind.ensures (fault-shared _ _ (state_of c.play_out.new.self.core) _ c.play_out.result _ _ _ _ _ _ _ takes.0 (some-slots _ c.every_front_is_sound.ensures.settings) run
    (c.pieces.invariant.alone _ (returns-in-Fault-clause-run g c)) none takes.1 takes.2.1
    c.play_out.ensures.plays (ended-round c.play_out.result c.play_whole.new.front c.play_out.new.self c.play_out.ensures.ends)
    (ended-all c.play_out.result c.play_whole.new.front c.play_out.new.self c.play_out.ensures.ends))

pub returns-in-Limit-clause-run : goal.returns-in-Limit-clause-run
returns-in-Limit-clause-run g c = run-then _ _ _ (run-then _ _ _ c.pieces.invariant.steps c.in-Ok.ensures.runs.run) c.play_out-in-Limit.ensures.runs.run

pub returns-in-Limit-clause-answers : goal.returns-in-Limit-clause-answers
returns-in-Limit-clause-answers g c =
    let plays = c.in-Ok.ensures.plays in
    let run = whole-shared _ _ _ _ _ _ _ _ _ _ _ _ c.pieces.invariant.run plays c.in-Ok.ensures.stays in
    let none = way-none _ _ _ _ _ _ _ _ _ _ _ c.pieces.invariant.run.way plays in
    let takes = c.in-Limit.ensures.takes in
    rw c.end_behind-in-Limit.ensures (limit-shared _ _ (state_of c.play_out-in-Limit.new.self.core) _ c.play_out-in-Limit.result _ _ _ _ _ _ _ takes.0 (some-slots _ c.every_front_is_sound.ensures.settings) run
    (c.pieces.invariant.alone _ (returns-in-Limit-clause-run g c)) none takes.1 takes.2.1 takes.2.2
    c.play_out-in-Limit.ensures.plays (ended-round c.play_out-in-Limit.result c.play_whole.new.front c.play_out-in-Limit.new.self c.play_out-in-Limit.ensures.ends)
    (ended-all c.play_out-in-Limit.result c.play_whole.new.front c.play_out-in-Limit.new.self c.play_out-in-Limit.ensures.ends))

pub returns-in-NoMemory-clause-run : goal.returns-in-NoMemory-clause-run
returns-in-NoMemory-clause-run g c = run-then _ _ _ c.pieces.invariant.steps c.in-Ok.ensures.runs.run

pub returns-in-NoMemory-clause-answers : goal.returns-in-NoMemory-clause-answers
returns-in-NoMemory-clause-answers g c =
    let settings = (state_of c.args.front.now.core).settings in
    let new = state_of c.play_whole.new.front.core in
    let run = whole-shared _ _ _ _ _ _ _ _ _ _ _ _ c.pieces.invariant.run c.in-Ok.ensures.plays c.in-Ok.ensures.stays in
    let takes = c.in-NoMemory.ensures.takes in
    let own = (c.pieces.invariant.alone new (returns-in-NoMemory-clause-run g c)).own in
    halts-alone settings new own _ _ _ _ NoMemory (unfed-shared settings new own _ _ _ _ _ _ _ takes.0 run takes.1 takes.2.1
    (c.in-NoMemory.ensures.end ∙ c.pieces.invariant.ended) (c.in-NoMemory.ensures.faults ∙ c.pieces.invariant.unread))

pub returns-in-Ok-play_whole-clause-run : goal.returns-in-Ok-play_whole-clause-run
returns-in-Ok-play_whole-clause-run g c =
    run-then _ _ _ (run-then _ _ _ (run-then _ _ _ c.pieces.invariant.steps c.in-Ok.ensures.runs.run) c.in-Ok-play_whole.ensures.runs.run) c.play_out-in-Ok-play_whole.ensures.runs.run

pub returns-in-Ok-play_whole-clause-answers : goal.returns-in-Ok-play_whole-clause-answers
returns-in-Ok-play_whole-clause-answers g c =
    let run = whole-shared _ _ _ _ _ _ _ _ _ _ _ _ c.pieces.invariant.run c.in-Ok.ensures.plays c.in-Ok.ensures.stays in
    let takes = c.in-Ended.ensures.takes in
    let whole = rw (c.finish.ensures, takes.2.0) at c.in-Ok-play_whole.ensures.plays in
    let stays = rw (c.finish.ensures, takes.2.0) at c.in-Ok-play_whole.ensures.stays in
    rw c.end_of_rest.ensures (ended-shared _ _ (state_of c.play_whole-2.new.front.core) (state_of c.play_out-in-Ok-play_whole.new.self.core) _ _ c.play_out-in-Ok-play_whole.result _ _ _ _ _ _ _ _ _ takes.0
    (some-slots _ c.every_front_is_sound.ensures.settings) run (c.pieces.invariant.alone _ (returns-in-Ok-play_whole-clause-run g c)) takes.1 takes.2.1 c.in-Ended.ensures.end whole stays
    c.play_out-in-Ok-play_whole.ensures.plays (ended-round c.play_out-in-Ok-play_whole.result c.play_whole-2.new.front c.play_out-in-Ok-play_whole.new.self c.play_out-in-Ok-play_whole.ensures.ends)
    (ended-all c.play_out-in-Ok-play_whole.result c.play_whole-2.new.front c.play_out-in-Ok-play_whole.new.self c.play_out-in-Ok-play_whole.ensures.ends))

pub returns-in-Err-play_whole-clause-run : goal.returns-in-Err-play_whole-clause-run
returns-in-Err-play_whole-clause-run g c = run-then _ _ _ (run-then _ _ _ c.pieces.invariant.steps c.in-Ok.ensures.runs.run) c.in-Err-play_whole.ensures.runs.run

pub returns-in-Err-play_whole-clause-answers : goal.returns-in-Err-play_whole-clause-answers
returns-in-Err-play_whole-clause-answers g c =
    let settings = (state_of c.args.front.now.core).settings in
    let new = state_of c.play_whole-2.new.front.core in
    let run = whole-shared _ _ _ _ _ _ _ _ _ _ _ _ c.pieces.invariant.run c.in-Ok.ensures.plays c.in-Ok.ensures.stays in
    let takes = c.in-Ended.ensures.takes in
    let plays = rw (c.finish.ensures, takes.2.0) at c.in-Err-play_whole.ensures.plays in
    let own = (c.pieces.invariant.alone new (returns-in-Err-play_whole-clause-run g c)).own in
    rw c.end_of_halt-in-Err-play_whole.ensures (halts-alone settings new own _ _ _ _ c.in-Err-play_whole.halt
    (ended-halted settings new own _ _ _ _ c.in-Err-play_whole.halt _ _ c.play_whole-2.new.reader _ _ _ takes.0 run takes.1 takes.2.1
    c.in-Ended.ensures.end plays))
