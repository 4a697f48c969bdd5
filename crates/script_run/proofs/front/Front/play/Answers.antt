use Rattle.script_run.proofs.Words.{◌∷◌, [], FrontParts, refl, state_of, subst}
use Rattle.script_run.specs.Front.{PlaysCounted, RunsOn}
use Rattle.script_run.proofs.FrontCountLemmas.{due-by}
use Rattle.script_run.proofs.FrontPlayLemmas.{ended-all, ended-round, plays-given, plays-quiet}
use Rattle.script_run.proofs.FrontRunLemmas.{runs-behind}
use Rattle.script_run.proofs.front.Front.play.Goals as goal

pub returns-then-not-give-clause-plays : goal.returns-then-not-give-clause-plays
returns-then-not-give-clause-plays g c =
    subst (λ (front : FrontParts). PlaysCounted c.lose.result (state_of front.core) (c.args.statement ∷ []) (state_of c.lose.new.self.core)
    (g.K.Sink.writing c.args.sink.now).taken (g.K.Sink.writing c.lose.new.sink).taken)
    (c.if-not-give.ensures.lost refl) (c.lose.ensures.plays c.args.statement)

pub returns-then-is_due-clause-plays : goal.returns-then-is_due-clause-plays
returns-then-is_due-clause-plays g c =
    let given = c.if-not-give.ensures in
    plays-given c.play_out.result c.args.statement (state_of c.args.self.now.core) (state_of c.give.new.self.core) (state_of c.play_out.new.self.core) _ _
    c.play_out.ensures.some (given.gives refl)
    (due-by c.args.statement c.args.self.now c.give.new.self c.waits_at-waits.result c.requires.counted (given.counted refl) c.waits_at-waits.ensures (c.if-is_due.ensures.due refl))
    c.play_out.ensures.plays (ended-round c.play_out.result c.give.new.self c.play_out.new.self c.play_out.ensures.ends)
    (ended-all c.play_out.result c.give.new.self c.play_out.new.self c.play_out.ensures.ends)

pub returns-then-not-give-clause-runs : goal.returns-then-not-give-clause-runs
returns-then-not-give-clause-runs g c =
    subst (λ (front : FrontParts). RunsOn c.lose.result front c.lose.new.self (g.K.Sink.writing c.args.sink.now) (g.K.Sink.writing c.lose.new.sink))
    (c.if-not-give.ensures.lost refl) c.lose.ensures.runs

pub returns-then-is_due-clause-runs : goal.returns-then-is_due-clause-runs
returns-then-is_due-clause-runs g c =
    runs-behind c.play_out.result c.args.self.now c.give.new.self c.play_out.new.self _ _ _ (c.if-not-give.ensures.gives refl).run.run refl
    c.play_out.ensures.runs

pub returns-else-is_due-clause-plays : goal.returns-else-is_due-clause-plays
returns-else-is_due-clause-plays g c =
    plays-quiet c.args.statement (state_of c.args.self.now.core) (state_of c.give.new.self.core) _ (c.if-not-give.ensures.gives refl)

pub returns-else-is_due-clause-runs : goal.returns-else-is_due-clause-runs
returns-else-is_due-clause-runs g c = record {
  run = (c.if-not-give.ensures.gives refl).run.run;
  room = record { counted = c.if-not-give.ensures.counted refl; free = c.if-is_due.ensures.not_yet refl };
  faults = refl;
}
