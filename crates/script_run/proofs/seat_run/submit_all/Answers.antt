-- One statement behind another, up to the first that is not taken.
use Rattle.script_run.proofs.Words.{◌+◌, ◌<◌, ◌∙◌, ap, arith, get_or, length, refl, RunSettings, state_of, subst, sym, take}
use Rattle.std.proofs.lemmas.List.{take_more}
use Rattle.core_state.specs.Rows.{sight_of}
use Rattle.script_run.specs.SeatTurns.{SendsOne, SendsAll}
use Rattle.script_run.proofs.SeatManyLemmas.{many-more, many-none, many-stays}
use Rattle.script_run.proofs.SeatTurnLemmas.{keeps-same, keeps-then, stays-none}
use Rattle.script_run.proofs.seat_run.submit_all.Goals as goal

pub statements-init : goal.statements-init
statements-init c = record {
  keeps = keeps-same c.args.seat c.args.core.now c.args.core.now refl;
  given = refl;
  count = omega arith;
  submits = many-none c.args.seat _ _ (stays-none c.args.seat (sight_of (state_of c.args.core.now) c.args.seat));
}

pub submit_unread-requires : goal.submit_unread-requires
submit_unread-requires c =
    subst (λ (settings : RunSettings). c.args.seat < settings.seats) (sym c.statements.invariant.keeps.mindful.settings) c.requires

pub statements-preserved : goal.statements-preserved
statements-preserved c =
    let old = state_of c.args.core.now in
    let mid = state_of c.statements.core in
    let new = state_of c.submit_unread.new.core in
    let given = c.statements.given in
    let statements = c.args.statements.now in
    let low = c.statements-test.true in
    let same = c.statements.invariant.given in
    let within : given < length statements = omega arith in
    record {
      keeps = keeps-then c.args.seat c.args.core.now c.statements.core c.submit_unread.new.core c.statements.invariant.keeps
          c.submit_unread.ensures.keeps;
      given = ap (λ n. n + 1) same;
      count = omega arith;
      submits = subst (λ list. SendsAll c.args.seat list (sight_of old c.args.seat) (sight_of new c.args.seat))
          (sym (take_more statements given c.statement-item.result within)
          ∙ ap (λ n. take n statements) (omega arith))
          (many-more c.args.seat (take given statements) _ (sight_of old c.args.seat) (sight_of mid c.args.seat) (sight_of new c.args.seat)
          c.statements.invariant.submits
          (subst (λ statement. SendsOne c.args.seat statement (sight_of mid c.args.seat) (sight_of new c.args.seat))
          (c.statement-item.is ∙ ap (λ n. get_or statements n c.statement-item.result) (sym same))
          (c.if-not-submit_unread.ensures.submits refl)));
    }

pub returns-then-not-submit_unread-clause-keeps : goal.returns-then-not-submit_unread-clause-keeps
returns-then-not-submit_unread-clause-keeps c =
    keeps-then c.args.seat c.args.core.now c.statements.core c.submit_unread.new.core c.statements.invariant.keeps
    c.submit_unread.ensures.keeps

pub returns-then-not-submit_unread-clause-submits : goal.returns-then-not-submit_unread-clause-submits
returns-then-not-submit_unread-clause-submits c =
    many-stays c.args.seat (take c.statements.given c.args.statements.now) (sight_of (state_of c.args.core.now) c.args.seat)
    (sight_of (state_of c.statements.core) c.args.seat) (sight_of (state_of c.submit_unread.new.core) c.args.seat)
    c.statements.invariant.submits (c.if-not-submit_unread.ensures.stays refl)
