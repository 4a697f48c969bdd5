use Rattle.script_run.proofs.Words.{◌≡◌, All, err_from_is_err_and, false, Finishes, FrontParts, is_open, on_ok_weaker, seat_at, state_of, subst, sym}
use Rattle.script_run.proofs.FrontCountLemmas.{counted-out, knows-same, round-beside, slot-free}
use Rattle.script_run.proofs.FrontOpenLemmas.{none-open}
use Rattle.script_run.proofs.FrontPlayLemmas.{plays-behind, plays-due}
use Rattle.script_run.proofs.FrontRunLemmas.{run-then, runs-wanting}
use Rattle.script_run.proofs.front.Front.play_out.Goals as goal

pub invariant_of-self : goal.invariant_of-self
invariant_of-self g c =
    let beside = c.write_ready.ensures.beside in
    knows-same _ _ (state_of c.self.inside.core) (state_of c.write_ready.new.core) c.self.invariant beside.settings beside.scan beside.numbers

pub returns-in_err-finish_open-clause-plays : goal.returns-in_err-finish_open-clause-plays
returns-in_err-finish_open-clause-plays g c =
    let failed = err_from_is_err_and c.from_residual.result c.from_residual.ensures.1 in
    rw (failed.1, failed.2) (plays-due (state_of c.args.self.now.core) (state_of c.finish_open.new.self.core) _ c.in_err-finish_open.ensures.waits
    c.finish_open.ensures.finishes)

pub returns-in_err-finish_open-clause-runs : goal.returns-in_err-finish_open-clause-runs
returns-in_err-finish_open-clause-runs g c =
    let failed = err_from_is_err_and c.from_residual.result c.from_residual.ensures.1 in
    rw (failed.1, failed.2) (runs-wanting c.args.self.now c.finish_open.new.self _ c.finish_open.ensures.finishes.run.run)

pub returns-clause-plays : goal.returns-clause-plays
returns-clause-plays g c =
    plays-behind c.write_ready.result (state_of c.args.self.now.core) (state_of c.self.inside.core) (state_of c.write_ready.new.core) _ _
    (subst (λ (front : FrontParts). Finishes (state_of c.args.self.now.core) (state_of front.core)) (sym c.self.view_is) c.finish_open.ensures.finishes)
    c.write_ready.ensures.plays

pub returns-clause-ends : goal.returns-clause-ends
returns-clause-ends g c =
    let mid = state_of c.self.inside.core in
    let finishes = subst (λ (front : FrontParts). Finishes (state_of c.args.self.now.core) (state_of front.core)) (sym c.self.view_is) c.finish_open.ensures.finishes in
    let closed = subst (λ (front : FrontParts). All (λ entry. is_open entry.life ≡ false) (state_of front.core).lives.queries) (sym c.self.view_is)
    c.in_ok-finish_open.ensures.closed in
    let none = subst (λ (front : FrontParts). front.unfinished ≡ 0) (sym c.self.view_is) c.in_ok-finish_open.ensures.unfinished in
    on_ok_weaker c.write_ready.result
    (λ taken. record {
      all = taken.all (none-open mid.lives (seat_at mid 0) closed);
      none = none;
      round = round-beside (state_of c.args.self.now.core) mid (state_of c.write_ready.new.core) finishes.round c.write_ready.ensures.beside;
    })
    c.write_ready.ensures.all

pub returns-clause-runs : goal.returns-clause-runs
returns-clause-runs g c =
    let mid = state_of c.self.inside.core in
    let finishes = subst (λ (front : FrontParts). Finishes (state_of c.args.self.now.core) (state_of front.core)) (sym c.self.view_is) c.finish_open.ensures.finishes in
    let closed = subst (λ (front : FrontParts). All (λ entry. is_open entry.life ≡ false) (state_of front.core).lives.queries) (sym c.self.view_is)
    c.in_ok-finish_open.ensures.closed in
    record {
      run = run-then (state_of c.args.self.now.core) mid (state_of c.write_ready.new.core) finishes.run.run c.write_ready.ensures.run;
      room = on_ok_weaker c.write_ready.result
          (λ ends. record {
            counted = counted-out mid _ closed c.self.invariant.hands c.write_ready.ensures.beside ends.all ends.none;
            free = slot-free (state_of c.args.self.now.core) (state_of c.write_ready.new.core) _ c.finish_open.ensures.some ends.round ends.none;
          })
          (returns-clause-ends g c);
      faults = c.write_ready.ensures.faults;
    }
