-- A statement moves the row of its seat alone, and leaves what is lent.
use Rattle.std.proofs.Common.{◌≡◌, ℕ, Err, Ok, Result, ap, subst, sym, ⊎_elim}
use Rattle.script_reader.specs.declared.statement.Statement.{Statement}
use Rattle.core_state.specs.Events.{after_event}
use Rattle.core_state.specs.Rows.{IsMindful}
use Rattle.core_state.specs.State.{State}
use Rattle.core_state.specs.Submitting.{after_submitting}
use Rattle.core_state.specs.declared.event.Event.TheVariants.{Submit}
use Rattle.core_state.proofs.MoverLemmas.{mindful-none}
use Rattle.event_core.specs.CoreParts.{CoreParts}
use Rattle.event_core.specs.Seen.{state_of}
use Rattle.event_core.specs.Took.{Submits, Took}
use Rattle.event_core.specs.declared.stepping.SubmitFault.{SubmitFault}
use Rattle.crate_tests.proofs.lent.submit_one.Goals as goal

-- a statement that was taken was submitted
after-submit : (statement : Statement) (old new : State) → Took (Submit 0 statement) old new → new ≡ after_submitting 0 statement old
unfolding after_event
after-submit statement old new took = ⊎_elim (λ done. done) (λ spoilt. absurd spoilt) took.after

-- the row of its seat moves alone
mindful-submit : ((state : State) (seat : ℕ) (statement : Statement) → IsMindful seat state (after_submitting seat statement state))
    → (statement : Statement) (old new : CoreParts) (result : Result (Unit {0}) SubmitFault) → Submits 0 statement old new result
    → IsMindful 0 (state_of old) (state_of new)
mindful-submit law statement old new (Ok x) submits =
    subst (IsMindful 0 (state_of old)) (sym (after-submit statement (state_of old) (state_of new) submits.taken))
    (law (state_of old) 0 statement)
mindful-submit law statement old new (Err fault) submits =
    subst (IsMindful 0 (state_of old)) (sym (ap state_of submits.err)) (mindful-none 0 (state_of old))

pub returns-clause-mindful : goal.returns-clause-mindful
returns-clause-mindful c =
    mindful-submit c.a_statement_and_a_reply_move_the_row_of_their_seat.ensures.mindful _ c.args.core.now c.submit_read.new.self
    c.submit_read.result c.submit_read.ensures.submits

pub returns-clause-loans : goal.returns-clause-loans
returns-clause-loans c =
    c.what_is_beside_stays_lent.ensures c.args.core.now c.submit_read.new.self c.submit_read.ensures.submits.beside
