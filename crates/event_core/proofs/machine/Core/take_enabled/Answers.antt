use Rattle.event_core.proofs.Words.{lent_to, subst}
use Rattle.core_state.specs.Events.{after_event}
use Rattle.event_core.specs.Lent.{IsAtHome}
use Rattle.event_core.proofs.TookLemmas.{took-build, took-distribute, took-done}
use Rattle.event_core.proofs.machine.Core.take_enabled.Goals as goal

pub returns-in_ok-submit_at_home-in-Submit-clause-taken : goal.returns-in_ok-submit_at_home-in-Submit-clause-taken
unfolding after_event
returns-in_ok-submit_at_home-in-Submit-clause-taken c =
    took-done _ _ _ _ c.requires.enabled c.in-Submit.is c.in_ok-submit_at_home-in-Submit.ensures.ok

pub returns-in-Reserve-clause-taken : goal.returns-in-Reserve-clause-taken
unfolding after_event
returns-in-Reserve-clause-taken c = took-done _ _ _ _ c.requires.enabled c.in-Reserve.is c.reserve.ensures.after

pub returns-in-Build-clause-taken : goal.returns-in-Build-clause-taken
returns-in-Build-clause-taken c = took-build _ _ _ _ _ c.requires.enabled c.in-Build.is c.build.ensures.after

pub returns-in-Start-clause-taken : goal.returns-in-Start-clause-taken
unfolding after_event
returns-in-Start-clause-taken c = took-done _ _ _ _ c.requires.enabled c.in-Start.is c.start.ensures.after

pub returns-in-Cut-clause-taken : goal.returns-in-Cut-clause-taken
unfolding after_event
returns-in-Cut-clause-taken c = took-done _ _ _ _ c.requires.enabled c.in-Cut.is c.cut.ensures.after

pub returns-in-Take-clause-taken : goal.returns-in-Take-clause-taken
unfolding after_event
returns-in-Take-clause-taken c = took-done _ _ _ _ c.requires.enabled c.in-Take.is c.take.ensures.after

pub returns-in-Carry-clause-taken : goal.returns-in-Carry-clause-taken
unfolding after_event
returns-in-Carry-clause-taken c = took-done _ _ _ _ c.requires.enabled c.in-Carry.is c.carry.ensures.after

pub returns-in-Give-clause-taken : goal.returns-in-Give-clause-taken
unfolding after_event
returns-in-Give-clause-taken c = took-done _ _ _ _ c.requires.enabled c.in-Give.is c.give.ensures.after

pub returns-in-Distribute-clause-taken : goal.returns-in-Distribute-clause-taken
returns-in-Distribute-clause-taken c = took-distribute _ _ _ _ c.requires.enabled c.in-Distribute.is c.distribute.ensures.after

pub returns-in-Finish-clause-taken : goal.returns-in-Finish-clause-taken
unfolding after_event
returns-in-Finish-clause-taken c = took-done _ _ _ _ c.requires.enabled c.in-Finish.is c.finish.ensures.after

pub returns-in_ok-clear-in-Clear-clause-taken : goal.returns-in_ok-clear-in-Clear-clause-taken
unfolding after_event
returns-in_ok-clear-in-Clear-clause-taken c = took-done _ _ _ _ c.requires.enabled c.in-Clear.is c.in_ok-clear-in-Clear.ensures.ok

pub returns-in-Release-clause-taken : goal.returns-in-Release-clause-taken
unfolding after_event
returns-in-Release-clause-taken c = took-done _ _ _ _ c.requires.enabled c.in-Release.is c.release.ensures.after

pub returns-in-Reorder-clause-taken : goal.returns-in-Reorder-clause-taken
unfolding after_event
returns-in-Reorder-clause-taken c = took-done _ _ _ _ c.requires.enabled c.in-Reorder.is c.reorder.ensures.after

pub returns-in-Abandon-clause-taken : goal.returns-in-Abandon-clause-taken
unfolding after_event
returns-in-Abandon-clause-taken c = took-done _ _ _ _ c.requires.enabled c.in-Abandon.is c.abandon.ensures.after

pub give-requires-clause-home : goal.give-requires-clause-home
give-requires-clause-home c = subst (λ event. IsAtHome event (lent_to c.args.self.now.flights)) c.in-Give.is c.requires.home
