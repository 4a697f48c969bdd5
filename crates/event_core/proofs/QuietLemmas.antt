-- Events that touch neither the scan nor what is attached.
use Rattle.event_core.proofs.Words.{◌∙◌, after_event, after_step, ap, attached_to, CoreParts, Done, Event, frames_of, IsCore, IsEnabled, IsKeyed, IsScannedAs, IsSound, LeavesAttached, LeavesRest, LeavesScan, MayStep, plain, RunSettings, Scanning, State, state_of, Step, subst, sym, tables_by}
use Rattle.std.specs.Prelude.{◌≡◌, ◌+◌, ◌*◌}

-- each step keeps a core sound
abbrev pub StepsKeep : Type 0
StepsKeep = (step : Step) (state : State) → MayStep state step → IsSound state → IsSound (after_step step state)

-- an event that does not touch the scan leaves it
abbrev pub EventsLeaveScans : Type 0
EventsLeaveScans = (state : State) (scan : Scanning) (event : Event) → IsSound state → IsEnabled state event → LeavesScan event
    → IsScannedAs state scan → IsScannedAs (after_event event state) scan

-- an event that does not touch what is attached leaves it
abbrev pub EventsLeaveAttached : Type 0
EventsLeaveAttached = (state : State) (event : Event) → IsSound state → IsEnabled state event → LeavesAttached event
    → attached_to (after_event event state) ≡ attached_to state

-- what the parts of a core have to be for its new state, where the rest of it was left
pub core-left : (old new : CoreParts) → IsCore old → IsSound (state_of new) → IsScannedAs (state_of new) old.scan
    → attached_to (state_of new) ≡ attached_to (state_of old) → LeavesRest old new → IsCore new
core-left old new core sound scanned attached rest = record {
  sound = sound;
  tables = record {
    same = ap plain rest.tables ∙ core.tables.same ∙ sym (ap tables_by rest.entries);
    keyed = subst IsKeyed (sym rest.tables) core.tables.keyed;
  };
  scanned = subst (IsScannedAs (state_of new)) (sym rest.scan) scanned;
  attached = rest.attached ∙ core.attached ∙ sym attached;
  beside = rest.beside;
  frames = rest.made ∙ core.frames ∙ sym (ap frames_of rest.settings);
  words = rest.words ∙ core.words ∙ sym (ap (λ (settings : RunSettings). 16 + settings.batch * 16) rest.settings);
}

-- an event that leaves the scan and what is attached
pub core-quiet : StepsKeep → EventsLeaveScans → EventsLeaveAttached → (old new : CoreParts) (event : Event) → IsCore old
    → IsEnabled (state_of old) event → LeavesScan event → LeavesAttached event
    → state_of new ≡ after_event event (state_of old) → LeavesRest old new → IsCore new
core-quiet keep scans attached old new event core may leaves_scan leaves_attached same rest = core-left old new core
    (subst IsSound (sym same) (keep (Done event) (state_of old) may core.sound))
    (subst (λ state. IsScannedAs state old.scan) (sym same) (scans (state_of old) old.scan event core.sound may leaves_scan core.scanned))
    (ap attached_to same ∙ attached (state_of old) event core.sound may leaves_attached) rest
