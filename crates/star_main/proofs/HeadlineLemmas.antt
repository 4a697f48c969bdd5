-- The headline and the causes of a status, from what a run promises by its end.
use Rattle.std.specs.Prelude.{IfSome}
use Rattle.std.proofs.Common.{◌≡◌, ◌≢◌, ℕ, Option, Some, None, sym, subst, arith}
use Rattle.star_io.specs.Link.{ReadingSide, WritingSide}
use Rattle.star_io.specs.declared.run_end.RunEnd.{RunEnd}
use Rattle.star_io.specs.declared.run_end.RunEnd.TheVariants.{Clean, SomeRefused, ReadFault, WriteFault, NoMemory, ScriptLimit}
use Rattle.core_state.specs.Sound.{empty_core}
use Rattle.core_state.specs.declared.settings.RunSettings.{RunSettings}
use Rattle.event_core.specs.CoreParts.{CoreParts}
use Rattle.event_core.specs.Seen.{state_of}
use Rattle.script_run.specs.Front.{IsRun}
use Rattle.script_run.specs.Run.{AnswersScript, CountsFaults}
use Rattle.script_run.specs.Shared.{AnswersShared}
use Rattle.script_run.proofs.SharedEndLemmas.{none-shared, shared-alone}
use Rattle.star_main.specs.Headline.{Headline, HasCause, status_of}
use Rattle.star_main.specs.Modes.{HasScript, run_settings_of}
use Rattle.star_main.specs.declared.settings.Settings.{Settings}

-- no run has the status of words that name no settings
pub never_faulty : (end : RunEnd) → status_of end ≢ 2
never_faulty Clean is = absurd (omega arith)
never_faulty SomeRefused is = absurd (omega arith)
never_faulty ReadFault is = absurd (omega arith)
never_faulty WriteFault is = absurd (omega arith)
never_faulty NoMemory is = absurd (omega arith)
never_faulty ScriptLimit is = absurd (omega arith)

module _ (from from' : ReadingSide) (to to' : WritingSide) where
  -- where a core of these settings ran the script, by itself or with workers
  pub headline_shared : (Alone : Type 0) (settings settings' : RunSettings) (core core' : Option CoreParts) (end : RunEnd) (status : ℕ)
      → settings' ≡ settings → core' ≡ core → status ≡ status_of end → (settings'.workers ≡ 0 → Alone)
      → AnswersShared Alone settings core end from from' to to' → Headline settings' core' status from from' to to'
  headline_shared Alone settings settings' core core' end status same_settings same_core same_status alone run = record {
    end = end;
    told = same_status;
    answers = subst (λ s. AnswersShared (settings'.workers ≡ 0) s core' end from from' to to') (sym same_settings)
        (subst (λ c. AnswersShared (settings'.workers ≡ 0) settings c end from from' to to') (sym same_core)
        (shared-alone Alone (settings'.workers ≡ 0) settings core end from from' to to' alone run));
  }

  -- where no core did
  pub headline_alone : (settings : RunSettings) (core : Option CoreParts) (end : RunEnd) (status : ℕ) → core ≡ None → status ≡ status_of end
      → AnswersScript end from from' to to' → Headline settings core status from from' to to'
  headline_alone settings core end status no_core same_status run = record {
    end = end;
    told = same_status;
    answers = subst (λ c. AnswersShared (settings.workers ≡ 0) settings c end from from' to to') (sym no_core) (run, tt);
  }

-- the source and the sink were as before the call when the run began
pub causes_named : (status : ℕ) (from0 from from' : ReadingSide) (to0 to to' : WritingSide) → from ≡ from0 → to ≡ to0
    → HasCause status from from' to to' → HasCause status from0 from' to0 to'
causes_named status from0 from from' to0 to to' same_from same_to causes =
    subst (λ f. HasCause status f from' to0 to') same_from (subst (λ t. HasCause status from from' t to') same_to causes)

-- the status of a run has the causes of its end
pub causes_of : (end : RunEnd) (from from' : ReadingSide) (to to' : WritingSide) → CountsFaults end from from' to to'
    → HasCause (status_of end) from from' to to'
causes_of Clean from from' to to' h = record { unfailed = λ _. h; read_fault = λ e. absurd (omega arith); write_fault = λ e. absurd (omega arith); no_memory = λ e. absurd (omega arith); past_limit = λ e. absurd (omega arith); door_fault = λ e. absurd (omega arith) }
causes_of SomeRefused from from' to to' h = record { unfailed = λ _. h; read_fault = λ e. absurd (omega arith); write_fault = λ e. absurd (omega arith); no_memory = λ e. absurd (omega arith); past_limit = λ e. absurd (omega arith); door_fault = λ e. absurd (omega arith) }
causes_of ReadFault from from' to to' h = record { unfailed = λ e. absurd (omega arith); read_fault = λ _. h; write_fault = λ e. absurd (omega arith); no_memory = λ e. absurd (omega arith); past_limit = λ e. absurd (omega arith); door_fault = λ e. absurd (omega arith) }
causes_of WriteFault from from' to to' h = record { unfailed = λ e. absurd (omega arith); read_fault = λ e. absurd (omega arith); write_fault = λ _. h; no_memory = λ e. absurd (omega arith); past_limit = λ e. absurd (omega arith); door_fault = λ e. absurd (omega arith) }
causes_of NoMemory from from' to to' h = record { unfailed = λ e. absurd (omega arith); read_fault = λ e. absurd (omega arith); write_fault = λ e. absurd (omega arith); no_memory = λ _. h; past_limit = λ e. absurd (omega arith); door_fault = λ e. absurd (omega arith) }
causes_of ScriptLimit from from' to to' h = record { unfailed = λ e. absurd (omega arith); read_fault = λ e. absurd (omega arith); write_fault = λ e. absurd (omega arith); no_memory = λ e. absurd (omega arith); past_limit = λ _. h; door_fault = λ e. absurd (omega arith) }
