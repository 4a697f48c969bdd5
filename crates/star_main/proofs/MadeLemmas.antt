-- What the program writes in the mode `make`, from what the run of the workload promises by its end.
use Rattle.std.specs.Prelude.{IfSome}
use Rattle.std.proofs.Common.{◌≡◌, ◌≢◌, ◌∙◌, inl, ℕ, Option, Some, None, refl, sym, subst, arith}
use Rattle.star_io.specs.Link.{ReadingSide, WritingSide}
use Rattle.core_state.specs.declared.settings.RunSettings.{RunSettings}
use Rattle.event_core.specs.CoreParts.{CoreParts}
use Rattle.make_load.specs.Made.{AnswersMade, CountsMade}
use Rattle.make_load.specs.declared.made.MadeEnd.{MadeEnd}
use Rattle.make_load.specs.declared.made.MadeEnd.TheVariants.{Clean, SomeRefused, WriteFault, NoMemory}
use Rattle.make_load.proofs.RunLemmas.{made-alone, without_memory}
use Rattle.star_main.specs.Headline.{HasCause}
use Rattle.star_main.specs.Made.{MadeHeadline, made_status_of}
use Rattle.star_main.specs.Modes.{IsMade, run_settings_of}
use Rattle.star_main.specs.declared.settings.Settings.{Settings}

-- no run of the workload has the status of words that name no settings
pub never_faulty_made : (end : MadeEnd) → made_status_of end ≢ 2
never_faulty_made Clean is = absurd (omega arith)
never_faulty_made SomeRefused is = absurd (omega arith)
never_faulty_made WriteFault is = absurd (omega arith)
never_faulty_made NoMemory is = absurd (omega arith)

-- the status of a run of the workload tells what its end tells
pub made_headline : (Alone : Type 0) (settings settings' : RunSettings) (seed rows : ℕ) (core core' : Option CoreParts) (end : MadeEnd)
    (status : ℕ) (to to' : WritingSide)
    → settings' ≡ settings → core' ≡ core → status ≡ made_status_of end → (settings'.workers ≡ 0 → Alone)
    → AnswersMade Alone settings seed rows core end to to' → MadeHeadline settings' seed rows core' status to to'
made_headline Alone settings settings' seed rows core core' end status to to' same_settings same_core same_status alone run = record {
  end = end;
  told = same_status;
  answers = subst (λ s. AnswersMade (settings'.workers ≡ 0) s seed rows core' end to to') (sym same_settings)
      (subst (λ c. AnswersMade (settings'.workers ≡ 0) settings seed rows c end to to') (sym same_core)
      (made-alone Alone (settings'.workers ≡ 0) settings seed rows core end to to' alone run));
}

-- the status of a run of the workload has the causes of its end, whatever the source, which is not read
pub causes_made : (end : MadeEnd) (source : ReadingSide) (to to' : WritingSide) → CountsMade end to to'
    → HasCause (made_status_of end) source source to to'
causes_made Clean source to to' counts = record {
  unfailed = λ _. (refl, counts);
  read_fault = λ e. absurd (omega arith);
  write_fault = λ e. absurd (omega arith);
  no_memory = λ e. absurd (omega arith);
  past_limit = λ e. absurd (omega arith);
  door_fault = λ e. absurd (omega arith);
}
causes_made SomeRefused source to to' counts = record {
  unfailed = λ _. (refl, counts);
  read_fault = λ e. absurd (omega arith);
  write_fault = λ e. absurd (omega arith);
  no_memory = λ e. absurd (omega arith);
  past_limit = λ e. absurd (omega arith);
  door_fault = λ e. absurd (omega arith);
}
causes_made WriteFault source to to' counts = record {
  unfailed = λ e. absurd (omega arith);
  read_fault = λ e. absurd (omega arith);
  write_fault = λ _. (inl refl, counts);
  no_memory = λ e. absurd (omega arith);
  past_limit = λ e. absurd (omega arith);
  door_fault = λ e. absurd (omega arith);
}
causes_made NoMemory source to to' counts = record {
  unfailed = λ e. absurd (omega arith);
  read_fault = λ e. absurd (omega arith);
  write_fault = λ e. absurd (omega arith);
  no_memory = λ _. (inl refl, counts);
  past_limit = λ e. absurd (omega arith);
  door_fault = λ e. absurd (omega arith);
}
