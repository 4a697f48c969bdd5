-- How a call ends of which nothing failed, from the headline and the causes of its status.
use Rattle.std.specs.Prelude.{IfSome}
use Rattle.std.proofs.Common.{◌≡◌, ◌∙◌, inl, inr, ℕ, Option, Some, None, sym, subst}
use Rattle.star_io.specs.Link.{ReadingSide, WritingSide}
use Rattle.star_io.specs.declared.run_end.RunEnd.{RunEnd}
use Rattle.star_io.specs.declared.run_end.RunEnd.TheVariants.{Clean, SomeRefused, ReadFault, WriteFault, NoMemory, ScriptLimit}
use Rattle.core_state.specs.declared.settings.RunSettings.{RunSettings}
use Rattle.event_core.specs.CoreParts.{CoreParts}
use Rattle.script_run.specs.Run.{AnswersScript}
use Rattle.make_load.specs.Made.{AnswersMade}
use Rattle.make_load.specs.declared.made.MadeEnd.{MadeEnd}
use Rattle.make_load.specs.declared.made.MadeEnd.TheVariants as made_end
use Rattle.star_main.specs.Complete.{EndsMade, EndsScript, IsComplete, ReadFailed, WriteFailed}
use Rattle.star_main.specs.Headline.{Headline, HasCause, status_of}
use Rattle.star_main.specs.Made.{MadeHeadline, made_status_of}
use Rattle.star_main.specs.Modes.{HasScript, IsMade, RunsSource}
use Rattle.star_main.specs.declared.settings.Mode.TheVariants.{Make, Serve}
use Rattle.star_main.specs.declared.settings.Settings.{Settings}

script-ends : (end : RunEnd) (status : ℕ) (from from' : ReadingSide) (to to' : WritingSide) → status ≡ status_of end
    → AnswersScript end from from' to to' → HasCause status from from' to to' → ¬ ReadFailed from from' → ¬ WriteFailed to to'
    → EndsScript status from from' to to'
script-ends Clean status from from' to to' told answers causes read write = inl (told, answers)
script-ends SomeRefused status from from' to to' told answers causes read write = inr (inl (told, answers))
script-ends ReadFault status from from' to to' told answers causes read write = absurd (read (causes.read_fault told).0)
script-ends WriteFault status from from' to to' told answers causes read write = absurd (write (causes.write_fault told).1)
script-ends NoMemory status from from' to to' told answers causes read write = inr (inr (inl told))
script-ends ScriptLimit status from from' to to' told answers causes read write = inr (inr (inr (told, answers)))

made-ends : (Alone : Type 0) (size : RunSettings) (seed rows : ℕ) (core : Option CoreParts) (end : MadeEnd) (status : ℕ)
    (from from' : ReadingSide) (to to' : WritingSide)
    → status ≡ made_status_of end → AnswersMade Alone size seed rows core end to to' → HasCause status from from' to to'
    → ¬ WriteFailed to to' → EndsMade seed rows status to to'
made-ends Alone size seed rows core made_end.Clean status from from' to to' told answers causes write =
    inl (record { told = told; wanted = answers.wanted; written = answers.written; took = answers.took; writes = answers.writes })
made-ends Alone size seed rows core made_end.SomeRefused status from from' to to' told answers causes write =
    inr (inl (record { told = told; wanted = answers.wanted; written = answers.written; took = answers.took; writes = answers.writes }))
made-ends Alone size seed rows core made_end.WriteFault status from from' to to' told answers causes write =
    absurd (write (causes.write_fault told).1)
made-ends Alone size seed rows core made_end.NoMemory status from from' to to' told answers causes write = inr (inr told)

-- a script was run
pub complete-script : (settings : Settings) (size : RunSettings) (core : Option CoreParts) (status : ℕ) (from from' : ReadingSide)
    (to to' : WritingSide) (DoorFailed : Type 0) → HasScript settings → Headline size core status from from' to to'
    → HasCause status from from' to to' → IsComplete settings status from from' to to' DoorFailed
complete-script settings size core status from from' to to' DoorFailed has headline causes = record {
  script = λ _. script-ends headline.end status from from' to to' headline.told headline.answers.0 causes;
  made = λ made. absurd (subst RunsSource made has);
  served = λ serves. absurd (subst RunsSource serves has);
}

-- the workload was made
pub complete-made : (settings : Settings) (size : RunSettings) (core : Option CoreParts) (status : ℕ) (from from' : ReadingSide)
    (to to' : WritingSide) (DoorFailed : Type 0) → IsMade settings → MadeHeadline size settings.seed settings.rows core status to to'
    → HasCause status from from' to to' → IsComplete settings status from from' to to' DoorFailed
complete-made settings size core status from from' to to' DoorFailed is headline causes = record {
  script = λ has. absurd (subst RunsSource is has);
  made = λ _. made-ends (size.workers ≡ 0) size settings.seed settings.rows core headline.end status from from' to to' headline.told
      headline.answers causes;
  served = λ serves. let wrong : Make ≡ Serve = sym is ∙ serves in cc;
}

-- no memory was left for the words, whatever settings they name
pub complete-unread : (named : Option Settings) (status : ℕ) (from from' : ReadingSide) (to to' : WritingSide) (DoorFailed : Type 0)
    → status ≡ 5 → IfSome named (λ s. IsComplete s status from from' to to' DoorFailed)
complete-unread None status from from' to to' DoorFailed told = tt
complete-unread (Some settings) status from from' to to' DoorFailed told = record {
  script = λ _ _ _. inr (inr (inl told));
  made = λ _ _. inr (inr told);
  served = λ _ _. inr told;
}

-- where the words name these settings, and the source and the sink were as before the call when the run began
pub complete-named : (named : Option Settings) (settings : Settings) (status : ℕ) (from0 from from' : ReadingSide)
    (to0 to to' : WritingSide) (DoorFailed : Type 0) → named ≡ Some settings → from ≡ from0 → to ≡ to0
    → IsComplete settings status from from' to to' DoorFailed
    → IfSome named (λ s. IsComplete s status from0 from' to0 to' DoorFailed)
complete-named named settings status from0 from from' to0 to to' DoorFailed is same_from same_to complete =
    subst (λ n. IfSome n (λ s. IsComplete s status from0 from' to0 to' DoorFailed)) (sym is)
    (subst (λ f. IsComplete settings status f from' to0 to' DoorFailed) same_from
    (subst (λ t. IsComplete settings status from from' t to' DoorFailed) same_to complete))

-- where no call of the door may fail, none did
pub complete-doorless : (named : Option Settings) (status : ℕ) (from from' : ReadingSide) (to to' : WritingSide) (DoorFailed : Type 0)
    → IfSome named (λ s. IsComplete s status from from' to to' ⊥)
    → IfSome named (λ s. IsComplete s status from from' to to' DoorFailed)
complete-doorless None status from from' to to' DoorFailed complete = tt
complete-doorless (Some settings) status from from' to to' DoorFailed complete = record {
  script = complete.script;
  made = complete.made;
  served = λ serves _. complete.served serves (λ wrong. wrong);
}
