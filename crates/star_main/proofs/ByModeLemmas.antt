-- What is said of a call by its mode, from what the function of that mode promises.
use Rattle.std.specs.Prelude.{IfSome, IsNone, IsSomeAnd}
use Rattle.std.proofs.Common.{◌≡◌, ◌≢◌, ◌<◌, ◌↔◌, ◌⊎◌, inl, inr, ◌∙◌, ℕ, true, false, Option, Some, None, refl, sym, ap, subst, arith}
use Rattle.star_io.specs.Door.{DoorSide}
use Rattle.star_io.specs.Link.{ReadingSide, WritingSide}
use Rattle.star_io.specs.declared.run_end.RunEnd.{RunEnd}
use Rattle.star_io.specs.declared.run_end.RunEnd.TheVariants as run_end
use Rattle.star_io.specs.declared.serve_end.ServeEnd.TheVariants as serve_end
use Rattle.core_state.specs.Sound.{empty_core}
use Rattle.event_core.specs.CoreParts.{CoreParts}
use Rattle.event_core.specs.Seen.{state_of}
use Rattle.script_run.specs.Front.{IsRun}
use Rattle.script_run.specs.Shared.{AnswersShared}
use Rattle.script_run.proofs.SharedEndLemmas.{none-shared}
use Rattle.make_load.specs.declared.made.MadeEnd.{MadeEnd}
use Rattle.make_load.specs.declared.made.MadeEnd.TheVariants as made_end
use Rattle.make_load.proofs.RunLemmas.{without_memory}
use Rattle.star_main.specs.ByMode.{AnswersAlone, AnswersByMode, AnswersMake, AnswersRun, AnswersServe, IsFaulty, Outside, Untouched, outside, untouched}
use Rattle.star_main.specs.HandedBack.{HandsCore, core_in}
use Rattle.star_main.specs.Headline.{Headline, status_of}
use Rattle.star_main.specs.Made.{made_status_of}
use Rattle.star_main.specs.Modes.{HasScript, IsAlone, IsMade, IsShared, RunsSource, Serves, Works, run_settings_of}
use Rattle.star_main.specs.declared.settings.Mode.{Mode}
use Rattle.star_main.specs.declared.settings.Mode.TheVariants.{Run, Alone, Make, Serve}
use Rattle.star_main.specs.declared.settings.Settings.{Settings}
use Rattle.star_main.specs.declared.top.HandedBack.{HandedBack}
use Rattle.star_main.specs.declared.top.HandedBack.TheVariants.{Nothing}
use Rattle.star_main.specs.declared.top.TopDone.{TopDone}
use Rattle.star_main.proofs.HeadlineLemmas.{never_faulty}
use Rattle.star_main.proofs.MadeLemmas.{made_headline, never_faulty_made}

module _ (settings : Settings) (done : TopDone) (old new : Outside) (leaves : Untouched) where
  -- in the mode `alone`
  pub by-alone : IsAlone settings → AnswersAlone settings done old.from new.from old.to new.to → leaves.door
      → AnswersByMode settings done old new leaves
  by-alone is answers door = record {
    run = λ other. let wrong : Alone ≡ Run = sym is ∙ other in absurd (cc wrong);
    alone = λ _. answers;
    make = λ other. let wrong : Alone ≡ Make = sym is ∙ other in absurd (cc wrong);
    serve = λ other. let wrong : Alone ≡ Serve = sym is ∙ other in absurd (cc wrong);
    source = λ none. absurd (none (subst RunsSource (sym is) tt));
    sink = λ other. let wrong : Alone ≡ Serve = sym is ∙ other in absurd (cc wrong);
    door = λ _. door;
  }

  -- the headline stands in what is said of the modes that run a script
  pub headline-by : AnswersByMode settings done old new leaves → HasScript settings
      → Headline (run_settings_of settings) (core_in done.handed) done.status old.from new.from old.to new.to
  headline-by answers has = go settings.mode refl has
    where
      go : (mode : Mode) → settings.mode ≡ mode → RunsSource mode
          → Headline (run_settings_of settings) (core_in done.handed) done.status old.from new.from old.to new.to
      go Run is has = (answers.run is).headline
      go Alone is has = (answers.alone is).headline
      go Make is has = absurd has
      go Serve is has = absurd has

-- a core that a run hands back, if one is, where no memory was left there is none
pub hands-run : (settings : Settings) (handed : HandedBack) (status : ℕ) (core : Option CoreParts) → core_in handed ≡ core
    → IsNone core ↔ (status ≡ 5)
    → (settings.workers ≡ 0 → IfSome core (λ parts. IsRun (empty_core (run_settings_of settings)) (state_of parts)))
    → HandsCore settings handed status
hands-run settings handed status core is none run = record {
  core = subst (λ (c : Option CoreParts). IsNone c ↔ (status ≡ 5)) (sym is) none;
  run = λ alone. subst (λ c. IfSome c (λ parts. IsRun (empty_core (run_settings_of settings)) (state_of parts))) (sym is) (run alone);
}

-- the status of a run, and of one of the workload, is 5 exactly where no memory was left
full-run : (end : RunEnd) → (end ≡ run_end.NoMemory) ↔ (status_of end ≡ 5)
full-run run_end.Clean = ((λ e. absurd (cc e)), (λ n. absurd (omega arith)))
full-run run_end.SomeRefused = ((λ e. absurd (cc e)), (λ n. absurd (omega arith)))
full-run run_end.ReadFault = ((λ e. absurd (cc e)), (λ n. absurd (omega arith)))
full-run run_end.WriteFault = ((λ e. absurd (cc e)), (λ n. absurd (omega arith)))
full-run run_end.NoMemory = ((λ e. refl), (λ n. refl))
full-run run_end.ScriptLimit = ((λ e. absurd (cc e)), (λ n. absurd (omega arith)))

full-made : (end : MadeEnd) → (end ≡ made_end.NoMemory) ↔ (made_status_of end ≡ 5)
full-made made_end.Clean = ((λ e. absurd (cc e)), (λ n. absurd (omega arith)))
full-made made_end.SomeRefused = ((λ e. absurd (cc e)), (λ n. absurd (omega arith)))
full-made made_end.WriteFault = ((λ e. absurd (cc e)), (λ n. absurd (omega arith)))
full-made made_end.NoMemory = ((λ e. refl), (λ n. refl))

-- so there is no core exactly at status 5
pub none-run : (core : Option CoreParts) (end : RunEnd) (status : ℕ) → status ≡ status_of end → IsNone core ↔ (end ≡ run_end.NoMemory)
    → IsNone core ↔ (status ≡ 5)
none-run core end status told none =
    let full = full-run end in ((λ h. told ∙ full.0 (none.0 h)), (λ five. none.1 (full.1 (sym told ∙ five))))

pub none-made : (core : Option CoreParts) (end : MadeEnd) (status : ℕ) → status ≡ made_status_of end
    → IsNone core ↔ (end ≡ made_end.NoMemory) → IsNone core ↔ (status ≡ 5)
none-made core end status told none =
    let full = full-made end in ((λ h. told ∙ full.0 (none.0 h)), (λ five. none.1 (full.1 (sym told ∙ five))))

-- no memory was left for the words: the source, the sink and the door are as before, whatever settings they name
module _ (done : TopDone) (full : done.status ≡ 5) (nothing : done.handed ≡ Nothing) where
  no-core : core_in done.handed ≡ None
  no-core = ap core_in nothing

  hands-none : (settings : Settings) → HandsCore settings done.handed done.status
  hands-none settings =
      hands-run settings done.handed done.status None no-core ((λ _. full), (λ _. refl)) (λ _. tt)

  headline-none : (settings : Settings) (from : ReadingSide) (to : WritingSide)
      → Headline (run_settings_of settings) (core_in done.handed) done.status from from to to
  headline-none settings from to = record {
    end = run_end.NoMemory;
    told = full;
    answers = subst (λ c. AnswersShared (settings.workers ≡ 0) (run_settings_of settings) c run_end.NoMemory from from to to) (sym no-core)
        (none-shared from to, tt);
  }

  unread : (settings : Settings) (out : Outside) (leaves : Untouched) → leaves.source → leaves.sink → leaves.door
      → AnswersByMode settings done out out leaves
  unread settings out leaves source sink door = record {
    run = λ _. record { headline = headline-none settings out.from out.to; hands = hands-none settings };
    alone = λ _. record { headline = headline-none settings out.from out.to; nothing = nothing };
    make = λ _. let size = run_settings_of settings in record {
      made = made_headline (settings.workers ≡ 0) size size settings.seed settings.rows None (core_in done.handed) made_end.NoMemory done.status
          out.to out.to refl no-core full (λ none. none) (without_memory (settings.workers ≡ 0) size settings.seed settings.rows out.to);
      hands = hands-none settings;
    };
    serve = λ _. record {
      served = record { end = serve_end.NoMemory; told = full; serves = λ apart. absurd (apart refl); unserved = λ _. refl };
      nothing = nothing;
    };
    source = λ _. source;
    sink = λ _. sink;
    door = λ _. door;
  }

  pub answers-unread : (named : Option Settings) (out : Outside) (leaves : Untouched) → leaves.source → leaves.sink → leaves.door
      → IfSome named (λ settings. AnswersByMode settings done out out leaves)
  answers-unread None out leaves source sink door = tt
  answers-unread (Some settings) out leaves source sink door = unread settings out leaves source sink door

-- the words name these settings, and the source and the sink were as before the call when the run began
module _ (named : Option Settings) (settings : Settings) (is : named ≡ Some settings) (done : TopDone) where
  pub answers-named : (old new : Outside) (leaves : Untouched) → AnswersByMode settings done old new leaves
      → IfSome named (λ s. AnswersByMode s done old new leaves)
  answers-named old new leaves answers = subst (λ n. IfSome n (λ s. AnswersByMode s done old new leaves)) (sym is) answers

  not-none : IsNone named → ⊥
  not-none none = let wrong : true ≡ false = subst (λ (n : Option Settings). IsNone n) is none in cc

  pub faulty-named : (leaves : Untouched) → done.status ≢ 2 → IsFaulty named done leaves
  faulty-named leaves other = record {
    only = λ two. absurd (other two);
    told = λ none. absurd (not-none none);
    left = λ none. absurd (not-none none);
    nothing = λ none. absurd (not-none none);
  }

-- the status of no mode is that of words that name no settings
pub run-status : (settings : Settings) (done : TopDone) (from from' : ReadingSide) (to to' : WritingSide)
    → Headline (run_settings_of settings) (core_in done.handed) done.status from from' to to' → done.status ≢ 2
run-status settings done from from' to to' headline two = never_faulty headline.end (sym headline.told ∙ two)

-- where a call touches no door, it leaves the door as it is
pub answers-doorless : (A B X : Type 0) (x : X) (named : Option Settings) (done : TopDone) (old new : Outside)
    → IfSome named (λ s. AnswersByMode s done old new (untouched A B (Unit {0})))
    → IfSome named (λ s. AnswersByMode s done old new (untouched A B X))
answers-doorless A B X x None done old new answers = tt
answers-doorless A B X x (Some settings) done old new answers = record {
  run = answers.run;
  alone = answers.alone;
  make = answers.make;
  serve = answers.serve;
  source = answers.source;
  sink = answers.sink;
  door = λ _. x;
}

-- the headline of a call
pub headline-answers : (named : Option Settings) (done : TopDone) (old new : Outside) (leaves : Untouched)
    → IfSome named (λ s. AnswersByMode s done old new leaves)
    → IfSome named (λ s. HasScript s → Headline (run_settings_of s) (core_in done.handed) done.status old.from new.from old.to new.to)
headline-answers None done old new leaves answers = tt
headline-answers (Some settings) done old new leaves answers = headline-by settings done old new leaves answers
