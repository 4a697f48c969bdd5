-- What it means that a case is right.
use Rattle.std.specs.Prelude.{◌≡◌, ℕ, ◌+◌, Bool, true, List, [], is_none}
use Rattle.script_run.specs.Run.{script_text, some_refused}
use Rattle.star_cases.specs.Judge.{has_refusal}
use Rattle.star_cases.specs.declared.outcome.CaseOutcome.{CaseOutcome}
use Rattle.star_cases.specs.declared.outcome.RunWay.{RunWay}
use Rattle.star_cases.specs.declared.outcome.RunWay.TheVariants.{Alone, Shared, Worked}
use Rattle.core_state.specs.Settings.{AreWithin}

-- the bytes are the replies, by what statements mean, to all statements of a script, with a refusal
-- where those have one; where memory was wanted for the statements at some places they tell it
abbrev pub AnswersItsScript : (script replies : List ℕ) → Type 0
AnswersItsScript script replies = (wanted : List ℕ) × (replies ≡ script_text wanted true script)
    × (has_refusal replies ≡ some_refused wanted true script)

-- nothing is wrong with the case
abbrev pub is_right : CaseOutcome → Bool
is_right outcome = is_none outcome.wrong

-- the settings of a way are within the limits of a core, and where workers share it there is a
-- seat for each and one more
abbrev pub IsWayWithin : RunWay → Type 0
IsWayWithin Alone = Unit {0}
IsWayWithin (Shared settings) = AreWithin settings
IsWayWithin (Worked settings) = AreWithin settings × (settings.seats ≡ settings.workers + 1)
