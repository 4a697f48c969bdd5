-- What is known of a run that wrote the replies of a case and ended as they say.
use Rattle.std.proofs.Common.{◌≡◌, ℕ, Bool, true, false, List, [], Some, sym, ap, ◌∙◌, ◌++◌, subst, append-nil, if◌then◌else◌}
use Rattle.std.specs.Io.KnownBytes.{IsAtEnd}
use Rattle.star_io.specs.Link.{ReadingSide, WritingSide}
use Rattle.star_io.specs.declared.run_end.RunEnd.{RunEnd}
use Rattle.star_io.specs.declared.run_end.RunEnd.TheVariants.{Clean, SomeRefused}
use Rattle.script_run.specs.Run.{AnswersScript, TellsRefused, Writes, script_text, some_refused}
use Rattle.star_cases.specs.Judge.{has_refusal, wanted_end}
use Rattle.star_cases.specs.Outcome.{AnswersItsScript}

-- a run that ends by one of the two ends that are wanted has read all of the script and written all replies
wanted_ends : (wanted : List ℕ) (refused : Bool) (end : RunEnd) (source : ReadingSide) (left given replies : List ℕ)
    → end ≡ (if refused then SomeRefused else Clean) → source.left ≡ Some left → Writes (script_text wanted) end source given replies
    → TellsRefused end (some_refused wanted true given)
    → (left ≡ []) × (replies ≡ script_text wanted true given) × (refused ≡ some_refused wanted true given)
wanted_ends wanted true end source left given replies is some wrote tells =
    let all : Writes (script_text wanted) SomeRefused source given replies =
    subst (λ e. Writes (script_text wanted) e source given replies) is wrote in
    (subst IsAtEnd some all.0.1, all.1, sym (subst (λ e. TellsRefused e (some_refused wanted true given)) is tells))
wanted_ends wanted false end source left given replies is some wrote tells =
    let all : Writes (script_text wanted) Clean source given replies =
    subst (λ e. Writes (script_text wanted) e source given replies) is wrote in
    (subst IsAtEnd some all.0.1, all.1, sym (subst (λ e. TellsRefused e (some_refused wanted true given)) is tells))

-- a run that is right answers the script, where memory was wanted at the places of the run
pub right_runs_answer : (end : RunEnd) (from from' : ReadingSide) (to to' : WritingSide) (script left bytes replies : List ℕ)
    → from.left ≡ Some script → from'.left ≡ Some left → to.taken ≡ Some [] → to'.taken ≡ Some bytes → AnswersScript end from from' to to'
    → bytes ≡ replies → end ≡ wanted_end replies → AnswersItsScript script replies
right_runs_answer end from from' to to' script left bytes replies first last none all run same is =
    let took : bytes ≡ run.written = rw (none, all) at run.replies.took in
    let gave : script ≡ run.given ++ left = rw (first, last) at run.replies.gave in
    let wrote : Writes (script_text run.wanted) end from' run.given replies =
    subst (λ b. Writes (script_text run.wanted) end from' run.given b) (sym took ∙ same) run.replies.writes in
    let ends = wanted_ends run.wanted (has_refusal replies) end from' left run.given replies is last wrote run.refused in
    let whole : run.given ≡ script = sym (gave ∙ ap (λ l. run.given ++ l) ends.0 ∙ append-nil run.given) in
    subst (λ s. AnswersItsScript s replies) whole (run.wanted, ends.1, ends.2)
