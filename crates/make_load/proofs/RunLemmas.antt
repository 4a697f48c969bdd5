-- What a run in memory tells, and what is written of it.
use Rattle.std.proofs.Common.{◌≡◌, ◌≢◌, ◌≤◌, ◌↔◌, ℕ, Bool, true, false, List, [], ◌++◌, length, take, drop, Option, Some, None, Result, Ok, Err, refl, sym, ap, subst, ◌∙◌, arith, append-nil, take-append-drop, length-append, length-drop}
use Rattle.std.specs.Prelude.{IfOk, IfSome, IsNone, OnOk, OnErr}
use Rattle.std.specs.Io.KnownBytes.{Appends, Consumes, IsAtEnd}
use Rattle.std.proofs.KnownBytes.{Appends-nil}
use Rattle.star_values.specs.declared.no_memory.NoMemory as values
use Rattle.star_io.specs.Faults.{CountsFault}
use Rattle.star_io.specs.Link.{ReadingSide, WritingSide}
use Rattle.star_io.specs.declared.failed.Failed.{Failed}
use Rattle.star_io.specs.Transfer.{AppendsFront}
use Rattle.star_io.specs.declared.run_end.RunEnd.{RunEnd}
use Rattle.star_io.specs.declared.run_end.RunEnd.TheVariants as script_end
use Rattle.script_reader.specs.declared.reader.TheConstants.{SCRIPT_LIMIT}
use Rattle.core_state.specs.Sound.{empty_core}
use Rattle.core_state.specs.State.{State}
use Rattle.core_state.specs.declared.settings.RunSettings.{RunSettings}
use Rattle.event_core.specs.CoreParts.{CoreParts}
use Rattle.event_core.specs.Seen.{state_of}
use Rattle.make_load.specs.Script.{made_script}
use Rattle.script_run.specs.End.{end_of_all}
use Rattle.script_run.specs.Front.{IsRun}
use Rattle.script_run.specs.Run.{AnswersScript, CountsFaults, IsProperFront, ReadsBytes, script_text, some_refused}
use Rattle.script_run.specs.Shared.{AnswersShared, TellsFront, TellsGiven, TellsRun}
use Rattle.script_run.proofs.SharedEndLemmas.{front-alone}
use Rattle.make_load.specs.Made.{AnswersMade, CountsMade, HandsBack, HandsOn, IsRan, IsSummed, IsTextOf, RunsText, TellsMade, TellsRan, WritesLine, WritesSome, WritesSummed, end_behind, line_of}
use Rattle.make_load.specs.declared.line.Summed.{Summed}
use Rattle.make_load.specs.declared.made.MadeDone.{MadeDone}
use Rattle.make_load.specs.declared.made.MadeEnd.{MadeEnd}
use Rattle.make_load.specs.declared.made.MadeEnd.TheVariants as made
use Rattle.make_load.specs.declared.ran.Ran.{Ran}

-- The run of a script in memory.

-- what a core tells of a script that was run to its end it tells whether or not some reply is a refusal
front-whole : (Alone : Type 0) (settings : RunSettings) (refused ended : Bool) (wanted given : List ℕ) (core : State)
    → TellsFront Alone settings (end_of_all refused) ended wanted given core
    → TellsFront Alone settings script_end.Clean true wanted given core
front-whole Alone settings false ended wanted given core front = record {
  sent = record {
    replies = front.sent.replies;
    tells = front.sent.tells;
    own = front.sent.own;
    whole = front.sent.whole;
    same = front.sent.same;
    history = front.sent.history;
  };
  submits = front.submits;
}
front-whole Alone settings true ended wanted given core front = record {
  sent = record {
    replies = front.sent.replies;
    tells = front.sent.tells;
    own = front.sent.own;
    whole = front.sent.whole;
    same = front.sent.same;
    history = front.sent.history;
  };
  submits = front.submits;
}

tells-whole : (Alone : Type 0) (settings : RunSettings) (refused ended : Bool) (wanted given : List ℕ) (found : Option CoreParts)
    → IfSome found (λ parts. (Alone → TellsRun (end_of_all refused) wanted given settings.slots (state_of parts))
    × TellsGiven Alone settings (end_of_all refused) ended wanted given (state_of parts))
    → IfSome found (λ parts. TellsMade Alone settings wanted given (state_of parts))
tells-whole Alone settings refused ended wanted given None told = tt
tells-whole Alone settings false ended wanted given (Some core) told =
    (told.0, front-whole Alone settings false ended wanted given (state_of core) told.1)
tells-whole Alone settings true ended wanted given (Some core) told =
    (told.0, front-whole Alone settings true ended wanted given (state_of core) told.1)

-- it read all bytes, and wrote all replies
is-ran : (Alone : Type 0) (settings : RunSettings) (core : Option CoreParts) (refused : Bool) (script rest taken given written wanted : List ℕ)
    → Consumes (Some script) (Some rest) given → Appends (Some []) (Some taken) written → rest ≡ []
    → written ≡ script_text wanted true given
    → some_refused wanted true given ≡ refused → IfSome core (λ parts. TellsMade Alone settings wanted given (state_of parts))
    → IsRan Alone settings script taken refused core
is-ran Alone settings core refused script rest taken given written wanted gave took end text refusal tells =
    let all : script ≡ given = gave ∙ ap (λ l. given ++ l) end ∙ append-nil given in
    record {
      wanted = wanted;
      text = subst (λ s. taken ≡ script_text wanted true s) (sym all) (took ∙ text);
      refusal = subst (λ s. some_refused wanted true s ≡ refused) (sym all) refusal;
      tells = subst (λ s. IfSome core (λ parts. TellsMade Alone settings wanted s (state_of parts))) (sym all) tells;
    }

ran-by : (Alone : Type 0) (settings : RunSettings) (core : Option CoreParts) (refused : Bool) (script rest taken : List ℕ)
    (from from' : ReadingSide) (to to' : WritingSide)
    → from.left ≡ Some script → from'.left ≡ Some rest → to.taken ≡ Some [] → to'.taken ≡ Some taken
    → AnswersShared Alone settings core (end_of_all refused) from from' to to' → IsRan Alone settings script taken refused core
ran-by Alone settings core false script rest taken from from' to to' first last none all run =
    let replies = run.0.replies in
    is-ran Alone settings core false script rest taken run.0.given run.0.written run.0.wanted (rw (first, last) at replies.gave)
    (rw (none, all) at replies.took) (subst IsAtEnd last replies.writes.0.1) replies.writes.1 run.0.refused
    (tells-whole Alone settings false from'.ended run.0.wanted run.0.given core run.1)
ran-by Alone settings core true script rest taken from from' to to' first last none all run =
    let replies = run.0.replies in
    is-ran Alone settings core true script rest taken run.0.given run.0.written run.0.wanted (rw (first, last) at replies.gave)
    (rw (none, all) at replies.took) (subst IsAtEnd last replies.writes.0.1) replies.writes.1 run.0.refused
    (tells-whole Alone settings true from'.ended run.0.wanted run.0.given core run.1)

-- the same with the end, the script and the bytes by equations
pub ran_of : (Alone : Type 0) (settings : RunSettings) (core : Option CoreParts) (run_end : RunEnd) (script first rest old taken : List ℕ)
    (from from' : ReadingSide) (to to' : WritingSide)
    → first ≡ script → old ≡ [] → from.left ≡ Some first → from'.left ≡ Some rest → to.taken ≡ Some old → to'.taken ≡ Some taken
    → AnswersShared Alone settings core run_end from from' to to' → (refused : Bool) → run_end ≡ end_of_all refused
    → IsRan Alone settings script taken refused core
ran_of Alone settings core run_end script first rest old taken from from' to to' is_first is_old left left' none all run refused is_end =
    ran-by Alone settings core refused script rest taken from from' to to' (left ∙ ap Some is_first) left' (none ∙ ap Some is_old) all
    (subst (λ e. AnswersShared Alone settings core e from from' to to') is_end run)

-- where its source has met no fault, it did not end by one
pub never-read-fault : (run_end : RunEnd) (from from' : ReadingSide) (to to' : WritingSide) → from'.failed ≡ false
    → CountsFaults run_end from from' to to' → run_end ≢ script_end.ReadFault
never-read-fault run_end from from' to to' unfailed counts is =
    let faults : CountsFaults script_end.ReadFault from from' to to' = subst (λ e. CountsFaults e from from' to to') is counts in
    let wrong : false ≡ true = sym unfailed ∙ faults.0.1 in cc

-- where its script is within the limit, it did not pass it
pub never-limit : (run_end : RunEnd) (from from' : ReadingSide) (to to' : WritingSide) (script first rest : List ℕ)
    → length script ≤ SCRIPT_LIMIT → first ≡ script → from.left ≡ Some first → from'.left ≡ Some rest
    → AnswersScript run_end from from' to to'
    → run_end ≢ script_end.ScriptLimit
never-limit run_end from from' to to' script first rest few is_first left left' run is =
    let reads : ReadsBytes script_end.ScriptLimit (length run.given) = subst (λ e. ReadsBytes e (length run.given)) is run.replies.reads in
    let gave : first ≡ run.given ++ rest = rw (left, left') at run.replies.gave in
    let all : length script ≡ length (run.given ++ rest) = ap length (sym is_first ∙ gave) in
    absurd (omega (arith, few, reads, all, length-append run.given rest))

-- it tells the text of its replies
pub text-by : (Alone : Type 0) (settings : RunSettings) (script : List ℕ) (ran : Ran) → RunsText Alone settings script ran
    → (refused : Bool) → ran.end ≡ end_of_all refused → IsTextOf ran.replies.taken script
text-by Alone settings script ran runs refused is = let told = runs refused is in (told.wanted, told.text)

-- The line.

-- a made script is within the limit
pub short-made : (seed rows : ℕ) (text : Result (List ℕ) values.NoMemory) → rows ≤ 1000000
    → ((s r : ℕ) → r ≤ 1000000 → length (made_script s r) ≤ 67108864) → IfOk text (λ t. t ≡ made_script seed rows)
    → IfOk text (λ t. length t ≤ SCRIPT_LIMIT)
short-made seed rows (Ok text) few law is = subst (λ (t : List ℕ). length t ≤ SCRIPT_LIMIT) (sym is) (law seed rows few)
short-made seed rows (Err wanting) few law is = tt

-- behind a line there was memory
written-some : (refused : Bool) (result : Result (Unit {0}) Failed) → end_behind result refused ≢ made.NoMemory
written-some false (Ok done) is = let wrong : made.Clean ≡ made.NoMemory = is in cc
written-some true (Ok done) is = let wrong : made.SomeRefused ≡ made.NoMemory = is in cc
written-some refused (Err failed) is = let wrong : made.WriteFault ≡ made.NoMemory = is in cc

-- the line was written, or not all of it
pub writes-some : (line text : List ℕ) (refused : Bool) (to to' : WritingSide) (result : Result (Unit {0}) Failed)
    → text ≡ line → OnOk result (Appends to.taken to'.taken text) → OnErr result (AppendsFront to.taken to'.taken text)
    → WritesSome (end_behind result refused) line refused to to'
writes-some line text false to to' (Ok done) is took front =
    record { ends = written-some false (Ok done); written = text; took = took; writes = (is, refl) }
writes-some line text true to to' (Ok done) is took front =
    record { ends = written-some true (Ok done); written = text; took = took; writes = (is, refl) }
writes-some line text refused to to' (Err failed) is took (n, less, part) =
    record {
      ends = written-some refused (Err failed);
      written = take n text;
      took = part;
      writes = subst (IsProperFront (take n text)) is (drop n text, omega (arith, less, length-drop n text), sym (take-append-drop n text));
    }

-- the same for the faults
pub faults_of : (refused : Bool) (to to' : WritingSide) (result : Result (Unit {0}) Failed) → CountsFault to.faults to'.faults result
    → OnErr result (to'.failed ≡ true) → CountsMade (end_behind result refused) to to'
faults_of false to to' (Ok done) counts last = counts
faults_of true to to' (Ok done) counts last = counts
faults_of refused to to' (Err f) counts last = (counts, last)

-- What is handed back.

-- no memory was left: nothing was written
pub without_memory : (Alone : Type 0) (settings : RunSettings) (seed rows : ℕ) (to : WritingSide)
    → AnswersMade Alone settings seed rows None made.NoMemory to to
without_memory Alone settings seed rows to = record { wanted = []; written = []; took = Appends-nil to.taken; writes = refl; told = tt }

-- the same by equations
pub without_core : (Alone : Type 0) (settings : RunSettings) (seed rows : ℕ) (core : Option CoreParts) (end : MadeEnd) (to to' : WritingSide)
    → core ≡ None → end ≡ made.NoMemory → to' ≡ to → AnswersMade Alone settings seed rows core end to to'
without_core Alone settings seed rows core end to to' no_core is same =
    subst (λ c. AnswersMade Alone settings seed rows c end to to') (sym no_core)
    (subst (λ e. AnswersMade Alone settings seed rows None e to to') (sym is)
    (subst (λ t. AnswersMade Alone settings seed rows None made.NoMemory to t) (sym same) (without_memory Alone settings seed rows to)))

-- there is no core then, no steps lead to one, and no write failed
pub back-without : (Alone : Type 0) (settings : RunSettings) (core : Option CoreParts) (end : MadeEnd)
    → core ≡ None → end ≡ made.NoMemory → HandsBack Alone settings core (end ≡ made.NoMemory)
back-without Alone settings core end no_core is = record {
  core = (λ none. is, λ same. subst (λ (c : Option CoreParts). IsNone c) (sym no_core) refl);
  run = λ alone.
      subst (λ (c : Option CoreParts). IfSome c (λ parts. IsRun (empty_core settings) (state_of parts))) (sym no_core) tt;
}

pub faults-without : (end : MadeEnd) (to : WritingSide) → end ≡ made.NoMemory → CountsMade end to to
faults-without end to is = subst (λ e. CountsMade e to to) (sym is) refl

-- no run to its end is without memory
never-wanting : (refused : Bool) → end_of_all refused ≢ script_end.NoMemory
never-wanting false is = let wrong : script_end.Clean ≡ script_end.NoMemory = is in cc
never-wanting true is = let wrong : script_end.SomeRefused ≡ script_end.NoMemory = is in cc

-- where there was memory the core is the one that was found
hands-found : (end : MadeEnd) (found handed : Option CoreParts) → end ≢ made.NoMemory → HandsOn end found handed → handed ≡ found
hands-found made.Clean found handed some hands = hands
hands-found made.SomeRefused found handed some hands = hands
hands-found made.WriteFault found handed some hands = hands
hands-found made.NoMemory found handed some hands = absurd (some refl)

hands-none : (end : MadeEnd) (found handed : Option CoreParts) → end ≡ made.NoMemory → HandsOn end found handed → handed ≡ None
hands-none end found handed is hands = subst (λ e. HandsOn e found handed) is hands

-- a script was run to its end and summed up, and its line was written
by-ran : (Alone : Type 0) (settings : RunSettings) (seed rows : ℕ) (script replies line : List ℕ) (refused : Bool) (core : Option CoreParts)
    (end : MadeEnd) (to to' : WritingSide)
    → script ≡ made_script seed rows → IsRan Alone settings script replies refused core
    → ((wanted : List ℕ) → replies ≡ script_text wanted true script → line ≡ line_of wanted script) → WritesSome end line refused to to'
    → AnswersMade Alone settings seed rows core end to to'
by-ran Alone settings seed rows script replies line refused core end to to' is ran lines some = record {
  wanted = ran.wanted;
  written = some.written;
  took = some.took;
  writes = subst (λ s. WritesLine end (line_of ran.wanted s) (some_refused ran.wanted true s) some.written) is
      (subst (λ r. WritesLine end (line_of ran.wanted script) r some.written) (sym ran.refusal)
      (subst (λ l. WritesLine end l refused some.written) (lines ran.wanted ran.text) some.writes));
  told = subst (λ s. IfSome core (λ parts. TellsMade Alone settings ran.wanted s (state_of parts))) is ran.tells;
}

answers-summed : (Alone : Type 0) (settings : RunSettings) (seed rows : ℕ) (script : List ℕ) (ran : Ran) (core : Option CoreParts)
    (end : MadeEnd) (to to' : WritingSide)
    (summed : Result Summed values.NoMemory) → script ≡ made_script seed rows → RunsText Alone settings script ran
    → IfOk summed (IsSummed ran.end script ran.replies.taken) → WritesSummed summed end to to' → HandsOn end ran.core core
    → AnswersMade Alone settings seed rows core end to to'
answers-summed Alone settings seed rows script ran core end to to' (Ok summed) is runs summed_is writes hands =
    subst (λ c. AnswersMade Alone settings seed rows c end to to') (sym (hands-found end ran.core core writes.ends hands))
    (by-ran Alone settings seed rows script ran.replies.taken summed.line summed.refused ran.core end to to' is
    (runs summed.refused summed_is.0) summed_is.1 writes)
answers-summed Alone settings seed rows script ran core end to to' (Err wanting) is runs summed_is writes hands =
    without_core Alone settings seed rows core end to to' (hands-none end ran.core core writes.0 hands) writes.0 writes.1

-- what is told of the made workload, by the run of its script
pub answers_of : (Alone : Type 0) (settings : RunSettings) (seed rows : ℕ) (script : List ℕ) (ran : Ran) (done : MadeDone)
    (to to' : WritingSide)
    → script ≡ made_script seed rows → RunsText Alone settings script ran → TellsRan script ran done to to'
    → AnswersMade Alone settings seed rows done.core done.end to to'
answers_of Alone settings seed rows script ran done to to' is runs told =
    answers-summed Alone settings seed rows script ran done.core done.end to to' told.summed is runs told.is told.writes told.hands

-- there is no core exactly where no memory was left
core-summed : (run_end : RunEnd) (found core : Option CoreParts) (end : MadeEnd) (script replies : List ℕ) (to to' : WritingSide)
    (summed : Result Summed values.NoMemory) → (IsNone found → run_end ≡ script_end.NoMemory)
    → IfOk summed (IsSummed run_end script replies)
    → WritesSummed summed end to to' → HandsOn end found core → IsNone core ↔ (end ≡ made.NoMemory)
core-summed run_end found core end script replies to to' (Ok summed) known summed_is writes hands = (
  λ none. absurd
      (never-wanting summed.refused
      (sym summed_is.0 ∙ known (subst (λ (c : Option CoreParts). IsNone c) (hands-found end found core writes.ends hands) none))),
  λ is. absurd (writes.ends is),
)
core-summed run_end found core end script replies to to' (Err wanting) known summed_is writes hands =
    (λ none. writes.0, λ is. subst (λ (c : Option CoreParts). IsNone c) (sym (hands-none end found core is hands)) refl)

-- steps of a run lead to the core that is handed back
run-handed : (settings : RunSettings) (found core : Option CoreParts) (end : MadeEnd) → HandsOn end found core
    → IfSome found (λ parts. IsRun (empty_core settings) (state_of parts))
    → IfSome core (λ parts. IsRun (empty_core settings) (state_of parts))
run-handed settings found core made.Clean hands run =
    subst (λ (c : Option CoreParts). IfSome c (λ parts. IsRun (empty_core settings) (state_of parts))) (sym hands) run
run-handed settings found core made.SomeRefused hands run =
    subst (λ (c : Option CoreParts). IfSome c (λ parts. IsRun (empty_core settings) (state_of parts))) (sym hands) run
run-handed settings found core made.WriteFault hands run =
    subst (λ (c : Option CoreParts). IfSome c (λ parts. IsRun (empty_core settings) (state_of parts))) (sym hands) run
run-handed settings found core made.NoMemory hands run =
    subst (λ (c : Option CoreParts). IfSome c (λ parts. IsRun (empty_core settings) (state_of parts))) (sym hands) tt

-- the core of a run is handed back once more
pub back_of : (Alone : Type 0) (settings : RunSettings) (script : List ℕ) (ran : Ran) (done : MadeDone) (to to' : WritingSide)
    → TellsRan script ran done to to' → HandsBack Alone settings ran.core (ran.end ≡ script_end.NoMemory)
    → HandsBack Alone settings done.core (done.end ≡ made.NoMemory)
back_of Alone settings script ran done to to' told back = record {
  core = core-summed ran.end ran.core done.core done.end script ran.replies.taken to to' told.summed back.core.0 told.is told.writes
      told.hands;
  run = λ alone. run-handed settings ran.core done.core done.end told.hands (back.run alone);
}

-- what is known where nobody else had the core is known of less, too
pub made-alone : (Alone Alone' : Type 0) (settings : RunSettings) (seed rows : ℕ) (core : Option CoreParts) (end : MadeEnd)
    (to to' : WritingSide)
    → (Alone' → Alone) → AnswersMade Alone settings seed rows core end to to' → AnswersMade Alone' settings seed rows core end to to'
made-alone Alone Alone' settings seed rows core end to to' less run = record {
  wanted = run.wanted;
  written = run.written;
  took = run.took;
  writes = run.writes;
  told = told-alone core run.told;
}
  where
    told-alone : (found : Option CoreParts)
        → IfSome found (λ parts. TellsMade Alone settings run.wanted (made_script seed rows) (state_of parts))
        → IfSome found (λ parts. TellsMade Alone' settings run.wanted (made_script seed rows) (state_of parts))
    told-alone None told = tt
    told-alone (Some parts) told = (
      λ alone. told.0 (less alone),
      front-alone Alone Alone' settings script_end.Clean true run.wanted (made_script seed rows) (state_of parts) less told.1,
    )
