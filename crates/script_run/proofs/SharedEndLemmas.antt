-- How a run over a core ends whose replies halt, and what is told at each end.
use Rattle.script_run.proofs.Words.{◌++◌, ◌+◌, ◌||◌, ◌∙◌, ◌≡◌, ◌≢◌, ◌≤◌, [], All, AnswersBy, ap, append-nil, Appends-nil, arith, Bool, Consumes, Consumes-nil, Consumes-trans, empty_core, end_of_halt, Err, fed_with, Halt, HasEnded, IfSome, IsProperFront, IsRun, length, List, MayCome, NoMemory, None, Ok, Option, Reading, refl, Reply, RunSettings, SCRIPT_LIMIT, script_text, Some, some_refused, State, state_of, Statement, statements_of, StaysFed, subst, sym, true, within_limit, WriteFault, ℕ}
use Rattle.star_io.specs.declared.run_end.RunEnd.TheVariants as end
use Rattle.star_io.specs.Link.{ReadingSide, WritingSide}
use Rattle.core_state.specs.Rows.{SeatRow, Sight, empty_row, row_of, sight_of}
use Rattle.core_state.specs.Sent.{Sent}
use Rattle.script_run.specs.Front.{LeavesToRead, Plays, PlaysIn, PlaysOn, PlaysWhole, ReadsBetween, ReadsOn, SubmitsAll, givens_in}
use Rattle.script_run.specs.Shared.{AnswersShared, CutScript, TellsFront, TellsGiven, TellsOf, TellsRun, TellsSent, UnlessWanting, cut_of}
use Rattle.event_core.specs.CoreParts.{CoreParts}
use Rattle.star_io.specs.declared.run_end.RunEnd.{RunEnd}
use Rattle.script_run.specs.Run.{AnswersScript}
use Rattle.script_run.proofs.BetweenLemmas.{front-between, part-between, refused-halted}
use Rattle.script_run.proofs.OnLemmas.{by-err, wants-left}
use Rattle.script_run.proofs.RunLemmas.{came, finished, within_all}
use Rattle.script_run.proofs.SharedReadLemmas.{reads-all, reads-then}
use Rattle.script_run.proofs.SharedRunLemmas.{IsShared, ended-way, fed-shared, few-given, finished-way}
use Rattle.script_run.proofs.SharedScriptLemmas.{Sure, TellsSome, halted-script, new-row, tells-given}
use Rattle.script_run.proofs.SharedWholeLemmas.{IsPlaying}
use Rattle.script_run.proofs.WholeLemmas.{fed_on}

-- no memory was left for the run
pub none-shared : (from : ReadingSide) (to : WritingSide) → AnswersScript end.NoMemory from from to to
none-shared from to = record {
  given = [];
  written = [];
  wanted = [];
  replies = front-between (script_text []) from from to to [] [] (Consumes-nil from.left) (Appends-nil to.taken) (refl, refl, omega arith)
      (script_text [] from.ended (within_limit []), refl);
  refused = tt;
}

-- What is told at an end.

-- unless no memory was left
pub unless-wanting : (end : RunEnd) (Holds : Type 0) → Holds → UnlessWanting end Holds
unless-wanting end.NoMemory Holds holds = tt
unless-wanting other Holds holds = holds

pub unless-weaker : (end : RunEnd) (Holds Follows : Type 0) → (Holds → Follows) → UnlessWanting end Holds → UnlessWanting end Follows
unless-weaker end.NoMemory Holds Follows more holds = tt
unless-weaker other Holds Follows more holds = more holds

-- a seat sees what a run sent, of which this holds
pub record IsSent (Also : List Sent → Type 0) (end : RunEnd) (ended : Bool) (wanted given : List ℕ) (sight : Sight) : Type 0 where
  pub sent : TellsSent end ended wanted given sight
  pub also : Also (sent.tells.said ++ sent.tells.others)

-- a run answered a script, its seat sees what it sent, and of the script this is told
pub record HasAnswered (Also : List Sent → Type 0) (Told : (wanted : List ℕ) → CutScript → Type 0) (end : RunEnd) (sight : Sight)
    (from from' : ReadingSide) (to to' : WritingSide) : Type 0 where
  pub answers : AnswersScript end from from' to to'
  pub told : IfSome (cut_of end answers.given) (λ cut. Told answers.wanted cut)
  pub sent : UnlessWanting end (IsSent Also end from'.ended answers.wanted answers.given sight)

-- of a run that has a core by itself: what it sent was submitted to a core that was empty, and nothing else
abbrev pub AreSubmitted : RunSettings → State → List Sent → Type 0
AreSubmitted settings core sent = SubmitsAll (givens_in sent) (empty_core settings) core

-- and the core tells of the script
abbrev pub IsTold : RunSettings → State → (wanted : List ℕ) → CutScript → Type 0
IsTold settings core wanted cut = TellsOf wanted cut settings.slots core

pub answered-by : (settings : RunSettings) (core : State) (end : RunEnd) (from from' : ReadingSide) (to to' : WritingSide)
    → HasAnswered (AreSubmitted settings core) (IsTold settings core) end (sight_of core 0) from from' to to'
    → AnswersBy settings core end from from' to to'
answered-by settings core end from from' to to' has = (
  has.answers,
  has.told,
  unless-weaker end (IsSent (AreSubmitted settings core) end from'.ended has.answers.wanted has.answers.given (sight_of core 0))
      (TellsFront (Unit {0}) settings end from'.ended has.answers.wanted has.answers.given core)
      (λ is. record { sent = is.sent; submits = λ alone. is.also }) has.sent,
)

-- every entry is of seat 0
abbrev pub IsOwn : Sight → Type 0
IsOwn sight = All (λ entry. entry.seat ≡ 0) sight.seen

-- nothing else is left
sure-never : (halt : Halt) (others : List Statement) → Sure halt (⊥ → others ≢ [])
sure-never WriteFault others = tt
sure-never NoMemory others = λ never. absurd never

-- something is left if that is known
sure-left : (halt : Halt) (Known : Type 0) → Known → Sure halt Known
sure-left WriteFault Known known = tt
sure-left NoMemory Known known = known

-- The replies halt, by what a seat sees.

-- the replies to a script halted, and its seat sees the first of its statements
pub record IsCut (Also : List Sent → Type 0) (halt : Halt) (sight : Sight) (from from' : ReadingSide) (to to' : WritingSide) : Type 0 where
  pub answers : AnswersScript (end_of_halt halt) from from' to to'
  pub replies : List Reply
  pub some : TellsSome Also sight (statements_of from'.ended (within_limit answers.given)) replies

-- the seat of a run sees entries of its own alone, and of what it sent this holds
module _ (Also : List Sent → Type 0) (row : SeatRow) (empty : row ≡ empty_row) (sight : Sight) (own : IsOwn sight)
    (from from' : ReadingSide) (to to' : WritingSide) where
  -- what is told then
  pub halts-by : (Told : (wanted : List ℕ) → CutScript → Type 0) (halt : Halt) → IsCut Also halt sight from from' to to'
      → HasAnswered Also Told (end_of_halt halt) sight from from' to to'
  halts-by Told WriteFault cut = record {
    answers = cut.answers;
    told = tt;
    sent = record {
      sent = record {
        replies = cut.replies;
        tells = cut.some.tells;
        own = own;
        whole = λ never. absurd never;
        same = λ never. absurd never;
        history = λ never. absurd never;
      };
      also = cut.some.also;
    };
  }
  halts-by Told NoMemory cut = record { answers = cut.answers; told = tt; sent = tt }

  -- a front of the replies was written, and the reading met no end
  pub front-cut : (statements : List Statement) (behind : Reading) (Left : Type 0) (given : List ℕ)
      → (on : PlaysOn (Some NoMemory) 0 (record { row = row; seen = [] }) [] statements Left sight to.taken to'.taken) → Also on.sent
      → ReadsBetween (came given) statements behind → Consumes from.left from'.left given → length given ≤ SCRIPT_LIMIT → from'.ended ≡ from.ended
      → from'.faults ≡ from.faults → IsCut Also NoMemory sight from from' to to'
  front-cut statements behind Left given on also reads gave few same unfailed =
      let all = reads-all (came given) behind statements from'.ended reads (λ e. cc) in
      let found = halted-script NoMemory row sight statements (statements_of from'.ended behind.waiting) Left to.taken to'.taken from'.ended
      given on own
      all in record {
        answers = record {
          given = given;
          written = on.written;
          wanted = found.wanted;
          replies = front-between (script_text found.wanted) from from' to to' given on.written gave on.took (same, unfailed, few)
              (rw (within_all given few) found.front);
          refused = tt;
        };
        replies = on.replies;
        some = tells-given Also row sight (Some NoMemory) statements (statements_of from'.ended behind.waiting)
            (statements_of from'.ended (within_limit given)) Left to.taken to'.taken empty on also
            (ap (statements_of from'.ended) (within_all given few) ∙ all);
      }

  -- a proper front of the replies to a script was written
  pub part-cut : (halt : Halt) (statements others : List Statement) (Left : Type 0) (given script wanted : List ℕ)
      → (on : PlaysOn (Some halt) 0 (record { row = row; seen = [] }) [] statements Left sight to.taken to'.taken) → Also on.sent
      → Consumes from.left from'.left given → length given ≤ SCRIPT_LIMIT + 1 → within_limit given ≡ script
      → IsProperFront on.written (script_text wanted from'.ended script) → statements_of from'.ended script ≡ statements ++ others
      → IsCut Also halt sight from from' to to'
  part-cut halt statements others Left given script wanted on also gave few within part all = record {
    answers = record {
      given = given;
      written = on.written;
      wanted = wanted;
      replies = part-between (script_text wanted) from from' to to' given on.written halt gave on.took few (rw within part);
      refused = refused-halted halt (some_refused wanted true given);
    };
    replies = on.replies;
    some = tells-given Also row sight (Some halt) statements others (statements_of from'.ended (within_limit given)) Left to.taken to'.taken
        empty on
        also (ap (statements_of from'.ended) within ∙ all);
  }

  -- before the input has ended
  pub halted-cut : (halt : Halt) (statements : List Statement) (behind : Reading) (given : List ℕ)
      → (on : PlaysOn (Some halt) 0 (record { row = row; seen = [] }) [] statements (LeavesToRead behind) sight to.taken to'.taken)
      → Also on.sent → ReadsBetween (came given) statements behind → Consumes from.left from'.left given → length given ≤ SCRIPT_LIMIT
      → from'.ended ≡ from.ended → from'.faults ≡ from.faults → IsCut Also halt sight from from' to to'
  halted-cut NoMemory statements behind given on also reads gave few same unfailed =
      front-cut statements behind (LeavesToRead behind) given on also reads gave few same unfailed
  halted-cut WriteFault statements behind given on also reads gave few same unfailed =
      let others = statements_of from'.ended behind.waiting in
      let all = reads-all (came given) behind statements from'.ended reads (λ e. cc) in
      let found = halted-script WriteFault row sight statements others (LeavesToRead behind) to.taken to'.taken from'.ended given on own
      all in
      part-cut WriteFault statements others (LeavesToRead behind) given given found.wanted on also gave (omega (arith, few))
      (within_all given few)
      (found.part tt) all

  -- where the replies that were waited for are written, behind a reading
  pub out-cut : (halt : Halt) (statements : List Statement) (first waits : Reading) (given : List ℕ)
      → (on : PlaysOn (Some halt) 0 (record { row = row; seen = [] }) [] (statements ++ []) ⊥ sight to.taken to'.taken) → Also on.sent
      → ReadsBetween first statements waits → Consumes from.left from'.left given → length given ≤ SCRIPT_LIMIT + 1 → MayCome first [] from'.ended
      → within_limit given ≡ first.waiting → IsCut Also halt sight from from' to to'
  out-cut halt statements first waits given on also reads gave few comes within =
      let others = statements_of from'.ended waits.waiting in
      let all = reads-all first waits statements from'.ended reads comes ∙ ap (λ list. list ++ others) (sym (append-nil statements)) in
      let found = halted-script halt row sight (statements ++ []) others ⊥ to.taken to'.taken from'.ended first.waiting on own all in
      part-cut halt (statements ++ []) others ⊥ given first.waiting found.wanted on also gave few within
      (found.part (sure-never halt others)) all

  -- at the last statements, behind the end of the input
  pub ended-cut : (halt : Halt) (statements : List Statement) (behind : Reading) (given : List ℕ)
      → (on : PlaysOn (Some halt) 0 (record { row = row; seen = [] }) [] statements (LeavesToRead behind) sight to.taken to'.taken)
      → Also on.sent → ReadsBetween (finished (came given)) statements behind → StaysFed (finished (came given)) behind
      → Consumes from.left from'.left given → length given ≤ SCRIPT_LIMIT → HasEnded from' → IsCut Also halt sight from from' to to'
  ended-cut halt statements behind given on also reads stays gave few has_ended =
      let others = statements_of from'.ended behind.waiting in
      let all = reads-all (finished (came given)) behind statements from'.ended reads (λ e. (refl, has_ended.0)) in
      let found = halted-script halt row sight statements others (LeavesToRead behind) to.taken to'.taken from'.ended given on own all in
      part-cut halt statements others (LeavesToRead behind) given given found.wanted on also gave (omega (arith, few)) (within_all given few)
      (found.part (sure-left halt (LeavesToRead behind → others ≢ [])
      (λ leaves. subst (λ ended. statements_of ended behind.waiting ≢ []) (sym has_ended.0) (leaves stays.1)))) all

-- The replies halt of a run that has a core by itself.

-- at statements that were read, behind others
halted-way : (halt : Halt) (old now new : State) (first waits waits' : Reading) (refused : Bool) (taken0 taken taken' : Option (List ℕ))
    → IsPlaying old [] now first waits refused taken0 taken → PlaysWhole (Err halt) now waits new waits' taken taken'
    → ReadsOn (Some halt) old [] first new waits' taken0 taken'
halted-way halt old now new first waits waits' refused taken0 taken taken' way plays =
    let whole = plays way.plays.0.on.still way.plays.0.on.goes.waits in
    record {
      statements = way.statements ++ whole.0.statements;
      behind = whole.0.behind;
      reads = reads-then first waits whole.0.behind way.statements whole.0.statements way.reads way.stays whole.0.reads;
      stays = fed_on first waits whole.0.behind way.stays whole.0.stays;
      plays = (by-err refused halt old now new [] way.statements whole.0.statements ⊥ (LeavesToRead whole.0.behind)
          (LeavesToRead whole.0.behind)
          taken0 taken taken' (λ left. left) way.plays (whole.0.plays, tt)).0;
      all = tt;
    }

-- where queries come to their end
out-way : (halt : Halt) (old now new : State) (first waits : Reading) (refused : Bool) (taken0 taken taken' : Option (List ℕ))
    → (way : IsPlaying old [] now first waits refused taken0 taken) → Plays (Err halt) now [] new taken taken'
    → PlaysIn (Some halt) old [] (way.statements ++ []) ⊥ new taken0 taken'
out-way halt old now new first waits refused taken0 taken taken' way plays =
    (by-err refused halt old now new [] way.statements [] ⊥ ⊥ ⊥ taken0 taken taken' (λ left. left) way.plays
    (plays way.plays.0.on.still way.plays.0.on.goes.waits)).0

-- the core is of these settings, and each of its entries is of seat 0
module _ (settings : RunSettings) (new : State) (own : IsOwn (sight_of new 0)) (from from' : ReadingSide) (to to' : WritingSide) where
  -- so the replies to a script halted
  abbrev pub IsCutAlone : Halt → Type 0
  IsCutAlone halt = IsCut (AreSubmitted settings new) halt (sight_of new 0) from from' to to'

  -- what the run tells then
  pub halts-alone : (halt : Halt) → IsCutAlone halt → AnswersBy settings new (end_of_halt halt) from from' to to'
  halts-alone halt cut = answered-by settings new (end_of_halt halt) from from' to to'
      (halts-by (AreSubmitted settings new) (row_of (empty_core settings) 0) (new-row settings) (sight_of new 0) own from from' to to'
      (IsTold settings new) halt cut)

  -- no memory was left for a piece
  pub unfed-shared : (waits : Reading) (refused : Bool) (left : Option (List ℕ)) (piece : List ℕ)
      → IsShared settings new waits refused from.left left to.taken to'.taken → Consumes left from'.left piece
      → waits.fed + length piece ≤ SCRIPT_LIMIT → from'.ended ≡ from.ended → from'.faults ≡ from.faults → IsCutAlone NoMemory
  unfed-shared waits refused left piece run gave few same unfailed =
      let fed = fed-shared settings new waits (fed_with waits piece) refused from.left left from'.left to.taken to'.taken piece run gave
      refl few in
      let plays = (wants-left refused (empty_core settings) new [] fed.way.statements ⊥ (Unit {0}) to.taken to'.taken tt fed.way.plays).0 in
      front-cut (AreSubmitted settings new) (row_of (empty_core settings) 0) (new-row settings) (sight_of new 0) own from from' to to'
      fed.way.statements (fed_with waits piece) (Unit {0}) fed.given plays.on plays.run fed.way.reads fed.gave
      (few-given settings new (fed_with waits piece) refused from.left from'.left to.taken to'.taken fed) same unfailed

  -- before the input has ended
  pub halted-shared : (halt : Halt) (now : State) (waits waits' : Reading) (refused : Bool) (taken : Option (List ℕ))
      → IsShared settings now waits refused from.left from'.left to.taken taken → PlaysWhole (Err halt) now waits new waits' taken to'.taken
      → from'.ended ≡ from.ended → from'.faults ≡ from.faults → IsCutAlone halt
  halted-shared halt now waits waits' refused taken run plays same unfailed =
      let reads = halted-way halt (empty_core settings) now new (came run.given) waits waits' refused to.taken taken to'.taken run.way
      plays in
      halted-cut (AreSubmitted settings new) (row_of (empty_core settings) 0) (new-row settings) (sight_of new 0) own from from' to to'
      halt reads.statements reads.behind run.given reads.plays.on reads.plays.run reads.reads run.gave
      (few-given settings now waits refused from.left from'.left to.taken taken run) same unfailed

  -- where queries come to their end, behind a reading
  out-shared : (halt : Halt) (now : State) (first waits : Reading) (refused : Bool) (taken : Option (List ℕ)) (given : List ℕ)
      → IsPlaying (empty_core settings) [] now first waits refused to.taken taken → Plays (Err halt) now [] new taken to'.taken
      → Consumes from.left from'.left given → length given ≤ SCRIPT_LIMIT + 1 → MayCome first [] from'.ended
      → within_limit given ≡ first.waiting → IsCutAlone halt
  out-shared halt now first waits refused taken given way plays gave few comes within =
      let out = out-way halt (empty_core settings) now new first waits refused to.taken taken to'.taken way plays in
      out-cut (AreSubmitted settings new) (row_of (empty_core settings) 0) (new-row settings) (sight_of new 0) own from from' to to'
      halt way.statements first waits given out.on out.run way.reads gave few comes within

  -- behind the end of the reading
  pub out-halted : (halt : Halt) (now : State) (waits : Reading) (refused : Bool) (left taken : Option (List ℕ)) (given : List ℕ)
      → (run : IsShared settings now waits refused from.left left to.taken taken) → Plays (Err halt) now [] new taken to'.taken
      → Consumes from.left from'.left given → length given ≤ SCRIPT_LIMIT + 1 → within_limit given ≡ run.given → IsCutAlone halt
  out-halted halt now waits refused left taken given run plays gave few within =
      out-shared halt now (came run.given) waits refused taken given run.way plays gave few (λ e. cc) within

  -- at the last statements, behind the end of the input
  pub ended-halted : (halt : Halt) (now : State) (waits waits' : Reading) (refused : Bool) (left taken : Option (List ℕ)) (piece : List ℕ)
      → IsShared settings now waits refused from.left left to.taken taken → Consumes left from'.left piece → piece ≡ [] → HasEnded from'
      → PlaysWhole (Err halt) now (finished waits) new waits' taken to'.taken → IsCutAlone halt
  ended-halted halt now waits waits' refused left taken piece run gave nothing has_ended plays =
      let way = finished-way (empty_core settings) now run.given waits refused to.taken taken run.way in
      let reads = halted-way halt (empty_core settings) now new (finished (came run.given)) (finished waits) waits' refused to.taken taken
      to'.taken way
      plays in
      ended-cut (AreSubmitted settings new) (row_of (empty_core settings) 0) (new-row settings) (sight_of new 0) own from from' to to'
      halt reads.statements reads.behind run.given reads.plays.on reads.plays.run reads.reads reads.stays
      (rw (append-nil run.given) at (Consumes-trans from.left left from'.left run.given [] run.gave (rw nothing at gave)))
      (few-given settings now waits refused from.left left to.taken taken run) has_ended

  -- behind the last statements
  pub rest-halted : (halt : Halt) (now mid : State) (waits waits' : Reading) (refused some : Bool) (left taken taken' : Option (List ℕ))
      (piece : List ℕ) → IsShared settings now waits refused from.left left to.taken taken → Consumes left from'.left piece → piece ≡ []
      → HasEnded from' → PlaysWhole (Ok some) now (finished waits) mid waits' taken taken' → Plays (Err halt) mid [] new taken' to'.taken
      → IsCutAlone halt
  rest-halted halt now mid waits waits' refused some left taken taken' piece run gave nothing has_ended whole plays =
      let few = few-given settings now waits refused from.left left to.taken taken run in
      out-shared halt mid (finished (came run.given)) waits' (refused || some) taken' run.given
      (ended-way settings now mid waits waits' refused some from.left left to.taken taken taken' run whole) plays
      (rw (append-nil run.given) at (Consumes-trans from.left left from'.left run.given [] run.gave (rw nothing at gave)))
      (omega (arith, few))
      (λ e. (refl, has_ended.0)) (within_all run.given few)

-- The core is handed back.

-- what it tells it tells then
pub shared-by : (settings settings' : RunSettings) (core : Option CoreParts) (parts : CoreParts) (end : RunEnd) (from from' : ReadingSide)
    (to to' : WritingSide) → IfSome core (λ own. own ≡ parts) → settings' ≡ settings
    → AnswersBy settings' (state_of parts) end from from' to to' → AnswersShared (Unit {0}) settings core end from from' to to'
shared-by settings settings' None parts end from from' to to' own same answers = (answers.0, tt)
shared-by settings settings' (Some other) parts end from from' to to' own same answers = (
  answers.0,
  (
    λ alone. subst (λ (p : CoreParts). TellsRun end answers.0.wanted answers.0.given settings.slots (state_of p)) (sym own)
        (subst (λ (s : RunSettings). TellsRun end answers.0.wanted answers.0.given s.slots (state_of parts)) same answers.1),
    subst (λ (p : CoreParts). TellsGiven (Unit {0}) settings end from'.ended answers.0.wanted answers.0.given (state_of p)) (sym own)
        (subst (λ (s : RunSettings). TellsGiven (Unit {0}) s end from'.ended answers.0.wanted answers.0.given (state_of parts)) same
        answers.2),
  ),
)

-- and the steps of a run lead to it
pub run-by : (core : Option CoreParts) (parts : CoreParts) (old : State) (settings : RunSettings) → IfSome core (λ own. own ≡ parts)
    → old ≡ empty_core settings → IsRun old (state_of parts) → IfSome core (λ own. IsRun (empty_core settings) (state_of own))
run-by None parts old settings own is run = tt
run-by (Some other) parts old settings own is run =
    subst (λ (p : CoreParts). IsRun (empty_core settings) (state_of p)) (sym own) (subst (λ o. IsRun o (state_of parts)) is run)

-- what is told where nobody else had the core is told where more is known
pub front-alone : (Alone Alone' : Type 0) (settings : RunSettings) (end : RunEnd) (ended : Bool) (wanted given : List ℕ) (core : State)
    → (Alone' → Alone) → TellsFront Alone settings end ended wanted given core → TellsFront Alone' settings end ended wanted given core
front-alone Alone Alone' settings end ended wanted given core known front =
    record { sent = front.sent; submits = λ alone. front.submits (known alone) }

given-alone : (Alone Alone' : Type 0) (settings : RunSettings) (end : RunEnd) (ended : Bool) (wanted given : List ℕ) (core : State)
    → (Alone' → Alone) → TellsGiven Alone settings end ended wanted given core → TellsGiven Alone' settings end ended wanted given core
given-alone Alone Alone' settings end ended wanted given core known =
    unless-weaker end (TellsFront Alone settings end ended wanted given core) (TellsFront Alone' settings end ended wanted given core)
    (front-alone Alone Alone' settings end ended wanted given core known)

pub shared-alone : (Alone Alone' : Type 0) (settings : RunSettings) (core : Option CoreParts) (end : RunEnd) (from from' : ReadingSide)
    (to to' : WritingSide) → (Alone' → Alone) → AnswersShared Alone settings core end from from' to to'
    → AnswersShared Alone' settings core end from from' to to'
shared-alone Alone Alone' settings None end from from' to to' known answers = (answers.0, tt)
shared-alone Alone Alone' settings (Some parts) end from from' to to' known answers = (
  answers.0,
  (
    λ alone. answers.1.0 (known alone),
    given-alone Alone Alone' settings end from'.ended answers.0.wanted answers.0.given (state_of parts) known answers.1.1,
  ),
)
