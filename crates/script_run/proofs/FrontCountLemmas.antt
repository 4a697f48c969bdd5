-- What the front counts: a statement more, and none once all queries came to their end; and what it knows of its core meanwhile.
use Rattle.script_run.proofs.Words.{◌+◌, ◌<◌, ◌∙◌, ◌≡◌, ◌≢◌, ◌≤◌, ◌⊎◌, [], All, ap, AreIdle, arith, OnlyTakesReplies, Bool, count_by, false, FrontParts, GivesStatement, GoesRound, inl, inr, is_open, is_query, is_wait, IsCounted, IsOverOrWaits, IsTrue, KnowsCore, Lives, Pending, queries_awaited, refl, RunSettings, ScanState, seat_at, State, state_of, Statement, subst, sym, ℕ, ⊎_elim}
use Rattle.core_state.specs.Rows.{sight_of}
use Rattle.script_run.specs.Counted.{IsCalm, MayShareLap}
use Rattle.script_run.specs.Front.{Finishes}
use Rattle.script_run.proofs.FrontRunLemmas.{idle-scan, submits-none}
use Rattle.script_run.proofs.LapEventLemmas.{closed-count, closed-over, count-closed, keeps-versions}
use Rattle.script_run.proofs.OnLemmas.{passes-itself}

-- What is known of a core.

-- it stays where its settings, its scan and its numbers do
pub knows-same : (known : RunSettings) (count : ℕ) (old new : State) → KnowsCore known count old → new.settings ≡ old.settings → new.scan ≡ old.scan
    → new.numbers ≡ old.numbers → KnowsCore known count new
knows-same known count old new knows settings scan numbers = record {
  some = knows.some;
  settings = settings ∙ knows.settings;
  submitted = ap (λ n. n.statement) numbers ∙ knows.submitted;
  hands = idle-scan old new scan knows.hands;
}

-- a statement more was submitted
pub knows-given : (statement : Statement) (known : RunSettings) (count number : ℕ) (old new : State) → KnowsCore known count old → number ≡ count + 1
    → GivesStatement statement old new → KnowsCore known number new
knows-given statement known count number old new knows next gives = record {
  some = knows.some;
  settings = gives.counts.settings ∙ knows.settings;
  submitted = gives.counts.number ∙ ap (λ n. n + 1) knows.submitted ∙ sym next;
  hands = gives.idle knows.hands;
}

-- queries came to their end
pub knows-finished : (known : RunSettings) (count : ℕ) (old new : State) → KnowsCore known count old → Finishes old new
    → new.numbers.statement ≡ old.numbers.statement → AreIdle new → KnowsCore known count new
knows-finished known count old new knows finishes number hands = record {
  some = knows.some;
  settings = finishes.round.settings ∙ knows.settings;
  submitted = number ∙ knows.submitted;
  hands = hands;
}

-- there are slots
pub slots-some : (known : RunSettings) (count : ℕ) (core : State) → KnowsCore known count core → 0 < core.settings.slots
slots-some known count core knows = subst (λ (s : RunSettings). 0 < s.slots) (sym knows.settings) knows.some

-- What is counted.

-- one is more than none
some-more : (n : ℕ) → n ≢ 0 → 0 < n
some-more n some = omega (arith, some)

-- the queries that are open, where some are
pub share-open : (front : FrontParts) → IsCounted front → front.unfinished ≢ 0 → MayShareLap (state_of front.core)
share-open front counted some =
    let are = sym counted.calm.unfinished in
    record {
      calm = subst (λ n. IsCalm n (state_of front.core)) are counted.calm;
      some = subst (λ n. 0 < n) are (some-more front.unfinished some);
      few = subst (λ n. n ≤ (state_of front.core).settings.slots) are counted.few;
    }

-- none is open where none is counted
pub closed-counted : (front : FrontParts) → IsCounted front → front.unfinished ≡ 0
    → All (λ entry. is_open entry.life ≡ false) (state_of front.core).lives.queries
closed-counted front counted none = count-closed (state_of front.core).lives.queries (counted.calm.unfinished ∙ none)

-- nothing has to come to an end
pub finishes-none : (state : State) → Finishes state state
finishes-none state = record {
  passes = passes-itself (sight_of state 0);
  stay = λ query was. was;
  round = record { settings = refl; versions = refl; none = λ none. refl; once = omega arith };
  run = submits-none state;
}

-- all queries came to their end, and all replies were written
pub counted-out : (mid : State) (new : FrontParts) → All (λ entry. is_open entry.life ≡ false) mid.lives.queries → AreIdle mid
    → OnlyTakesReplies mid (state_of new.core) → (seat_at (state_of new.core) 0).pending ≡ [] → new.unfinished ≡ 0 → IsCounted new
counted-out mid new closed idle beside none unfinished = record {
  calm = record {
    idle = idle-scan mid (state_of new.core) beside.scan idle;
    waits = subst (λ (lives : Lives). All (λ entry. IsOverOrWaits entry.life) lives.queries) (sym beside.lives) (closed-over mid.lives.queries closed);
    unfinished = ap (λ (lives : Lives). count_by (λ entry. is_open entry.life) lives.queries) beside.lives ∙ closed-count mid.lives.queries closed ∙ sym unfinished;
    awaited = ap (count_by (λ (p : Pending). is_query p.awaited)) none ∙ sym unfinished;
  };
  few = subst (λ n. n ≤ (state_of new.core).settings.slots) (sym unfinished) (omega arith);
}

-- then a slot is free for the next
pub slot-free : (old new : State) (unfinished : ℕ) → 0 < old.settings.slots → GoesRound old new → unfinished ≡ 0 → unfinished < new.settings.slots
slot-free old new unfinished some round none =
    subst (λ n. n < new.settings.slots) (sym none) (subst (λ (s : RunSettings). 0 < s.slots) (sym round.settings) some)

-- the scan went no further where replies were taken
pub round-beside : (old mid new : State) → GoesRound old mid → OnlyTakesReplies mid new → GoesRound old new
round-beside old mid new round beside = record {
  settings = beside.settings ∙ round.settings;
  versions = keeps-versions mid new beside.entries ∙ round.versions;
  none = λ none. ap (λ (scan : ScanState). scan.cut) beside.scan ∙ round.none none;
  once = let same : new.scan.cut ≡ mid.scan.cut = ap (λ (scan : ScanState). scan.cut) beside.scan in let once = round.once in omega arith;
}

-- the front waits for something where it waits for a query
pub awaited-some : (state : State) → 0 < queries_awaited state → (seat_at state 0).pending ≡ [] → ⊥
awaited-some state some none =
    let zero : queries_awaited state ≡ 0 = ap (count_by (λ (p : Pending). is_query p.awaited)) none in omega (arith, some, zero)

-- the queries are to come to their end: the statement waits for some, none is open, or they are as many as there are slots
pub due-by : (statement : Statement) (old mid : FrontParts) (waits : Bool) → IsCounted old → IsCounted mid
    → (IsTrue waits → IsTrue (is_wait statement) × (0 < old.unfinished))
    → IsTrue waits ⊎ ((mid.unfinished ≡ 0) ⊎ ((state_of mid.core).settings.slots ≤ mid.unfinished))
    → (IsTrue (is_wait statement) × (0 < queries_awaited (state_of old.core)))
    ⊎ ((queries_awaited (state_of mid.core) ≡ 0) ⊎ ((state_of mid.core).settings.slots ≤ queries_awaited (state_of mid.core)))
due-by statement old mid waits before counted told due = ⊎_elim
    (λ is. inl (let asked = told is in (asked.0, subst (λ n. 0 < n) (sym before.calm.awaited) asked.1)))
    (⊎_elim (λ none. inr (inl (counted.calm.awaited ∙ none)))
    (λ many. inr (inr (subst (λ n. (state_of mid.core).settings.slots ≤ n) (sym counted.calm.awaited) many)))) due
