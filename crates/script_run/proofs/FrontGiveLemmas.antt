-- A statement that was given is counted, and a query that waits for a slot is one more that is open.
use Rattle.script_run.proofs.Words.{◌+◌, ◌<◌, ◌∙◌, ◌≡◌, ◌≤◌, ap, arith, AreIdle, awaited_by, Bool, false, FrontParts, GivesStatement, is_query, IsCounted, life_of, Life, None, one_if, Option, queries_awaited, RunSettings, Some, state_of, Statement, subst, sym, told_of, true, Waiting, if◌then◌else◌, ℕ}
use Rattle.script_run.specs.Counted.{open_in}
use Rattle.script_run.proofs.LapSubmitLemmas.{awaited-submitted}

-- a front gave a statement to its core, which has this number, and counted so many queries more
pub record GaveOne (statement : Statement) (old new : FrontParts) (number one : ℕ) : Type 0 where
  pub gives : GivesStatement statement (state_of old.core) (state_of new.core)
  pub idle : AreIdle (state_of old.core)
  pub last : number ≡ (state_of old.core).numbers.statement + 1
  pub unfinished : new.unfinished ≡ old.unfinished + one
  pub waits : life_of (state_of new.core).lives number ≡ Some Waiting → one ≡ 1
  pub none : life_of (state_of new.core).lives number ≡ None → one ≡ 0

-- what was counted is whether the statement is a query
by-life : (one : ℕ) (life : Option Life) (test : Bool) → life ≡ (if test then Some Waiting else None) → (life ≡ Some Waiting → one ≡ 1)
    → (life ≡ None → one ≡ 0) → one ≡ one_if test
by-life one life true is waits none = waits is
by-life one life false is waits none = none is

one-more : (test : Bool) (old new one slots : ℕ) → new ≡ old + one → one ≡ one_if test → old < slots → new ≤ slots
one-more true old new one slots sum is free = omega arith
one-more false old new one slots sum is free = omega arith

pub counted-given : (statement : Statement) (old new : FrontParts) (number one : ℕ) → IsCounted old
    → old.unfinished < (state_of old.core).settings.slots → GaveOne statement old new number one → IsCounted new
counted-given statement old new number one counted free gave = record {
  calm = record {
    idle = gave.gives.idle gave.idle;
    waits = gave.gives.counts.waits counted.calm.waits;
    unfinished = gave.gives.counts.unfinished ∙ more (open_in (state_of old.core)) counted.calm.unfinished;
    awaited = awaited-submitted statement (state_of old.core) (state_of new.core) gave.gives.counts
        ∙ more (queries_awaited (state_of old.core)) counted.calm.awaited;
  };
  few = subst (λ (s : RunSettings). new.unfinished ≤ s.slots) (sym gave.gives.counts.settings)
      (one-more test old.unfinished new.unfinished one (state_of old.core).settings.slots gave.unfinished is_one free);
}
  where
    test : Bool
    test = is_query (awaited_by (told_of (state_of old.core) statement))

    is_one : one ≡ one_if test
    is_one = by-life one (life_of (state_of new.core).lives number) test
        (subst (λ n. life_of (state_of new.core).lives n ≡ (if test then Some Waiting else None)) (sym gave.last) gave.gives.counts.life) gave.waits gave.none

    more : (n : ℕ) → n ≡ old.unfinished → n + one_if test ≡ new.unfinished
    more n is = ap (λ m. m + one_if test) is ∙ ap (λ m. old.unfinished + m) (sym is_one) ∙ sym gave.unfinished
