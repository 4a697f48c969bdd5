-- Counts of faults, and when one rose. Every crate that speaks of a failed call cites these words.
use Rattle.std.specs.Prelude.{◌≡◌, ℕ, ◌+◌, ◌-◌, ◌^◌, ◌<◌, ◌⊎◌, min, Bool, true, false, MatchResult, Result}

-- the last value of a counter, where it stands still
abbrev pub last_count : ℕ
last_count = 2 ^ 64 - 1

-- the value of a counter after one more: it rises by one, or stands still at its last value
abbrev pub next_count : ℕ → ℕ
next_count n = min (n + 1) last_count

-- a fault came: its count is greater than it was, or stands still at the last value of a counter
abbrev pub Rose : ℕ → ℕ → Type 0
Rose old new = (old < new) ⊎ ((old ≡ last_count) × (new ≡ last_count))

-- an Ok leaves the count of faults as it was, and an Err is one fault more
abbrev pub CountsFault : {A E : Type 0} → ℕ → ℕ → Result A E → Type 0
CountsFault old new result = MatchResult result (λ _. new ≡ old) (λ _. new ≡ next_count old)

-- whether the last call failed, after a call with this result
abbrev pub NotesFault : {A E : Type 0} → Bool → Result A E → Type 0
NotesFault failed result = MatchResult result (λ _. failed ≡ false) (λ _. failed ≡ true)

-- what a call with this result leaves of the count of faults, and of whether the last call failed
pub record TellsFault {A E : Type 0} (old new : ℕ) (failed : Bool) (result : Result A E)
    : Type 0 where
  pub faults : CountsFault old new result
  pub last : NotesFault failed result

-- over some calls one fault came, and the last call was it: no call was made after it
abbrev pub FailedOnce : ℕ → ℕ → Bool → Type 0
FailedOnce old new failed = (new ≡ next_count old) × (failed ≡ true)

-- over some calls none failed, or the last one alone
abbrev pub FailedOnceAtMost : ℕ → ℕ → Bool → Type 0
FailedOnceAtMost old new failed = (new ≡ old) ⊎ FailedOnce old new failed
