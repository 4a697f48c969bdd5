-- What stays so of the queries through the events of the driver.
use Rattle.core_driver.proofs.Words.{◌≡◌, ◌≢◌, ap, Bool, cond, cut-cases, cut_life, eqb, Event, false, IsDriven, IsLed, IsOfAdmission, IsOfRound, IsSomeAnd, IsSound, Life, life_of, Option, Some, started, State, StepsKeep, Took, true, ℕ}
use Rattle.pipeline_manager.specs.declared.life.Life.TheVariants as life
use Rattle.core_driver.proofs.LedLemmas.{led-holds, led-keeps}
use Rattle.core_driver.proofs.SayLemmas.{admission-says, driven-says, round-says}
use Rattle.core_driver.proofs.SlotEndLemmas.{NoneIsBuilding}
use Rattle.core_driver.proofs.TurnLemmas.{AdmissionKeeps, RoundKeeps}

-- a life that is not this one is another, where a query is found
abbrev pub IsOther : (one : Life) → Option Life → Type 0
IsOther one now = now ≢ Some one

-- a life that begins is none of these
started-other : (one : Life) (start extent : ℕ) → life.Ending ≢ one → life.Running start extent ≢ one → started start extent ≢ one
started-other one start extent ends runs = by_test (eqb extent 0)
  where
    by_test : (t : Bool) → cond {A = Life} t life.Ending (life.Running start extent) ≢ one
    by_test true = ends
    by_test false = runs

-- nor is one that is cut
cut-other : (one : Life) → life.Ending ≢ one → ((start left : ℕ) → life.Running start left ≢ one) → (positions : ℕ) (now : Life)
    → now ≢ one → cut_life positions now ≢ one
cut-other one ends runs =
    cut-cases (λ now later. now ≢ one → later ≢ one) (λ now h. h) (λ start left h. ends) (λ start left less h. runs start less)

-- a life that is not this one, where a query is found
from-some : (one now : Life) → now ≢ one → Some now ≢ Some one
from-some one now apart both = apart (let same : now ≡ one = cc in same)

-- and the other way round
to-some : (one now : Life) → Some now ≢ Some one → now ≢ one
to-some one now apart same = apart (ap Some same)

-- no event of a round makes such a life
round-other : (one : Life) → life.Spoiled ≢ one → life.Answered ≢ one → life.Ending ≢ one
    → ((start left : ℕ) → life.Running start left ≢ one) → RoundKeeps (IsOther one)
round-other one spoiled answered ends runs = record {
  spoiled = λ now says. from-some one life.Spoiled spoiled;
  answered = λ now says. from-some one life.Answered answered;
  cut = λ positions now says. from-some one (cut_life positions now) (cut-other one ends runs positions now (to-some one now says));
}

-- no query is built for that was not
pub building-round : RoundKeeps (IsOther life.Building)
building-round = round-other life.Building (λ e. cc) (λ e. cc) (λ e. cc) (λ start left e. cc)

-- no event of a round builds for a query
pub none-building-stays : (event : Event) (old new : State) → IsOfRound event → Took event old new → NoneIsBuilding old.lives → NoneIsBuilding new.lives
none-building-stays event old new round took none query = round-says (IsOther life.Building) building-round query event old new round took (none query)

-- nor does a list of them
pub none-building-led : (old new : State) → IsLed IsOfRound old new → NoneIsBuilding old.lives → NoneIsBuilding new.lives
none-building-led old new = led-holds IsOfRound (λ state. NoneIsBuilding state.lives) none-building-stays old new

-- no query waits that did not
waiting-round : RoundKeeps (IsOther life.Waiting)
waiting-round = round-other life.Waiting (λ e. cc) (λ e. cc) (λ e. cc) (λ start left e. cc)

-- nor is one admitted to wait
waiting-admission : AdmissionKeeps (IsOther life.Waiting)
waiting-admission = record {
  reserved = λ says. from-some life.Waiting life.Building (λ e. cc);
  spoiled = λ says. from-some life.Waiting life.Spoiled (λ e. cc);
  started = λ start extent says.
      from-some life.Waiting (started start extent) (started-other life.Waiting start extent (λ e. cc) (λ e. cc));
}

-- through the events of the driver
pub not-waiting-stays : StepsKeep → (query : ℕ) (old new : State) → IsLed IsDriven old new → IsSound old
    → life_of old.lives query ≢ Some life.Waiting → life_of new.lives query ≢ Some life.Waiting
not-waiting-stays keep query = led-keeps keep IsDriven (λ state. IsOther life.Waiting (life_of state.lives query))
    (λ event old new driven sound took says.
    driven-says (IsOther life.Waiting) waiting-admission waiting-round query event old new driven sound took says)

-- through one of an admission
pub not-waiting-admitted : (query : ℕ) (event : Event) (old new : State) → IsOfAdmission event → IsSound old → Took event old new
    → life_of old.lives query ≢ Some life.Waiting → life_of new.lives query ≢ Some life.Waiting
not-waiting-admitted query event old new admits sound took says =
    admission-says (IsOther life.Waiting) waiting-admission query event old new admits sound took says

-- a query is there, and not abandoned
abbrev pub IsWanted : Option Life → Type 0
IsWanted now = IsSomeAnd now (λ one. one ≢ life.Abandoned)

-- through a round
wanted-round : RoundKeeps IsWanted
wanted-round = record {
  spoiled = λ now says. λ e. cc;
  answered = λ now says. λ e. cc;
  cut = cut-other life.Abandoned (λ e. cc) (λ start left e. cc);
}

-- through an admission
wanted-admission : AdmissionKeeps IsWanted
wanted-admission = record {
  reserved = λ says. λ e. cc;
  spoiled = λ says. λ e. cc;
  started = λ start extent says. started-other life.Abandoned start extent (λ e. cc) (λ e. cc);
}

-- such a query stays so
pub wanted-stays : StepsKeep → (query : ℕ) (old new : State) → IsLed IsDriven old new → IsSound old
    → IsWanted (life_of old.lives query) → IsWanted (life_of new.lives query)
wanted-stays keep query = led-keeps keep IsDriven (λ state. IsWanted (life_of state.lives query))
    (λ event old new driven sound took says.
    driven-says IsWanted wanted-admission wanted-round query event old new driven sound took says)

-- the life of a query that runs
abbrev IsThis : (one : Life) → Option Life → Type 0
IsThis one now = now ≡ Some one

-- no admission turns it
runs-admission : (start left : ℕ) → AdmissionKeeps (IsThis (life.Running start left))
runs-admission start left = record {
  reserved = λ says. absurd (let both : Some life.Waiting ≡ Some (life.Running start left) = says in cc);
  spoiled = λ says. absurd (let both : Some life.Building ≡ Some (life.Running start left) = says in cc);
  started = λ other extent says. absurd (let both : Some life.Building ≡ Some (life.Running start left) = says in cc);
}

-- a query that runs runs on while others are admitted
pub runs-stays : StepsKeep → (query start left : ℕ) (old new : State) → IsLed IsOfAdmission old new → IsSound old
    → life_of old.lives query ≡ Some (life.Running start left) → life_of new.lives query ≡ Some (life.Running start left)
runs-stays keep query start left = led-keeps keep IsOfAdmission (λ state. IsThis (life.Running start left) (life_of state.lives query))
    (λ event old new admits sound took says.
    admission-says (IsThis (life.Running start left)) (runs-admission start left) query event old new admits sound took says)
