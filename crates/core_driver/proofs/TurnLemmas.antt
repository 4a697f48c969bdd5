-- What is said of the life of a query stays said of it through calls.
use Rattle.core_driver.proofs.Words.{◌∙◌, ◌≡◌, after_reserve, cut_life, Life, life_in, List, Lives, oldest-waits, Option, QueryLife, Some, started, subst, sym, with_life, ℕ}
use Rattle.pipeline_manager.specs.Sound.{AreSoundLives}
use Rattle.pipeline_manager.specs.declared.life.Life.TheVariants as life
use Rattle.core_state.proofs.SaysLemmas.{reserved-cases, says-written}

-- what is said of a life, where a query is found, stays said through a round
pub record RoundKeeps (Says : Option Life → Type 0) : Type 0 where
  pub spoiled : (now : Life) → Says (Some now) → Says (Some life.Spoiled)
  pub answered : (now : Life) → Says (Some now) → Says (Some life.Answered)
  pub cut : (positions : ℕ) (now : Life) → Says (Some now) → Says (Some (cut_life positions now))

-- and through an admission
pub record AdmissionKeeps (Says : Option Life → Type 0) : Type 0 where
  pub reserved : Says (Some life.Waiting) → Says (Some life.Building)
  pub spoiled : Says (Some life.Building) → Says (Some life.Spoiled)
  pub started : (start extent : ℕ) → Says (Some life.Building) → Says (Some (started start extent))

-- another life is written of a query with this life
pub says-turned : (Says : Option Life → Type 0) (query : ℕ) (old new : Life) (queries : List QueryLife) (number : ℕ)
    → life_in queries query ≡ Some old → (Says (Some old) → Says (Some new)) → Says (life_in queries number)
    → Says (life_in (with_life query new queries) number)
says-turned Says query old new queries number was turns =
    says-written Says query new queries number (λ other is says. turns (subst Says (sym is ∙ was) says))

-- the query that waits the longest gets a slot
pub says-waited : (Says : Option Life → Type 0) (slot : ℕ) (lives : Lives) (number : ℕ) → AreSoundLives lives
    → (Says (Some life.Waiting) → Says (Some life.Building)) → Says (life_in lives.queries number)
    → Says (life_in (after_reserve slot lives).queries number)
says-waited Says slot lives number sound turns says =
    reserved-cases (λ queries. Says (life_in queries number)) slot lives says
    (λ query oldest. says-turned Says query life.Waiting life.Building lives.queries number
    (oldest-waits lives.queries query sound.rising oldest) turns says)
