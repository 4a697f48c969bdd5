-- A query that may be abandoned waits, or holds a slot.
use Rattle.event_core.proofs.Words.{◌≡◌, CanAbandon, CanSpoil, eqb, false, find, is_begun, is_open, Life, Lives, None, Option, option_map, option_map_or, query_in, QueryLife, refl, Some, true, ℕ, ap, life_of}
use Rattle.pipeline_manager.proofs.LifeLemmas.{oldest-waits}
use Rattle.pipeline_manager.specs.Lives.{is_waiting, oldest_waiting}
use Rattle.pipeline_manager.specs.Sound.{AreSoundLives}
use Rattle.pipeline_manager.specs.declared.life.Life.TheVariants as life
use Rattle.star_values.proofs.PlaceLemmas.{find-holds, find-none}

-- if no query waits, one that may be abandoned is Building, Running or Ending
pub open-begun : (lives : Lives) (query : ℕ) → oldest_waiting lives ≡ None → CanAbandon query lives → CanSpoil query lives
open-begun lives query none = by_entry (query_in lives.queries query) refl
  where
    waits-none : (o : Option QueryLife) → option_map (λ (entry : QueryLife). entry.query) o ≡ None → o ≡ None
    waits-none None is = refl
    waits-none (Some entry) is = absurd (let both : Some entry.query ≡ None = is in cc)

    by_life : (now : Life) → is_waiting now ≡ false → is_open now ≡ true → is_begun now ≡ true
    by_life life.Waiting waits may = absurd (let both : true ≡ false = waits in cc)
    by_life life.Building waits may = refl
    by_life (life.Running start left) waits may = refl
    by_life life.Ending waits may = refl
    by_life life.Answered waits may = absurd (let both : false ≡ true = may in cc)
    by_life life.Spoiled waits may = absurd (let both : false ≡ true = may in cc)
    by_life life.Abandoned waits may = absurd (let both : false ≡ true = may in cc)

    by_entry : (o : Option QueryLife) → query_in lives.queries query ≡ o
        → option_map_or is_open (option_map (λ (entry : QueryLife). entry.life) o) false ≡ true
        → option_map_or is_begun (option_map (λ (entry : QueryLife). entry.life) o) false ≡ true
    by_entry None is may = may
    by_entry (Some entry) is may =
        by_life entry.life (find-holds (λ (entry : QueryLife). is_waiting entry.life ≡ false) (λ entry. eqb entry.query query) lives.queries entry is
        (find-none (λ (entry : QueryLife). is_waiting entry.life) lives.queries (waits-none (find (λ entry. is_waiting entry.life) lives.queries) none)))
        may

-- a query that is Building, Running or Ending may be abandoned
pub begun-open : (lives : Lives) (query : ℕ) → CanSpoil query lives → CanAbandon query lives
begun-open lives query = by_life (life_of lives query)
  where
    by_life : (o : Option Life) → option_map_or is_begun o false ≡ true → option_map_or is_open o false ≡ true
    by_life None begun = begun
    by_life (Some life.Waiting) begun = refl
    by_life (Some life.Building) begun = refl
    by_life (Some (life.Running start left)) begun = refl
    by_life (Some life.Ending) begun = refl
    by_life (Some life.Answered) begun = begun
    by_life (Some life.Spoiled) begun = begun
    by_life (Some life.Abandoned) begun = begun

-- the query that waits the longest may be
pub oldest-open : (lives : Lives) (query : ℕ) → AreSoundLives lives → oldest_waiting lives ≡ Some query → CanAbandon query lives
oldest-open lives query sound oldest = ap (λ o. option_map_or is_open o false) (oldest-waits lives.queries query sound.rising oldest)
