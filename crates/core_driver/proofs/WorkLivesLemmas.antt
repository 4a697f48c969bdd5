-- Fewer steps are left for the lives and slots after each call, and no more is to be cut.
use Rattle.core_driver.proofs.Words.{◌+◌, ◌<◌, ◌≡◌, ◌≤◌, after_built, after_cleared, after_end, after_free, after_reserve, after_run, after_spoil, all_to_cut, arith, CanBuild, CanClear, CanEnd, CanFree, CanRun, Clearing, extent_in, Free, given_up, Held, is_free, IsHolderOver, IsToClear, length, life_in, Lives, oldest-waits, oldest_waiting, option_map_or, refl, set, slot_at, SlotState, Some, started, steps_to_free, subst, sum_by, sym, with_dimension, with_life, with_slot, ℕ}
use Rattle.pipeline_manager.specs.Sound.{AreSoundLives}
use Rattle.pipeline_manager.specs.declared.life.Life.TheVariants as life
use Rattle.core_driver.proofs.WorkLifeLemmas.{WritesOver, cut-started, no-more-answered, steps-started, steps_in, written-over}
use Rattle.core_driver.proofs.WorkSlotLemmas.{FiltersAreBelow, building-holds, free-built, free-cleared, free-released, free-reserved, free-taken, there-clearing, there-held}

-- no more is to be cut, and fewer steps are left
pub record HaveLess (old new : Lives) : Type 0 where
  pub cut : all_to_cut new.queries ≤ all_to_cut old.queries
  pub steps : steps_in new.queries + sum_by steps_to_free new.slots < steps_in old.queries + sum_by steps_to_free old.slots

-- `reserve`
pub less-reserved : (slot query : ℕ) (lives : Lives) → AreSoundLives lives → oldest_waiting lives ≡ Some query → slot < length lives.slots
    → slot_at lives slot ≡ Free → HaveLess lives (after_reserve slot lives)
less-reserved slot query lives sound oldest there is_free =
    subst (λ o. HaveLess lives (option_map_or reserved o lives)) (sym oldest) (record {
      cut = let cut = written.cut in omega arith;
      steps = let steps = written.steps in let free = free-reserved lives.slots slot query there is_free in omega arith;
    })
  where
    reserved : ℕ → Lives
    reserved number = record lives { queries = with_life number life.Building lives.queries; slots = set lives.slots slot (Held number 0) }

    written : WritesOver (extent_in lives.queries query) life.Waiting life.Building lives.queries (with_life query life.Building lives.queries)
    written = written-over query life.Waiting life.Building lives.queries sound.rising (oldest-waits lives.queries query sound.rising oldest)

-- `built`
pub less-built : (query dimension : ℕ) (lives : Lives) → AreSoundLives lives → FiltersAreBelow 8 lives → CanBuild query dimension lives
    → HaveLess lives (after_built query dimension lives)
less-built query dimension lives sound below can =
    let held = building-holds lives query dimension sound can in
    let slot : ℕ = held.0 in
    let fewer = free-built lives query dimension slot held.1.0 sound below can held.1.1 in
    subst (λ o. HaveLess lives (option_map_or (λ at. with_slot at (with_dimension dimension (slot_at lives at)) lives) o lives)) (sym held.1.1.first)
    (record { cut = omega arith; steps = omega arith })

-- `run`
pub less-started : (query start : ℕ) (lives : Lives) → AreSoundLives lives → CanRun query lives → HaveLess lives (after_run query start lives)
less-started query start lives sound can =
    let extent : ℕ = extent_in lives.queries query in
    let written = written-over query life.Building (started start extent) lives.queries sound.rising can.building in
    let cut = cut-started start extent extent in
    let steps = steps-started start extent in
    record { cut = omega (arith, written.cut); steps = omega (arith, written.steps) }

-- `spoil`, where filters are built
pub less-spoiled : (query : ℕ) (lives : Lives) → AreSoundLives lives → life_in lives.queries query ≡ Some life.Building
    → HaveLess lives (after_spoil query lives)
less-spoiled query lives sound building =
    let written = written-over query life.Building life.Spoiled lives.queries sound.rising building in
    record { cut = omega (arith, written.cut); steps = omega (arith, written.steps) }

-- `end`
pub less-ended : (slot : ℕ) (lives : Lives) → CanEnd slot lives → HaveLess lives (after_end slot lives)
less-ended slot lives over = by_state (slot_at lives slot) refl over
  where
    by_state : (state : SlotState) → slot_at lives slot ≡ state → IsHolderOver state lives → HaveLess lives (given_up slot state lives)
    by_state Free is ends = absurd ends
    by_state (Held query built) is ends =
        let fewer = free-taken lives.slots slot query built (there-held lives.slots slot query built is) is in
        let no_more = no-more-answered query lives.queries in
        record { cut = no_more.cut; steps = omega (arith, no_more.steps) }
    by_state (Clearing left) is ends = absurd ends

-- `cleared`
pub less-cleared : (slot dimension : ℕ) (lives : Lives) → AreSoundLives lives → FiltersAreBelow 8 lives → CanClear slot dimension lives
    → HaveLess lives (after_cleared slot dimension lives)
less-cleared slot dimension lives sound below can = by_state (slot_at lives slot) refl can
  where
    by_state : (state : SlotState) → slot_at lives slot ≡ state → IsToClear dimension state → HaveLess lives (after_cleared slot dimension lives)
    by_state Free is clears = absurd clears
    by_state (Held query built) is clears = absurd clears
    by_state (Clearing left) is clears =
        let fewer = free-cleared lives slot dimension left sound below (there-clearing lives.slots slot left is) is clears in
        record { cut = omega arith; steps = omega arith }

-- `free`
pub less-released : (slot : ℕ) (lives : Lives) → CanFree slot lives → HaveLess lives (after_free slot lives)
less-released slot lives can =
    let fewer = free-released lives.slots slot (there-clearing lives.slots slot 0 can) can in
    record { cut = omega arith; steps = omega arith }
