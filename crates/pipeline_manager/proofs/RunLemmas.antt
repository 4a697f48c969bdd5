-- Some query is Running exactly where the holder of some slot is.
use Rattle.std.proofs.Common.{◌≡◌, ℕ, zero, suc, ◌≤◌, ◌↔◌, Bool, true, false, cond, eqb, ◌||◌, List, [], ◌∷◌, Some, option_map, refl, ap, sym, ◌∙◌, arith, subst}
use Rattle.std.specs.Bool.{IsTrue}
use Rattle.std.specs.List.{Any, list_any}
use Rattle.std.specs.Option.{option_map_or}
use Rattle.std.proofs.lemmas.Bool.{eqb-true}
use Rattle.std.proofs.lemmas.List.Folds.{Any-from_list_any}
use Rattle.std.proofs.lemmas.List.Sums.{sum_by-cons}
use Rattle.pipeline_manager.specs.declared.life.Life.{Life}
use Rattle.pipeline_manager.specs.declared.life.Life.TheVariants.{Waiting, Building, Running, Ending, Answered, Spoiled, Abandoned}
use Rattle.pipeline_manager.specs.declared.life.SlotState.{SlotState}
use Rattle.pipeline_manager.specs.declared.life.SlotState.TheVariants.{Free, Held, Clearing}
use Rattle.pipeline_manager.specs.declared.life.QueryLife.{QueryLife}
use Rattle.pipeline_manager.specs.Lives.{query_in, life_in, is_held_by}
use Rattle.pipeline_manager.specs.Conditions.{IsRunning}
use Rattle.pipeline_manager.specs.Inside.{is_running, holder_runs}
use Rattle.pipeline_manager.specs.Sound.{AreRising, FitsSlots, slots_held}
use Rattle.pipeline_manager.proofs.QueryLemmas.{query_in-found}

-- the test says what is Running
runs-from_test : (life : Life) → is_running life ≡ true → IsRunning life
runs-from_test (Running start left) e = tt
runs-from_test other e = cc

test-from_runs : (life : Life) → IsRunning life → is_running life ≡ true
test-from_runs (Running start left) runs = refl
test-from_runs other runs = absurd runs

-- what is Running holds a slot
running-holds : (life : Life) (held : ℕ) → IsRunning life → FitsSlots (Some life) held → 1 ≤ held
running-holds (Running start left) held runs fits = omega arith
running-holds other held runs fits = absurd runs

-- a query that is found Running is one of the queries
found-runs : (queries : List QueryLife) (query : ℕ) → option_map_or is_running (life_in queries query) false ≡ true
    → Any (λ entry. IsRunning entry.life) queries
found-runs [] query e = cc
found-runs (entry ∷ queries) query e = by_test (eqb entry.query query) (found-runs queries query) e
  where
    by_test : (found : Bool)
        → (option_map_or is_running (life_in queries query) false ≡ true → Any (λ e. IsRunning e.life) queries)
        → option_map_or is_running (option_map (λ e. e.life) (cond found (Some entry) (query_in queries query))) false ≡ true
        → Any (λ e. IsRunning e.life) (entry ∷ queries)
    by_test true rest e = (zero, entry, omega arith, refl, runs-from_test entry.life e)
    by_test false rest e =
        let (k, other, within, is, runs) = rest e in
        (suc k, other, omega arith, is, runs)

-- the holder of a slot that is found Running is one of the queries
holder-runs : (queries : List QueryLife) (state : SlotState) → holder_runs queries state ≡ true
    → Any (λ entry. IsRunning entry.life) queries
holder-runs queries Free e = cc
holder-runs queries (Held query built) e = found-runs queries query e
holder-runs queries (Clearing left) e = cc

-- the state of a slot that a Running query holds
held-runs : (queries : List QueryLife) (query : ℕ) (state : SlotState)
    → option_map_or is_running (life_in queries query) false ≡ true → is_held_by query state ≡ true → holder_runs queries state ≡ true
held-runs queries query Free runs held = cc
held-runs queries query (Held holder built) runs held =
    ap (λ k. option_map_or is_running (life_in queries k) false) (eqb-true holder query held) ∙ runs
held-runs queries query (Clearing left) runs held = cc

-- among the slots, of which a Running query holds one, is one whose holder is Running
holds-runs : (queries : List QueryLife) (query : ℕ) (slots : List SlotState)
    → option_map_or is_running (life_in queries query) false ≡ true → 1 ≤ slots_held query slots
    → list_any (holder_runs queries) slots ≡ true
holds-runs queries query [] runs some = absurd (omega arith)
holds-runs queries query (state ∷ slots) runs some =
    by_test (is_held_by query state) refl (holds-runs queries query slots runs)
  where
    either : (first : Bool) → list_any (holder_runs queries) slots ≡ true → (first || list_any (holder_runs queries) slots) ≡ true
    either true behind = refl
    either false behind = behind

    by_test : (held : Bool) → held ≡ is_held_by query state
        → (1 ≤ slots_held query slots → list_any (holder_runs queries) slots ≡ true)
        → list_any (holder_runs queries) (state ∷ slots) ≡ true
    by_test true e rest = rw (held-runs queries query state runs (sym e)) refl
    by_test false e rest =
        let all = sum_by-cons (λ s. cond {A = ℕ} (is_held_by query s) 1 0) state slots in
        let none : cond {A = ℕ} (is_held_by query state) 1 0 ≡ 0 = ap (λ b. cond {A = ℕ} b 1 0) (sym e) in
        let behind = rest (omega arith) in
        either (holder_runs queries state) behind

some_run-from_slots : (queries : List QueryLife) (slots : List SlotState) → list_any (holder_runs queries) slots ≡ true
    → Any (λ entry. IsRunning entry.life) queries
some_run-from_slots queries slots e =
    let (k, state, within, is, runs) = Any-from_list_any (holder_runs queries) slots e in
    holder-runs queries state runs

slots-from_some_run : (queries : List QueryLife) (slots : List SlotState) → AreRising queries
    → ((query : ℕ) → FitsSlots (life_in queries query) (slots_held query slots))
    → Any (λ entry. IsRunning entry.life) queries → list_any (holder_runs queries) slots ≡ true
slots-from_some_run queries slots rising held (k, entry, within, is, runs) =
    let found : query_in queries entry.query ≡ Some entry =
    query_in-found queries k entry.query entry rising within (ap (λ e. e.query) is) ∙ ap Some is in
    let life : life_in queries entry.query ≡ Some entry.life = ap (option_map (λ e. e.life)) found in
    holds-runs queries entry.query slots
    (ap (λ o. option_map_or is_running o false) life ∙ test-from_runs entry.life runs)
    (running-holds entry.life _ runs (subst (λ o. FitsSlots o (slots_held entry.query slots)) life (held entry.query)))

-- some query is Running exactly where the holder of some slot is
pub some_run-by_slots : (queries : List QueryLife) (slots : List SlotState) (answer : Bool) → AreRising queries
    → ((query : ℕ) → FitsSlots (life_in queries query) (slots_held query slots))
    → answer ≡ list_any (holder_runs queries) slots → IsTrue answer ↔ Any (λ entry. IsRunning entry.life) queries
some_run-by_slots queries slots answer rising held same = (
  λ yes. some_run-from_slots queries slots (sym same ∙ yes),
  λ runs. same ∙ slots-from_some_run queries slots rising held runs,
)
