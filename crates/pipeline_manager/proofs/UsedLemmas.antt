-- The slots at the front that have all that are in use.
use Rattle.std.proofs.Common.{◌≡◌, ℕ, zero, suc, ◌<◌, ◌≤◌, ◌+◌, cond, List, [], ◌∷◌, length, get_or, set, take, replicate, Option, Some, None, position, refl, ap, sym, ◌∙◌, arith, inl, inr, subst}
use Rattle.std.specs.List.{count_by, position_from}
use Rattle.std.proofs.lemmas.Bool.{cases_eq, cases_lt}
use Rattle.std.proofs.lemmas.Iterator.Adapters.{position_from-zero}
use Rattle.std.proofs.lemmas.List.{get_or-replicate, get_or_past, get_or-set_same, get_or-set_other, length-replicate, length-set}
use Rattle.std.proofs.lemmas.List.Sums.{sum_by-cons}
use Rattle.pipeline_manager.specs.declared.life.SlotState.{SlotState}
use Rattle.pipeline_manager.specs.declared.life.SlotState.TheVariants.{Free}
use Rattle.pipeline_manager.specs.declared.life.QueryLife.{QueryLife}
use Rattle.pipeline_manager.specs.Inside.{UsesFirst}
use Rattle.pipeline_manager.specs.Lives.{is_held_by, life_in}
use Rattle.pipeline_manager.specs.Sound.{FitsSlots, slots_held}

-- what a Free slot at the end does not change is the same of the slots in use
same-used : {X : Type 0} (F : List SlotState → X) (step : SlotState → X → X)
    → ((state : SlotState) (slots : List SlotState) → F (state ∷ slots) ≡ step state (F slots)) → step Free (F []) ≡ F []
    → (used : ℕ) (slots : List SlotState) → ((slot : ℕ) → used ≤ slot → get_or slots slot Free ≡ Free)
    → F (take used slots) ≡ F slots
same-used F step steps none zero [] behind = refl
same-used F step steps none (suc used) [] behind = refl
same-used F step steps none zero (state ∷ slots) behind =
    let rest : F [] ≡ F slots = same-used F step steps none zero slots (λ slot from. behind (suc slot) (omega arith)) in
    sym (steps state slots ∙ ap (λ first. step first (F slots)) (behind zero (omega arith)) ∙ ap (step Free) (sym rest) ∙ none)
same-used F step steps none (suc used) (state ∷ slots) behind =
    steps state (take used slots)
    ∙ ap (step state) (same-used F step steps none used slots (λ slot from. behind (suc slot) (omega arith)))
    ∙ sym (steps state slots)

-- a query holds as many of the slots in use as of all
pub slots_held-used : (query used : ℕ) (slots : List SlotState) → UsesFirst used slots
    → slots_held query (take used slots) ≡ slots_held query slots
slots_held-used query used slots uses =
    same-used (slots_held query) (λ state rest. cond {A = ℕ} (is_held_by query state) 1 0 + rest)
    (sum_by-cons (λ state. cond {A = ℕ} (is_held_by query state) 1 0)) refl used slots uses.behind

-- the first slot in use that a query holds is the first of all
pub position-used : (query used : ℕ) (slots : List SlotState) → UsesFirst used slots
    → position (is_held_by query) (take used slots) ≡ position (is_held_by query) slots
position-used query used slots uses =
    position_from-zero (is_held_by query) (take used slots)
    ∙ ap (λ (first : ℕ → Option ℕ). first 0)
    (same-used (λ slots place. position_from (is_held_by query) place slots)
    (λ state first place. cond (is_held_by query state) (Some place) (first (place + 1)))
    (λ state slots. refl) refl used slots uses.behind)
    ∙ sym (position_from-zero (is_held_by query) slots)

-- a slot that is written behind those in use stays Free
pub uses-set : (used more slot : ℕ) (state : SlotState) (slots : List SlotState) → used ≤ more → more ≤ length slots
    → slot < length slots → (more ≤ slot → get_or slots slot Free ≡ Free → state ≡ Free) → UsesFirst used slots
    → UsesFirst more (set slots slot state)
uses-set used more slot state slots less within there written uses = record {
  in_range = let many : length (set slots slot state) ≡ length slots = length-set slots slot state in omega arith;
  behind = λ other from. elim (cases_eq other slot) [
    | inl same ↦
        ap (λ place. get_or (set slots slot state) place Free) same ∙ get_or-set_same slots slot state Free there
        ∙ written (omega arith) (uses.behind slot (omega arith))
    | inr apart ↦ get_or-set_other slots slot other state Free apart ∙ uses.behind other (omega arith)
  ];
}

-- the slots in use are as many of each query as its life says
pub fits-used : (queries : List QueryLife) (used : ℕ) (slots : List SlotState) → UsesFirst used slots
    → ((query : ℕ) → FitsSlots (life_in queries query) (slots_held query slots))
    → (query : ℕ) → FitsSlots (life_in queries query) (slots_held query (take used slots))
fits-used queries used slots uses fits query =
    subst (FitsSlots (life_in queries query)) (sym (slots_held-used query used slots uses)) (fits query)
