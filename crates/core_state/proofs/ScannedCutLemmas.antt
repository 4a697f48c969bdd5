-- What stands on a roster as before.
use Rattle.core_state.proofs.Words.{◌∙◌, ◌≡◌, Accepted, accepted_at, ap, entry_of, extent_in, life_of, List, Lives, None, OnRoster, Option, option_and_then, option_map, refl, Running, RunsAs, Some, sym, ℕ}
use Rattle.core_state.proofs.FoundLemmas.{accepted-number}
use Rattle.core_state.proofs.ScannedRunLemmas.{found_by}
use Rattle.core_state.proofs.ScannedSlotLemmas.{run_in}

-- what the core says that runs in a slot of this holder
abbrev pub RunsBy : List Accepted → Lives → (slot : ℕ) → (holder : Option ℕ) → Option Running → Type 0
RunsBy accepted lives slot holder running = RunsAs (option_and_then (life_of lives) holder)
    (run_in (option_and_then (life_of lives) holder) (found_by accepted lives slot holder)) running

-- who is asked as before, with the extent that there was, stands on a roster as before
pub found-same : (accepted others : List Accepted) (lives later : Lives) (slot query : ℕ)
    → accepted_at others query ≡ accepted_at accepted query → extent_in later.queries query ≡ extent_in lives.queries query
    → found_by others later slot (Some query) ≡ found_by accepted lives slot (Some query)
found-same accepted others lives later slot query asked extent =
    ap (option_map (entry_of later slot)) asked ∙ by_accepted (accepted_at accepted query) refl
  where
    entry_over : Accepted → (extent : ℕ) → OnRoster
    entry_over a extent = record { slot = slot; number = a.number; query = a.query; snapshot = a.snapshot; extent = extent }

    by_accepted : (o : Option Accepted) → accepted_at accepted query ≡ o → option_map (entry_of later slot) o ≡ option_map (entry_of lives slot) o
    by_accepted None found = refl
    by_accepted (Some a) found =
        let is : a.number ≡ query = accepted-number accepted query a found in
        ap (λ e. Some (entry_over a e)) (ap (extent_in later.queries) is ∙ extent ∙ sym (ap (extent_in lives.queries) is))
