-- What stays sound where the life of one query is written.
use Rattle.core_state.proofs.Words.{◌<◌, ◌↔◌, ◌∙◌, ◌≡◌, ◌≢◌, ◌≤◌, ◌⊎◌, Accepted, ap, AreSoundQueries, Filters, IfSome, is_open, IsKept, IsTrue, Life, life_in, List, query_in, refl, same_Some, slice_get, SlotState, Some, State, subst, sym, tables_of, with_life, ℕ}
use Rattle.pipeline_manager.specs.declared.life.Life.TheVariants as life
use Rattle.core_state.proofs.FoundLemmas.{life-written, query_in-number, same-life, with_life-found, with_life-numbers}
use Rattle.core_state.proofs.FrameLemmas.{LivesAs, Told, Wanted, lives-as}
use Rattle.core_state.proofs.HeldLemmas.{queries-held}
use Rattle.core_state.proofs.MovedLemmas.{StaysWanted, held_now}
use Rattle.core_state.proofs.WholeLivesLemmas.{lost-written}

-- who is waited for, whose reply was taken, and who was abandoned
pub wanted-written : (state : State) (query : ℕ) (old new : Life) → life_in state.lives.queries query ≡ Some old
    → old ≢ life.Abandoned → new ≢ life.Abandoned
    → ((old ≡ life.Answered) ⊎ (old ≡ life.Spoiled) → (new ≡ life.Answered) ⊎ (new ≡ life.Spoiled))
    → StaysWanted state (with_life query new state.lives.queries)
wanted-written state query old new was wanted still taken = λ number. (
  life-written Wanted query old new state.lives.queries number was (λ h. still),
  life-written Told query old new state.lives.queries number was taken,
  lost-written query new state.lives.queries (λ is. wanted (same_Some old life.Abandoned (sym was ∙ is))) number,
)

-- the accepted queries are sound where what is kept for the one is what its new life says
pub queries-written : (state : State) (query : ℕ) (old new : Life) (slots : List SlotState) (filters : Filters) (version : ℕ)
    → life_in state.lives.queries query ≡ Some old
    → ((accepted : Accepted) (extent : ℕ) → accepted.number ≡ query
    → query_in state.lives.queries query ≡ Some (record { query = query; extent = extent; life = old })
    → LivesAs (tables_of state) state.seats state.scan accepted accepted (record { query = query; extent = extent; life = old })
    → IsKept (tables_of state) state.seats state.scan accepted extent new)
    → (IsTrue (is_open new) → IsTrue (is_open old))
    → AreSoundQueries state
    → AreSoundQueries (held_now state (with_life query new state.lives.queries) slots filters version)
queries-written state query old new slots filters version was kept stays sound =
    queries-held state (with_life query new state.lives.queries) slots filters state.scan (record state.numbers { version = version }) refl
    (with_life-numbers query new state.lives.queries)
    (λ accepted each.
    with_life-found (LivesAs (tables_of state) state.seats state.scan accepted accepted) query new state.lives.queries accepted.number
    (λ entry found same.
    let is : entry.life ≡ old = same-life state.lives.queries query accepted.number old entry was found same in
    let number : entry.query ≡ query = query_in-number state.lives.queries accepted.number entry found ∙ same in
    let so = lives-as state accepted each entry found in
    let opens : IsTrue (is_open old) → (position : ℕ) → IfSome (slice_get (tables_of state).versions position)
    (λ version. (version.begin ≤ accepted.snapshot) ↔ (position < entry.extent)) =
    (λ open_now. so.1 (subst (λ l. IsTrue (is_open l)) (sym is) open_now)) in (
      kept accepted entry.extent same
          (subst (λ n. query_in state.lives.queries n ≡ Some (record { query = query; extent = entry.extent; life = old })) same
          (found ∙ ap (λ l. Some (record { query = entry.query; extent = entry.extent; life = l })) is
          ∙ ap (λ n. Some (record { query = n; extent = entry.extent; life = old })) number))
          (subst (IsKept (tables_of state) state.seats state.scan accepted entry.extent) is so.0, opens, so.2),
      λ wanted. opens (stays wanted),
      so.2,
    ))
    (λ entry found apart. lives-as state accepted each entry found))
    sound
