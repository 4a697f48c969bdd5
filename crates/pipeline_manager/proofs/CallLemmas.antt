-- Each call keeps what holds of all lives and slots.
use Rattle.std.proofs.Common.{◌≡◌, ◌≢◌, ℕ, zero, suc, ◌<◌, ◌≤◌, ◌+◌, ◌^◌, ◌↔◌, ◌⊎◌, Bool, true, false, cond, eqb, eq-eqb, [], ◌∷◌, ◌++◌, length, get_or, set, replicate, Option, Some, None, option_map, refl, ap, sym, ◌∙◌, arith, subst, ⊎_elim}
use Rattle.std.specs.Option.{option_map_or}
use Rattle.std.proofs.lemmas.Bool.{eqb-true, eqb-false}
use Rattle.std.proofs.lemmas.Nat.Bits.{bit_at-zero}
use Rattle.std.proofs.lemmas.List.{length-set, length-replicate}
use Rattle.std.proofs.lemmas.List.Elements.{All-set, All-push, All-map, All-weaker, All-replicate, All-nil}
use Rattle.std.proofs.lemmas.List.Sums.{sum_by-cons}
use Rattle.std.proofs.lemmas.List.Quantifiers.{all_pairs_push}
use Rattle.bit_words.specs.Sets.{Has, with_number, without}
use Rattle.pipeline_manager.specs.declared.life.Life.TheVariants.{Waiting, Building, Spoiled, Abandoned}
use Rattle.pipeline_manager.specs.declared.life.SlotState.{SlotState}
use Rattle.pipeline_manager.specs.declared.life.SlotState.TheVariants.{Free, Held, Clearing}
use Rattle.pipeline_manager.specs.declared.life.QueryLife.{QueryLife}
use Rattle.pipeline_manager.specs.Lives.{Lives, query_in, life_in, extent_in, is_held_by, oldest_waiting}
use Rattle.pipeline_manager.specs.Changes.{with_life, started, covered, cut_query, with_dimension, without_dimension, after_submit, after_run, after_cut, after_spoil, after_abandon}
use Rattle.pipeline_manager.specs.Conditions.{IsNew}
use Rattle.pipeline_manager.specs.Sound.{FitsSlots, IsOfFilters, AreSoundLives, slots_held}
use Rattle.pipeline_manager.proofs.LifeLemmas.{query_in-map, query_in-push_same, query_in-push_other, life_in-same, life_in-other, oldest-waits}
use Rattle.star_values.proofs.RisingLemmas.{IsMissing}
use Rattle.pipeline_manager.proofs.QueryLemmas.{query_in-missing}
use Rattle.pipeline_manager.proofs.SoundLemmas.{IsLeftOf, rising-map, rising-with_life, fits-started, fits-cut_life, fits-one, left-started, left-cut_life, left-with_life, sound-with_life, slots_held-set}

-- `submit`
pub sound-after_submit : (query extent : ℕ) (lives : Lives) → IsNew query lives → AreSoundLives lives → AreSoundLives (after_submit query extent lives)
sound-after_submit query extent lives new sound = record {
  rising = all_pairs_push (λ entry later. entry.query < later.query) lives.queries added sound.rising new;
  some = sound.some;
  few = sound.few;
  held = λ other. by_number other (eqb other query) refl;
  left = All-push IsLeftOf lives.queries added sound.left tt;
  of_filters = sound.of_filters;
}
  where
    added : QueryLife
    added = record { query = query; extent = extent; life = Waiting }

    missing : IsMissing (λ (entry : QueryLife). entry.query) query lives.queries
    missing = λ k d within same. let below = new k d within in omega arith

    at_query : FitsSlots (life_in (lives.queries ++ added ∷ []) query) (slots_held query lives.slots)
    at_query =
        let before : life_in lives.queries query ≡ None = ap (option_map (λ e. e.life)) (query_in-missing lives.queries query missing) in
        let none : FitsSlots None (slots_held query lives.slots) =
        subst (λ o. FitsSlots o (slots_held query lives.slots)) before (sound.held query) in
        subst (λ o. FitsSlots (option_map (λ e. e.life) o) (slots_held query lives.slots))
        (sym (query_in-push_same lives.queries added missing)) (omega arith, omega arith)

    by_number : (other : ℕ) (same : Bool) → same ≡ eqb other query
        → FitsSlots (life_in (lives.queries ++ added ∷ []) other) (slots_held other lives.slots)
    by_number other true e =
        subst (λ k. FitsSlots (life_in (lives.queries ++ added ∷ []) k) (slots_held k lives.slots))
        (sym (eqb-true other query (sym e))) at_query
    by_number other false e =
        subst (λ o. FitsSlots (option_map (λ e. e.life) o) (slots_held other lives.slots))
        (sym (query_in-push_other lives.queries added other (eqb-false other query (sym e)))) (sound.held other)

-- `reserve`
pub sound-reserved : (slot query : ℕ) (lives : Lives) → slot < length lives.slots → get_or lives.slots slot Free ≡ Free
    → oldest_waiting lives ≡ Some query → AreSoundLives lives
    → AreSoundLives (record lives {
      queries = with_life query Building lives.queries;
      slots = set lives.slots slot (Held query 0);
    })
sound-reserved slot query lives within is_free oldest sound =
    let many : length (set lives.slots slot (Held query 0)) ≡ length lives.slots = length-set lives.slots slot (Held query 0) in
    let some = sound.some in
    let few = sound.few in
    record {
      rising = rising-with_life query Building lives.queries sound.rising;
      some = omega arith;
      few = omega arith;
      held = λ other. by_number other (eqb query other) refl;
      left = left-with_life lives.queries query Building sound.rising (λ entry found. tt) sound.left;
      of_filters = All-set (IsOfFilters lives.filters) lives.slots slot (Held query 0)
          (λ dimension has. let none = bit_at-zero dimension in absurd (omega arith)) sound.of_filters;
    }
  where
    waits : life_in lives.queries query ≡ Some Waiting
    waits = oldest-waits lives.queries query sound.rising oldest

    count : (other : ℕ) → slots_held other (set lives.slots slot (Held query 0)) + 0
        ≡ slots_held other lives.slots + cond {A = ℕ} (eqb query other) 1 0
    count other = rw is_free at (slots_held-set other lives.slots slot (Held query 0) within)

    at_query : FitsSlots (life_in (with_life query Building lives.queries) query) (slots_held query (set lives.slots slot (Held query 0)))
    at_query =
        let before : FitsSlots (Some Waiting) (slots_held query lives.slots) =
        subst (λ o. FitsSlots o (slots_held query lives.slots)) waits (sound.held query) in
        let counted = rw (eq-eqb query query refl) at (count query) in
        subst (λ o. FitsSlots o (slots_held query (set lives.slots slot (Held query 0))))
        (sym (life_in-same lives.queries query Building ∙ ap (option_map (λ o. Building)) waits)) (omega arith, omega arith)

    by_number : (other : ℕ) (same : Bool) → same ≡ eqb query other
        → FitsSlots (life_in (with_life query Building lives.queries) other) (slots_held other (set lives.slots slot (Held query 0)))
    by_number other true e =
        subst (λ k. FitsSlots (life_in (with_life query Building lives.queries) k) (slots_held k (set lives.slots slot (Held query 0))))
        (eqb-true query other (sym e)) at_query
    by_number other false e =
        let counted = rw (sym e) at (count other) in
        let equal : slots_held other lives.slots ≡ slots_held other (set lives.slots slot (Held query 0)) = omega arith in
        subst (λ o. FitsSlots o (slots_held other (set lives.slots slot (Held query 0))))
        (sym (life_in-other lives.queries query other Building (λ same. eqb-false query other (sym e) (sym same))))
        (subst (FitsSlots (life_in lives.queries other)) equal (sound.held other))

-- what the law of sets says of a number that is put in
abbrev pub PutIn : Type 0
PutIn = (set i j : ℕ) → Has (with_number set i) j ↔ ((Has set j) ⊎ (j ≡ i))

-- and of one that is taken out
abbrev pub TakenOut : Type 0
TakenOut = (set i j : ℕ) → Has (without set (2 ^ i)) j ↔ (Has set j × (j ≢ i))

-- `built`: the holder stays, and the bit is that of a filter
pub holder-with_dimension : (dimension : ℕ) (state : SlotState) (query : ℕ)
    → is_held_by query (with_dimension dimension state) ≡ is_held_by query state
holder-with_dimension dimension Free query = refl
holder-with_dimension dimension (Held holder built) query = refl
holder-with_dimension dimension (Clearing left) query = refl

pub filters-with_dimension : PutIn → (filters dimension : ℕ) (state : SlotState) → Has filters dimension
    → IsOfFilters filters state → IsOfFilters filters (with_dimension dimension state)
filters-with_dimension put_in filters dimension Free is_filter kept = tt
filters-with_dimension put_in filters dimension (Held query built) is_filter kept = λ other has.
    ⊎_elim (kept other) (λ same. subst (Has filters) (sym same) is_filter) ((put_in built dimension other).0 has)
filters-with_dimension put_in filters dimension (Clearing left) is_filter kept = kept

-- `cleared`: the holder stays, and no bit comes
pub holder-without_dimension : (dimension : ℕ) (state : SlotState) (query : ℕ)
    → is_held_by query (without_dimension dimension state) ≡ is_held_by query state
holder-without_dimension dimension Free query = refl
holder-without_dimension dimension (Held holder built) query = refl
holder-without_dimension dimension (Clearing left) query = refl

pub filters-without_dimension : TakenOut → (filters dimension : ℕ) (state : SlotState) → IsOfFilters filters state
    → IsOfFilters filters (without_dimension dimension state)
filters-without_dimension taken_out filters dimension Free kept = tt
filters-without_dimension taken_out filters dimension (Held query built) kept = kept
filters-without_dimension taken_out filters dimension (Clearing left) kept = λ other has.
    kept other ((taken_out left dimension other).0 has).0

-- `run`
pub sound-after_run : (query start : ℕ) (lives : Lives) → life_in lives.queries query ≡ Some Building → AreSoundLives lives
    → AreSoundLives (after_run query start lives)
sound-after_run query start lives building sound =
    sound-with_life query (started start (extent_in lives.queries query)) lives
    (λ old held e fits.
    let same : Some old ≡ Some Building = sym e ∙ building in
    let one : FitsSlots (Some Building) held = subst (λ o. FitsSlots o held) same fits in
    fits-started start (extent_in lives.queries query) held (omega arith))
    (λ entry found.
    let extent : extent_in lives.queries query ≡ entry.extent = ap (λ o. option_map_or (λ e. e.extent) o 0) found in
    left-started start (extent_in lives.queries query) entry.extent (omega arith))
    sound

-- `cut`
pub sound-after_cut : (first last : ℕ) (lives : Lives) → AreSoundLives lives → AreSoundLives (after_cut first last lives)
sound-after_cut first last lives sound = record {
  rising = rising-map (cut_query first last) lives.queries (λ entry. refl) sound.rising;
  some = sound.some;
  few = sound.few;
  held = λ query.
      subst (λ o. FitsSlots (option_map (λ e. e.life) o) (slots_held query lives.slots))
      (sym (query_in-map (cut_query first last) (λ entry. refl) lives.queries query))
      (by_query (query_in lives.queries query) (slots_held query lives.slots) (sound.held query));
  left = All-map IsLeftOf (cut_query first last) lives.queries
      (All-weaker IsLeftOf (λ entry. IsLeftOf (cut_query first last entry))
      (λ entry kept. left-cut_life (covered first last entry.extent) entry.extent entry.life kept) lives.queries sound.left);
  of_filters = sound.of_filters;
}
  where
    by_query : (entry : Option QueryLife) (held : ℕ) → FitsSlots (option_map (λ e. e.life) entry) held
        → FitsSlots (option_map (λ e. e.life) (option_map (cut_query first last) entry)) held
    by_query None held fits = fits
    by_query (Some entry) held fits = fits-cut_life (covered first last entry.extent) entry.life held fits

-- `spoil` and `abandon`
pub sound-after_spoil : (query : ℕ) (lives : Lives) → AreSoundLives lives → AreSoundLives (after_spoil query lives)
sound-after_spoil query lives sound =
    sound-with_life query Spoiled lives
    (λ old held e fits. let one = fits-one (Some old) held fits in (omega arith, omega arith)) (λ entry found. tt) sound

pub sound-after_abandon : (query : ℕ) (lives : Lives) → AreSoundLives lives → AreSoundLives (after_abandon query lives)
sound-after_abandon query lives sound =
    sound-with_life query Abandoned lives
    (λ old held e fits. let one = fits-one (Some old) held fits in (omega arith, omega arith)) (λ entry found. tt) sound
