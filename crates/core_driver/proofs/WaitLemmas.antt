-- The query that waits the longest stays the one, while others are admitted.
use Rattle.core_driver.proofs.Words.{◌<◌, ◌∙◌, ◌∷◌, ◌≡◌, [], after_built, after_reserve, All, All-head, All-tail, ap, AreRising, Bool, cases_eq, cond, eqb, eqb-true, false, find, Free, get_or, Held, is_waiting, length, length-set, Life, life_in, life_in-same, life_of, List, Lives, None, oldest-waits, oldest_waiting, Option, option_map, option_map_or, query_in-found, QueryLife, refl, set, slot_at, slot_of, Some, started, subst, sym, true, with_dimension, with_life, with_slot, ℕ, ⊎_elim}
use Rattle.std.proofs.lemmas.List.{get_or-set_other, get_or-set_same}
use Rattle.pipeline_manager.specs.Sound.{AreSoundLives}
use Rattle.pipeline_manager.specs.declared.life.Life.TheVariants as life

-- what is found first of the queries that wait
abbrev oldest_in : List QueryLife → Option ℕ
oldest_in queries = option_map (λ entry. entry.query) (find (λ entry. is_waiting entry.life) queries)

-- the query with this number does not wait
abbrev Rests : (query : ℕ) → QueryLife → Type 0
Rests query entry = entry.query ≡ query → is_waiting entry.life ≡ false

-- a life of a query that does not wait is written over by one that does not
oldest-stays : (query : ℕ) (new : Life) (queries : List QueryLife) → All (Rests query) queries → is_waiting new ≡ false
    → oldest_in (with_life query new queries) ≡ oldest_in queries
oldest-stays query new [] rest calm = refl
oldest-stays query new (entry ∷ queries) rest calm =
    by_test (eqb entry.query query) refl (oldest-stays query new queries (All-tail (Rests query) entry queries rest) calm)
  where
    behind : List QueryLife
    behind = with_life query new queries

    Oldest : Bool → QueryLife → List QueryLife → Option ℕ
    Oldest t e others = option_map (λ (q : QueryLife). q.query) (cond {A = Option QueryLife} t (Some e) (find (λ (q : QueryLife). is_waiting q.life) others))

    by_wait : (t : Bool) → oldest_in behind ≡ oldest_in queries → Oldest t entry behind ≡ Oldest t entry queries
    by_wait true same = refl
    by_wait false same = same

    by_test : (t : Bool) → eqb entry.query query ≡ t → oldest_in behind ≡ oldest_in queries
        → oldest_in (cond {A = QueryLife} t (record entry { life = new }) entry ∷ behind) ≡ oldest_in (entry ∷ queries)
    by_test true at same =
        ap (λ t. Oldest t (record entry { life = new }) behind) calm
        ∙ same
        ∙ ap (λ t. Oldest t entry queries) (sym (All-head (Rests query) entry queries rest (eqb-true entry.query query at)))
    by_test false at same = by_wait (is_waiting entry.life) same

-- a query that has a life does not wait where that life does not
rests : (query : ℕ) (old : Life) (queries : List QueryLife) → AreRising queries → life_in queries query ≡ Some old → is_waiting old ≡ false
    → All (Rests query) queries
rests query old queries rising was calm = λ place d low same.
    let entry : QueryLife = get_or queries place d in
    let found : life_in queries query ≡ Some entry.life =
    ap (option_map (λ (e : QueryLife). e.life)) (query_in-found queries place query d rising low same) in
    let both : Some entry.life ≡ Some old = sym found ∙ was in
    let is : entry.life ≡ old = cc in
    ap is_waiting is ∙ calm

-- the query waits the longest, and there is a slot for it
pub record IsNext (query : ℕ) (lives : Lives) : Type 0 where
  pub oldest : oldest_waiting lives ≡ Some query
  pub slot : ℕ
  pub there : slot < length lives.slots
  pub is_free : slot_at lives slot ≡ Free

-- `built` for another
pub next-built : (query other dimension : ℕ) (lives : Lives) → IsNext query lives → IsNext query (after_built other dimension lives)
next-built query other dimension lives next = by_slot (slot_of lives other)
  where
    by_slot : (o : Option ℕ)
        → IsNext query (option_map_or (λ slot. with_slot slot (with_dimension dimension (slot_at lives slot)) lives) o lives)
    by_slot None = next
    by_slot (Some slot) = record {
      oldest = next.oldest;
      slot = next.slot;
      there = subst (λ n. next.slot < n) (sym (length-set lives.slots slot (with_dimension dimension (slot_at lives slot)))) next.there;
      is_free = ⊎_elim
          (λ same. subst (λ at. get_or (set lives.slots at (with_dimension dimension (slot_at lives at))) next.slot Free ≡ Free) same
          (get_or-set_same lives.slots next.slot (with_dimension dimension (slot_at lives next.slot)) Free next.there
          ∙ ap (with_dimension dimension) next.is_free))
          (λ apart. get_or-set_other lives.slots slot next.slot (with_dimension dimension (slot_at lives slot)) Free apart ∙ next.is_free)
          (cases_eq next.slot slot);
    }

-- another life of one that is built for
pub next-written : (query other : ℕ) (new : Life) (lives : Lives) → AreSoundLives lives → life_of lives other ≡ Some life.Building
    → is_waiting new ≡ false → IsNext query lives → IsNext query (record lives { queries = with_life other new lives.queries })
next-written query other new lives sound was calm next = record {
  oldest = oldest-stays other new lives.queries (rests other life.Building lives.queries sound.rising was refl) calm ∙ next.oldest;
  slot = next.slot;
  there = next.there;
  is_free = next.is_free;
}

-- a query that begins to run does not wait
pub started-rests : (start extent : ℕ) → is_waiting (started start extent) ≡ false
started-rests start extent = by_test (eqb extent 0)
  where
    by_test : (t : Bool) → is_waiting (cond {A = Life} t life.Ending (life.Running start extent)) ≡ false
    by_test true = refl
    by_test false = refl

-- `reserve`: it waits no longer
pub next-reserved : (query slot : ℕ) (lives : Lives) → AreSoundLives lives → oldest_waiting lives ≡ Some query
    → life_of (after_reserve slot lives) query ≡ Some life.Building
next-reserved query slot lives sound oldest =
    ap (λ o. life_of (option_map_or (λ number. record lives { queries = with_life number life.Building lives.queries; slots = set lives.slots slot (Held number 0) }) o lives) query) oldest
    ∙ life_in-same lives.queries query life.Building
    ∙ ap (option_map (λ before. life.Building)) (oldest-waits lives.queries query sound.rising oldest)
