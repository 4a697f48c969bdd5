-- An admission leaves the table and the scan; a query that begins to run begins where the scan stands, and there stays a slot
-- for each query that waits.
use Rattle.core_driver.proofs.Words.{◌+◌, ◌<◌, ◌∙◌, ◌≡◌, ◌≤◌, after_built, after_reserve, All, All-map, All-weaker, ap, arith, BeganAt, Bool, Build, Clearing, cond, count_by, Distribute, eq-eqb, eqb, Event, extent_in, false, find, first_in, Free, get_or, HasSlotsForAll, Held, inl, is_free, is_held_by, is_waiting, IsEnabled, IsOfAdmission, length, length-set, Life, List, Lives, lives_by, None, not, oldest_waiting, Option, option_map, option_map_or, position-Some, QueryLife, refl, renewed, Reserve, set, slot_at, slot_of, SlotState, Some, Spoils, Start, started, State, subst, sum_by-set, sym, Took, true, with_dimension, with_life, with_slot, ℕ, ⊎_elim}
use Rattle.pipeline_manager.specs.declared.life.Life.TheVariants as life
use Rattle.core_driver.proofs.LapCountLemmas.{count-map-le, count-map-less, one_if}
use Rattle.core_driver.proofs.TakenLemmas.{LeavesBatches, still-admission, still-leaves, taken-lives}
use Rattle.core_driver.proofs.WaitLemmas.{started-rests}

-- where the laps of all queries that run began
abbrev pub AllBegan : (start : ℕ) → State → Type 0
AllBegan start state = All (λ entry. BeganAt start entry.life) state.lives.queries

-- what an admission leaves
pub record Admitted (old new : State) : Type 0 where
  pub entries : new.entries ≡ old.entries
  pub scan : new.scan ≡ old.scan
  pub began : AllBegan (first_in old) old → AllBegan (first_in old) new
  pub slots : HasSlotsForAll old → HasSlotsForAll new

-- how many queries wait
abbrev waiting : List QueryLife → ℕ
waiting queries = count_by (λ entry. is_waiting entry.life) queries

-- how many slots are not free
abbrev used : List SlotState → ℕ
used slots = count_by (λ slot. not (is_free slot)) slots

-- there is a slot for each query that waits
abbrev HasRoom : Lives → Type 0
HasRoom lives = waiting lives.queries + used lives.slots ≤ length lives.slots

-- what an admission leaves of the lives and slots
record AdmitsLives (start : ℕ) (old new : Lives) : Type 0 where
  began : All (λ entry. BeganAt start entry.life) old.queries → All (λ entry. BeganAt start entry.life) new.queries
  room : HasRoom old → HasRoom new

-- a life that began nowhere else is written
began-written : (start query : ℕ) (new : Life) (queries : List QueryLife) → BeganAt start new
    → All (λ entry. BeganAt start entry.life) queries → All (λ entry. BeganAt start entry.life) (with_life query new queries)
began-written start query new queries written all =
    All-map (λ entry. BeganAt start entry.life) (renewed query new) queries
    (All-weaker (λ entry. BeganAt start entry.life) (λ entry. BeganAt start (renewed query new entry).life)
    (λ entry before. by_test entry (eqb entry.query query) before) queries all)
  where
    by_test : (entry : QueryLife) (t : Bool) → BeganAt start entry.life
        → BeganAt start (cond {A = QueryLife} t (record entry { life = new }) entry).life
    by_test entry true before = written
    by_test entry false before = before

-- a query that begins at a position began there
started-began : (start extent : ℕ) → BeganAt start (started start extent)
started-began start extent = by_test (eqb extent 0)
  where
    by_test : (t : Bool) → BeganAt start (cond {A = Life} t life.Ending (life.Running start extent))
    by_test true = tt
    by_test false = refl

-- who waits after a life is written that does not wait, waited
waits-before : (query : ℕ) (new : Life) → is_waiting new ≡ false → (entry : QueryLife) → is_waiting (renewed query new entry).life ≡ true
    → is_waiting entry.life ≡ true
waits-before query new none entry = by_test (eqb entry.query query)
  where
    by_test : (t : Bool) → is_waiting (cond {A = QueryLife} t (record entry { life = new }) entry).life ≡ true → is_waiting entry.life ≡ true
    by_test true waits = absurd (let both : false ≡ true = sym none ∙ waits in cc)
    by_test false waits = waits

-- no more queries wait after such a life is written
waiting-written : (query : ℕ) (new : Life) (queries : List QueryLife) → is_waiting new ≡ false → waiting (with_life query new queries) ≤ waiting queries
waiting-written query new queries none =
    count-map-le (λ entry. is_waiting entry.life) (renewed query new) (waits-before query new none) queries

-- the query that waits the longest does not wait any more
waiting-less : (query : ℕ) (new : Life) (queries : List QueryLife) → is_waiting new ≡ false
    → option_map (λ entry. entry.query) (find (λ entry. is_waiting entry.life) queries) ≡ Some query
    → waiting (with_life query new queries) + 1 ≤ waiting queries
waiting-less query new queries none oldest = by_found (find (λ entry. is_waiting entry.life) queries) refl oldest
  where
    by_found : (o : Option QueryLife) → find (λ entry. is_waiting entry.life) queries ≡ o → option_map (λ entry. entry.query) o ≡ Some query
        → waiting (with_life query new queries) + 1 ≤ waiting queries
    by_found None found is = cc
    by_found (Some first) found is =
        let same : first.query ≡ query = cc in
        count-map-less (λ entry. is_waiting entry.life) (renewed query new) (waits-before query new none) queries first found
        (ap (λ t. is_waiting (cond {A = QueryLife} t (record first { life = new }) first).life) (eq-eqb first.query query same) ∙ none)

-- how many slots are used after one is written
used-set : (slots : List SlotState) (slot : ℕ) (new : SlotState) → slot < length slots
    → used (set slots slot new) + one_if (not (is_free (get_or slots slot Free))) ≡ used slots + one_if (not (is_free new))
used-set slots slot new low = sum_by-set (λ s. cond {A = ℕ} (not (is_free s)) 1 0) slots slot new Free low

-- a query that waits gets a slot that is free
reserved-lives : (start query slot : ℕ) (lives : Lives) → oldest_waiting lives ≡ Some query → slot < length lives.slots
    → slot_at lives slot ≡ Free → AdmitsLives start lives (after_reserve slot lives)
reserved-lives start query slot lives oldest there free =
    subst (λ o. AdmitsLives start lives (option_map_or reserved o lives)) (sym oldest) (record {
      began = began-written start query life.Building lives.queries tt;
      room = λ before.
          let less = waiting-less query life.Building lives.queries refl oldest in
          let more = used-set lives.slots slot (Held query 0) there in
          let was : one_if (not (is_free (get_or lives.slots slot Free))) ≡ 0 = ap (λ s. one_if (not (is_free s))) free in
          let many : length (set lives.slots slot (Held query 0)) ≡ length lives.slots = length-set lives.slots slot (Held query 0) in
          omega arith;
    })
  where
    reserved : ℕ → Lives
    reserved number =
        record lives { queries = with_life number life.Building lives.queries; slots = set lives.slots slot (Held number 0) }

-- a slot with one dimension more is free as it was
dimension-free : (dimension : ℕ) (slot : SlotState) → is_free (with_dimension dimension slot) ≡ is_free slot
dimension-free dimension Free = refl
dimension-free dimension (Held query built) = refl
dimension-free dimension (Clearing left) = refl

-- a dimension more is built for a query
built-lives : (start query dimension : ℕ) (lives : Lives) → AdmitsLives start lives (after_built query dimension lives)
built-lives start query dimension lives = by_slot (slot_of lives query) refl
  where
    by_slot : (o : Option ℕ) → slot_of lives query ≡ o
        → AdmitsLives start lives (option_map_or (λ slot. with_slot slot (with_dimension dimension (slot_at lives slot)) lives) o lives)
    by_slot None is = record { began = λ before. before; room = λ before. before }
    by_slot (Some slot) is = record {
      began = λ before. before;
      room = λ before.
          let new : SlotState = with_dimension dimension (slot_at lives slot) in
          let low : slot < length lives.slots = (position-Some (is_held_by query) lives.slots slot Free is).0 in
          let more = used-set lives.slots slot new low in
          let same : one_if (not (is_free new)) ≡ one_if (not (is_free (slot_at lives slot))) =
          ap (λ t. one_if (not t)) (dimension-free dimension (slot_at lives slot)) in
          let many : length (set lives.slots slot new) ≡ length lives.slots = length-set lives.slots slot new in
          omega arith;
    }

-- a life is written that does not wait, and began nowhere else
written-lives : (start query : ℕ) (new : Life) (lives : Lives) → BeganAt start new → is_waiting new ≡ false
    → AdmitsLives start lives (record lives { queries = with_life query new lives.queries })
written-lives start query new lives began rests = record {
  began = began-written start query new lives.queries began;
  room = λ before. let less = waiting-written query new lives.queries rests in omega arith;
}

-- the event was done
lives-done : (event : Event) (state : State) → IsOfAdmission event → IsEnabled state event
    → AdmitsLives (first_in state) state.lives (lives_by event state)
lives-done (Reserve query slot) state one enabled =
    reserved-lives (first_in state) query slot state.lives enabled.oldest enabled.there enabled.is_free
lives-done (Build query dimension) state one enabled = built-lives (first_in state) query dimension state.lives
lives-done (Start query) state one enabled =
    let extent : ℕ = extent_in state.lives.queries query in
    written-lives (first_in state) query (started (first_in state) extent) state.lives (started-began (first_in state) extent)
    (started-rests (first_in state) extent)
lives-done event state one enabled = absurd one

-- the query that is built found no memory at it
lives-spoilt : (event : Event) (start : ℕ) (old new : Lives) → IsOfAdmission event → Spoils event old new → AdmitsLives start old new
lives-spoilt (Build query dimension) start old new one spoils =
    subst (AdmitsLives start old) (sym spoils) (written-lives start query life.Spoiled old tt refl)
lives-spoilt (Distribute batch) start old new one spoils = absurd one
lives-spoilt event start old new one spoils = absurd spoils

-- what an admission that was taken leaves
pub admitted : (event : Event) (old new : State) → IsOfAdmission event → Took event old new → Admitted old new
admitted event old new one took =
    let left : LeavesBatches old new = still-leaves event old new (still-admission event one) took in
    let lives : AdmitsLives (first_in old) old.lives new.lives = ⊎_elim
    (λ done. subst (AdmitsLives (first_in old) old.lives) (sym done) (lives-done event old one took.enabled))
    (lives-spoilt event (first_in old) old.lives new.lives one)
    (taken-lives event old new (inl one) took) in
    record { entries = left.entries; scan = left.scan; began = lives.began; slots = lives.room }
