-- Each query keeps its number and its extent, and a life that is over stays so, whatever becomes of the others.
use Rattle.core_state.proofs.Words.{◌++◌, ◌<◌, ◌∙◌, ◌∷◌, ◌≡◌, [], after_abandon, after_end, after_spoil, All, All-head, All-tail, All-weaker, ap, arith, Bool, CanAbandon, cases_eq, cond, cut_life, cut_query, eqb, false, find, fold, get_or, get_or-map, is_open, length, length-map, Life, life_in, life_in-other, life_in-same, List, Lives, map, None, oldest-waits, Option, option_map, option_map_or, query_in, QueryLife, refl, renewed, slot_at, slot_of, Some, subst, sym, true, with_dimension, with_life, with_slot, ℕ, ⊎_elim}
use Rattle.std.proofs.lemmas.List.Folds.{find-append}
use Rattle.std.specs.Option.{option_or}
use Rattle.pipeline_manager.specs.Changes.{after_built, after_reserve}
use Rattle.pipeline_manager.specs.Sound.{AreRising}
use Rattle.pipeline_manager.specs.declared.life.Life.TheVariants as life
use Rattle.core_state.proofs.SaysLemmas.{ended-cases, reserved-cases, says-cut, says-written}

-- the number and the extent of a query
abbrev pub named : QueryLife → ℕ × ℕ
named entry = (entry.query, entry.extent)

-- a life that is over stays so: an answered query answered, one without an answer so, and an abandoned one abandoned
abbrev pub StaysOver : List QueryLife → List QueryLife → Type 0
StaysOver old new = (query : ℕ) (now : Life) → is_open now ≡ false → life_in old query ≡ Some now → life_in new query ≡ Some now

-- the queries are those that were, and a life that is over stays so
pub record LivesOn (old new : List QueryLife) : Type 0 where
  pub same : map named new ≡ map named old
  pub over : StaysOver old new

pub lives-same : (queries : List QueryLife) → LivesOn queries queries
lives-same queries = record { same = refl; over = λ query now over was. was }

-- one change behind another
pub lives-then : (old middle new : List QueryLife) → LivesOn old middle → LivesOn middle new → LivesOn old new
lives-then old middle new first second = record {
  same = second.same ∙ first.same;
  over = λ query now over was. second.over query now over (first.over query now over was);
}

-- the numbers rise as before
pub rising-named : (old new : List QueryLife) → map named new ≡ map named old → AreRising old → AreRising new
rising-named old new same rising = λ j k d low within.
    let many : length new ≡ length old = sym (length-map new named) ∙ ap length same ∙ length-map old named in
    let number : (i : ℕ) → i < length new → (get_or new i d).query ≡ (get_or old i d).query = λ i here.
    ap (λ (n : ℕ × ℕ). n.0) (sym (get_or-map named new i d (named d) here) ∙ ap (λ names. get_or names i (named d)) same
    ∙ get_or-map named old i d (named d) (omega arith)) in
    let lower = number j (omega arith) in
    let upper = number k within in
    let before = rising j k d low (omega arith) in
    omega arith

-- a change that leaves the number and the extent of each query
named-map : (change : QueryLife → QueryLife) → ((entry : QueryLife) → named (change entry) ≡ named entry) → (queries : List QueryLife)
    → map named (map change queries) ≡ map named queries
named-map change same [] = refl
named-map change same (entry ∷ queries) =
    ap (λ name. name ∷ map named (map change queries)) (same entry) ∙ ap (λ names. named entry ∷ names) (named-map change same queries)

named-written : (query : ℕ) (new : Life) (entry : QueryLife) → named (renewed query new entry) ≡ named entry
named-written query new entry = by_test (eqb entry.query query)
  where
    by_test : (t : Bool) → named (cond {A = QueryLife} t (record entry { life = new }) entry) ≡ named entry
    by_test true = refl
    by_test false = refl

-- a life that is found is this one, if it is over
abbrev pub IsOpenOr : Life → Option Life → Type 0
IsOpenOr new found = (now : Life) → is_open now ≡ false → found ≡ Some now → now ≡ new

-- as where it is one that is open
pub open-so : (found : Option Life) (one new : Life) → found ≡ Some one → is_open one ≡ true → IsOpenOr new found
open-so found one new is may now over was =
    let both : Some one ≡ Some now = sym is ∙ was in
    let same : one ≡ now = cc in
    absurd (let never : true ≡ false = sym may ∙ ap is_open same ∙ over in cc)

-- or where a test says so that only open lives pass
pub open-by : (test : Life → Bool) → ((now : Life) → test now ≡ true → is_open now ≡ true) → (found : Option Life) (new : Life)
    → option_map_or test found false ≡ true → IsOpenOr new found
open-by test opens found new says now over was =
    let passes : test now ≡ true = sym (ap (λ l. option_map_or test l false) was) ∙ says in
    absurd (let never : true ≡ false = sym (opens now passes) ∙ over in cc)

-- another life is written of a query whose life is not over
pub lives-written : (query : ℕ) (new : Life) (queries : List QueryLife) → IsOpenOr new (life_in queries query)
    → LivesOn queries (with_life query new queries)
lives-written query new queries may = record {
  same = named-map (renewed query new) (named-written query new) queries;
  over = λ number now over. says-written (λ o. o ≡ Some now) query new queries number
      (λ old is was. ap Some (sym (may now over (is ∙ was))));
}

-- a query behind all others
pub over-behind : (queries : List QueryLife) (entry : QueryLife) → StaysOver queries (queries ++ entry ∷ [])
over-behind queries entry query now over was =
    ap (option_map (λ e. e.life)) (find-append (λ (e : QueryLife). eqb e.query query) queries (entry ∷ [])) ∙ by_found (query_in queries query) was
  where
    by_found : (o : Option QueryLife) → option_map (λ e. e.life) o ≡ Some now
        → option_map (λ e. e.life) (option_or o (find (λ (e : QueryLife). eqb e.query query) (entry ∷ []))) ≡ Some now
    by_found None is = absurd (let both : None ≡ Some now = is in cc)
    by_found (Some e) is = is

-- a cut
pub lives-cut : (first last : ℕ) (queries : List QueryLife) → LivesOn queries (map (cut_query first last) queries)
lives-cut first last queries = record {
  same = named-map (cut_query first last) (λ entry. refl) queries;
  over = λ query now over. says-cut (λ o. o ≡ Some now) first last queries query
      (λ positions one was. let same : one ≡ now = cc in
      ap (λ l. Some (cut_life positions l)) same ∙ ap Some (cut-over positions now over));
}
  where
    cut-over : (positions : ℕ) (now : Life) → is_open now ≡ false → cut_life positions now ≡ now
    cut-over positions (life.Running start left) over = absurd (let both : true ≡ false = over in cc)
    cut-over positions other over = refl

-- a slot that is taken from its query
pub lives-ended : (slot : ℕ) (lives : Lives) → LivesOn lives.queries (after_end slot lives).queries
lives-ended slot lives =
    ended-cases (LivesOn lives.queries) slot lives (lives-same lives.queries)
    (λ query ends. lives-written query life.Answered lives.queries (open-so (life_in lives.queries query) life.Ending life.Answered ends refl))

-- who may find no memory still may where another finds none
spoiled-open : (query number : ℕ) (queries : List QueryLife) → IsOpenOr life.Spoiled (life_in queries number)
    → IsOpenOr life.Spoiled (life_in (with_life query life.Spoiled queries) number)
spoiled-open query number queries may now over is = ⊎_elim
    (λ same. by_life (life_in queries query) (sym (life_in-same queries query life.Spoiled)
    ∙ subst (λ n. life_in (with_life query life.Spoiled queries) n ≡ Some now) same is))
    (λ apart. may now over (sym (life_in-other queries query number life.Spoiled apart) ∙ is))
    (cases_eq number query)
  where
    by_life : (o : Option Life) → option_map (λ before. life.Spoiled) o ≡ Some now → now ≡ life.Spoiled
    by_life None e = absurd (let both : None ≡ Some now = e in cc)
    by_life (Some old) e = let both : Some life.Spoiled ≡ Some now = e in let same : life.Spoiled ≡ now = cc in sym same

-- queries that find no memory
pub lives-spoiled : (spoiled : List ℕ) (lives : Lives) → All (λ query. IsOpenOr life.Spoiled (life_in lives.queries query)) spoiled
    → LivesOn lives.queries (fold (λ now query. after_spoil query now) lives spoiled).queries
lives-spoiled [] lives may = lives-same lives.queries
lives-spoiled (query ∷ spoiled) lives may =
    lives-then lives.queries (with_life query life.Spoiled lives.queries) (fold (λ now q. after_spoil q now) (after_spoil query lives) spoiled).queries
    (lives-written query life.Spoiled lives.queries (All-head (May lives.queries) query spoiled may))
    (lives-spoiled spoiled (after_spoil query lives)
    (All-weaker (May lives.queries) (May (with_life query life.Spoiled lives.queries)) (λ q before. spoiled-open query q lives.queries before)
    spoiled (All-tail (May lives.queries) query spoiled may)))
  where
    May : List QueryLife → ℕ → Type 0
    May queries q = IsOpenOr life.Spoiled (life_in queries q)

-- they keep their slots
pub slots-spoiled : (spoiled : List ℕ) (lives : Lives) → (fold (λ now query. after_spoil query now) lives spoiled).slots ≡ lives.slots
slots-spoiled [] lives = refl
slots-spoiled (query ∷ spoiled) lives = slots-spoiled spoiled (after_spoil query lives)

-- the query that waits the longest gets a slot
pub lives-reserved : (slot : ℕ) (lives : Lives) → AreRising lives.queries → LivesOn lives.queries (after_reserve slot lives).queries
lives-reserved slot lives rising =
    reserved-cases (LivesOn lives.queries) slot lives (lives-same lives.queries)
    (λ query oldest. lives-written query life.Building lives.queries
    (open-so (life_in lives.queries query) life.Waiting life.Building (oldest-waits lives.queries query rising oldest) refl))

-- a query that is abandoned
pub lives-abandoned : (query : ℕ) (lives : Lives) → CanAbandon query lives → LivesOn lives.queries (after_abandon query lives).queries
lives-abandoned query lives can =
    lives-written query life.Abandoned lives.queries (open-by is_open (λ now may. may) (life_in lives.queries query) life.Abandoned can)

-- a dimension that is built leaves the lives
pub built-queries : (query dimension : ℕ) (lives : Lives) → (after_built query dimension lives).queries ≡ lives.queries
built-queries query dimension lives = by_slot (slot_of lives query)
  where
    by_slot : (o : Option ℕ)
        → (option_map_or (λ slot. with_slot slot (with_dimension dimension (slot_at lives slot)) lives) o lives).queries ≡ lives.queries
    by_slot None = refl
    by_slot (Some slot) = refl

-- who was abandoned is so
abbrev pub StayLost : List QueryLife → List QueryLife → Type 0
StayLost old new = (number : ℕ) → life_in old number ≡ Some life.Abandoned → life_in new number ≡ Some life.Abandoned

pub stay-lost : (old new : List QueryLife) → StaysOver old new → StayLost old new
stay-lost old new stays number was = stays number life.Abandoned refl was

-- a query that is abandoned
pub lost-now : (query : ℕ) (old : Life) (queries : List QueryLife) → life_in queries query ≡ Some old
    → life_in (with_life query life.Abandoned queries) query ≡ Some life.Abandoned
lost-now query old queries was = life_in-same queries query life.Abandoned ∙ ap (option_map (λ before. life.Abandoned)) was

-- who was abandoned stays so where a life is written of a query that was not, or of one that is abandoned now
pub lost-written : (query : ℕ) (new : Life) (queries : List QueryLife) → (life_in queries query ≡ Some life.Abandoned → ⊥)
    → StayLost queries (with_life query new queries)
lost-written query new queries never number =
    says-written (λ o. o ≡ Some life.Abandoned) query new queries number (λ old is was. absurd (never (is ∙ was)))

pub lost-more : (query : ℕ) (queries : List QueryLife) → StayLost queries (with_life query life.Abandoned queries)
lost-more query queries number =
    says-written (λ o. o ≡ Some life.Abandoned) query life.Abandoned queries number (λ old is was. refl)
