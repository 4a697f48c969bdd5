-- Accepted queries that were let go or handed on: the former are over, the latter have begun, and both stay so at every event.
use Rattle.event_core.proofs.Words.{◌++◌, ◌∙◌, ◌∷◌, ◌≡◌, ◌≢◌, ◌-◌, [], after_abandon, after_cut, after_end, after_reserve, after_run, after_spoil, after_submit, All, All-cons, All-contains, All-head, All-tail, ap, AreFinished, asked_at, AskedQueries, AskedQuery, Bool, Building, CanAbandon, CanRun, CanSpoil, cond, Contains, CoreParts, eqb, eqb-true, extent_in, false, find, fold, is_begun, is_open, IsCore, IsSomeAnd, IsTrue, Life, life_in, life_of, List, Lives, None, Option, option_map, option_map_or, query_in, QueryLife, refl, Some, Spoiled, subst, sym, true, with_life, ℕ}
use Rattle.std.specs.Option.{option_or}
use Rattle.std.proofs.lemmas.Bool.{false≢true}
use Rattle.std.proofs.lemmas.List.Elements.{All-weaker}
use Rattle.std.proofs.lemmas.List.Folds.{find-append}
use Rattle.pipeline_manager.proofs.LifeLemmas.{life_in-same, oldest-waits}
use Rattle.pipeline_manager.specs.Changes.{cut_life, started}
use Rattle.pipeline_manager.specs.declared.life.Life.TheVariants as life
use Rattle.core_parts.specs.Asked.{AreOver, HasBegun, IsNoneOf, IsNotAmong, IsQueryOver, is_to_start}
use Rattle.core_state.proofs.SaysLemmas.{ended-cases, reserved-cases, says-cut, says-spoiled, says-written}
use Rattle.core_state.proofs.WholeLivesLemmas.{IsOpenOr, StaysOver, lives-abandoned, lives-cut, lives-ended, lives-reserved, lives-same, lives-spoiled, lives-written, open-by, open-so, over-behind}

-- a life that is no longer open, or no longer to start
abbrev IsPast : (test : Life → Bool) → Option Life → Type 0
IsPast test found = IsSomeAnd found (λ life. test life ≡ false)

past-test : (test : Life → Bool) (found : Option Life) → IsPast test found → IsTrue (option_map_or test found false) → ⊥
past-test test None past may = past
past-test test (Some life) past may = false≢true (sym past ∙ may)

-- a query that may still be answered was not let go
pub open-stands : (lives : Lives) (gone : List AskedQuery) (number : ℕ) → AreOver lives gone
    → IsTrue (option_map_or is_open (life_of lives number) false) → IsNotAmong gone number
open-stands lives [] number over may = refl
open-stands lives (first ∷ gone) number over may =
    by_test (eqb first.number number) refl
    (open-stands lives gone number (All-tail (λ (entry : AskedQuery). IsQueryOver lives entry.number) first gone over) may)
  where
    by_test : (t : Bool) → eqb first.number number ≡ t → IsNotAmong gone number
        → cond {A = Option AskedQuery} t (Some first) (asked_at gone number) ≡ None
    by_test true same behind = absurd (past-test is_open (life_of lives number)
        (subst (IsQueryOver lives) (eqb-true first.number number same) (All-head (λ (entry : AskedQuery). IsQueryOver lives entry.number) first gone over)) may)
    by_test false other behind = behind

-- nor was one that is Building, and it was not handed on
pub record Stands (asked : AskedQueries) (number : ℕ) : Type 0 where
  pub gone : IsNotAmong asked.gone number
  pub handed : IsNoneOf asked.handed number

pub building-stands : (parts now : CoreParts) (asked : AskedQueries) (number : ℕ) → parts ≡ now → AreFinished parts.lives asked
    → life_of now.lives number ≡ Some Building → Stands asked number
building-stands parts now asked number is finished has =
    let builds : life_of parts.lives number ≡ Some Building = ap (λ (p : CoreParts). life_of p.lives number) is ∙ has in
    record {
      gone = open-stands parts.lives asked.gone number finished.over (subst (λ o. IsTrue (option_map_or is_open o false)) (sym builds) refl);
      handed = All-weaker (HasBegun parts.lives) (λ other. other ≢ number)
          (λ other begun same. past-test is_to_start (life_of parts.lives number) (subst (HasBegun parts.lives) same begun)
          (subst (λ o. IsTrue (option_map_or is_to_start o false)) (sym builds) refl)) asked.handed finished.begun;
    }

-- what has begun stays so
abbrev StaysBegun : List QueryLife → List QueryLife → Type 0
StaysBegun old new = (number : ℕ) → IsPast is_to_start (life_in old number) → IsPast is_to_start (life_in new number)

-- lives go on: what is over stays so, and what has begun
pub record GoOn (old new : List QueryLife) : Type 0 where
  pub over : StaysOver old new
  pub begun : StaysBegun old new

-- what is over
stays-past : (old new : List QueryLife) (number : ℕ) → StaysOver old new → IsPast is_open (life_in old number) → IsPast is_open (life_in new number)
stays-past old new number on past = by_life (life_in old number) refl past
  where
    by_life : (found : Option Life) → life_in old number ≡ found → IsPast is_open found → IsPast is_open (life_in new number)
    by_life None is none = absurd none
    by_life (Some life) is closed = subst (IsPast is_open) (sym (on number life closed is)) closed

-- queries stay finished where lives go on, and those that are handed on have begun
pub finished-more : (old new : Lives) (was now : AskedQueries) → GoOn old.queries new.queries → now.gone ≡ was.gone
    → (All (HasBegun new) was.handed → All (HasBegun new) now.handed) → AreFinished old was → AreFinished new now
finished-more old new was now on gone handed finished = record {
  over = subst (AreOver new) (sym gone)
      (All-weaker (λ (entry : AskedQuery). IsQueryOver old entry.number) (λ (entry : AskedQuery). IsQueryOver new entry.number)
      (λ entry. stays-past old.queries new.queries entry.number on.over) was.gone finished.over);
  begun = handed (All-weaker (HasBegun old) (HasBegun new) on.begun was.handed finished.begun);
}

-- the same where none is
pub finished-on : (old new : Lives) (was now : AskedQueries) → GoOn old.queries new.queries → now.gone ≡ was.gone → now.handed ≡ was.handed
    → AreFinished old was → AreFinished new now
finished-on old new was now on gone handed = finished-more old new was now on gone (subst (All (HasBegun new)) (sym handed))

-- those that are handed on now
pub handed-more : (P : ℕ → Type 0) (number : ℕ) (was now : List ℕ) → All (Contains (number ∷ was)) now → P number → All P was → All P now
handed-more P number was now among one all =
    All-weaker (Contains (number ∷ was)) P (λ other is. All-contains P (number ∷ was) other (All-cons P number was one all) is) now among

-- lives that are as they were
pub on-same : (old new : Lives) → new.queries ≡ old.queries → GoOn old.queries new.queries
on-same old new is = subst (GoOn old.queries) (sym is) (record { over = (lives-same old.queries).over; begun = λ number begun. begun })

-- or as an event makes them
on-by : (old after new : Lives) → new ≡ after → GoOn old.queries after.queries → GoOn old.queries new.queries
on-by old after new is on = subst (λ (lives : Lives). GoOn old.queries lives.queries) (sym is) on

-- a query gets a slot
pub on-reserved : (parts : CoreParts) (slot : ℕ) (new : Lives) → IsCore parts → new ≡ after_reserve slot parts.lives
    → GoOn parts.lives.queries new.queries
on-reserved parts slot new core is =
    let rising = core.sound.slots.lives.rising in
    on-by parts.lives (after_reserve slot parts.lives) new is (record {
      over = (lives-reserved slot parts.lives rising).over;
      begun = reserved-cases (StaysBegun parts.lives.queries) slot parts.lives (λ number begun. begun)
          (λ query oldest number. says-written (IsPast is_to_start) query Building parts.lives.queries number
          (λ old found begun.
          let both : Some life.Waiting ≡ Some old = sym (oldest-waits parts.lives.queries query rising oldest) ∙ found in
          let same : life.Waiting ≡ old = cc in
          absurd (let never : true ≡ false = ap is_to_start same ∙ begun in cc)));
    })

-- a query that is Building runs
started-begun : (start extent : ℕ) → is_to_start (started start extent) ≡ false
started-begun start extent = by_test (eqb extent 0)
  where
    by_test : (t : Bool) → is_to_start (cond {A = Life} t life.Ending (life.Running start extent)) ≡ false
    by_test true = refl
    by_test false = refl

pub on-run : (parts now : CoreParts) (query start : ℕ) (new : Lives) → parts ≡ now → CanRun query now.lives → new ≡ after_run query start parts.lives
    → GoOn parts.lives.queries new.queries
on-run parts now query start new is may run =
    let begun = started start (extent_in parts.lives.queries query) in
    let building : life_in parts.lives.queries query ≡ Some Building = ap (λ (p : CoreParts). life_of p.lives query) is ∙ may.building in
    on-by parts.lives (after_run query start parts.lives) new run (record {
      over = (lives-written query begun parts.lives.queries (open-so (life_in parts.lives.queries query) Building begun building refl)).over;
      begun = λ number. says-written (IsPast is_to_start) query begun parts.lives.queries number
          (λ old found was. started-begun start (extent_in parts.lives.queries query));
    })

-- it has begun then
pub has-begun : (parts now : CoreParts) (query start : ℕ) (new : Lives) → parts ≡ now → CanRun query now.lives → new ≡ after_run query start parts.lives
    → HasBegun new query
has-begun parts now query start new is may run =
    let begun = started start (extent_in parts.lives.queries query) in
    let building : life_in parts.lives.queries query ≡ Some Building = ap (λ (p : CoreParts). life_of p.lives query) is ∙ may.building in
    subst (λ (lives : Lives). IsPast is_to_start (life_in lives.queries query)) (sym run)
    (subst (IsPast is_to_start) (sym (life_in-same parts.lives.queries query begun ∙ ap (option_map (λ before. begun)) building))
    (started-begun start (extent_in parts.lives.queries query)))

-- a cut
cut-begun : (positions : ℕ) (now : Life) → IsPast is_to_start (Some now) → IsPast is_to_start (Some (cut_life positions now))
cut-begun positions (life.Running start left) past = started-begun start (left - positions)
cut-begun positions other past = past

pub on-cut : (first last : ℕ) (old new : Lives) → new ≡ after_cut first last old → GoOn old.queries new.queries
on-cut first last old new is = on-by old (after_cut first last old) new is (record {
  over = (lives-cut first last old.queries).over;
  begun = λ number. says-cut (IsPast is_to_start) first last old.queries number cut-begun;
})

-- a slot is taken from its query
pub on-ended : (slot : ℕ) (old new : Lives) → new ≡ after_end slot old → GoOn old.queries new.queries
on-ended slot old new is = on-by old (after_end slot old) new is (record {
  over = (lives-ended slot old).over;
  begun = ended-cases (StaysBegun old.queries) slot old (λ number begun. begun)
      (λ query ends number. says-written (IsPast is_to_start) query life.Answered old.queries number (λ before found begun. refl));
})

-- queries that have begun find no memory for their rows
pub on-spoiled : (spoiled : List ℕ) (old new : Lives) → All (λ query. CanSpoil query old) spoiled
    → new ≡ fold (λ lives query. after_spoil query lives) old spoiled → GoOn old.queries new.queries
on-spoiled spoiled old new begun is =
    on-by old (fold (λ lives query. after_spoil query lives) old spoiled) new is (record {
      over = (lives-spoiled spoiled old
          (All-weaker (λ query. CanSpoil query old) MaySpoilHere
          (λ query can. open-by is_begun begun-open (life_in old.queries query) Spoiled can) spoiled begun)).over;
      begun = λ number. says-spoiled (IsPast is_to_start) spoiled old number (λ now past. refl);
    })
  where
    MaySpoilHere : ℕ → Type 0
    MaySpoilHere query = IsOpenOr Spoiled (life_in old.queries query)

    begun-open : (now : Life) → is_begun now ≡ true → is_open now ≡ true
    begun-open life.Answered begun = absurd (let both : false ≡ true = begun in cc)
    begun-open life.Spoiled begun = absurd (let both : false ≡ true = begun in cc)
    begun-open life.Abandoned begun = absurd (let both : false ≡ true = begun in cc)
    begun-open other begun = refl

-- a query that is Building finds no memory
pub on-unbuilt : (parts now : CoreParts) (query : ℕ) (new : Lives) → parts ≡ now → life_of now.lives query ≡ Some Building
    → new ≡ after_spoil query parts.lives → GoOn parts.lives.queries new.queries
on-unbuilt parts now query new is building spoilt = on-by parts.lives (after_spoil query parts.lives) new spoilt (record {
  over = (lives-written query Spoiled parts.lives.queries
      (open-so (life_in parts.lives.queries query) Building Spoiled (ap (λ (p : CoreParts). life_of p.lives query) is ∙ building) refl)).over;
  begun = λ number. says-written (IsPast is_to_start) query Spoiled parts.lives.queries number (λ old found begun. refl);
})

-- nobody waits for a query any more
pub on-abandoned : (parts now : CoreParts) (query : ℕ) (new : Lives) → parts ≡ now → CanAbandon query now.lives
    → new ≡ after_abandon query parts.lives → GoOn parts.lives.queries new.queries
on-abandoned parts now query new is may lost = on-by parts.lives (after_abandon query parts.lives) new lost (record {
  over = (lives-abandoned query parts.lives (subst (λ (p : CoreParts). CanAbandon query p.lives) (sym is) may)).over;
  begun = λ number. says-written (IsPast is_to_start) query life.Abandoned parts.lives.queries number (λ old found begun. refl);
})

-- a life that is written of a query which has one
pub past-written : (new : Life) (queries : List QueryLife) (query : ℕ) → is_to_start new ≡ false
    → IsTrue (option_map_or is_open (life_in queries query) false) → IsPast is_to_start (life_in (with_life query new queries) query)
past-written new queries query past may =
    subst (IsPast is_to_start) (sym (life_in-same queries query new)) (by_life (life_in queries query) may)
  where
    by_life : (found : Option Life) → IsTrue (option_map_or is_open found false) → IsPast is_to_start (option_map (λ before. new) found)
    by_life None none = absurd (false≢true none)
    by_life (Some life) has = past

pub has-left : (parts now : CoreParts) (query : ℕ) (new : Lives) (left : Life) → parts ≡ now → CanAbandon query now.lives → is_to_start left ≡ false
    → new.queries ≡ with_life query left parts.lives.queries → HasBegun new query
has-left parts now query new left is may past written =
    subst (λ queries. IsPast is_to_start (life_in queries query)) (sym written)
    (past-written left parts.lives.queries query past (subst (λ (p : CoreParts). CanAbandon query p.lives) (sym is) may))

-- a query stands behind the others
pub on-submitted : (query extent : ℕ) (old new : Lives) → new ≡ after_submit query extent old → GoOn old.queries new.queries
on-submitted query extent old new is = on-by old (after_submit query extent old) new is (record {
  over = over-behind old.queries entry;
  begun = begun;
})
  where
    entry : QueryLife
    entry = record { query = query; extent = extent; life = life.Waiting }

    begun : StaysBegun old.queries (old.queries ++ entry ∷ [])
    begun number past =
        subst (λ o. IsPast is_to_start (option_map (λ e. e.life) o)) (sym (find-append (λ (e : QueryLife). eqb e.query number) old.queries (entry ∷ [])))
        (by_found (query_in old.queries number) past)
      where
        by_found : (o : Option QueryLife) → IsPast is_to_start (option_map (λ e. e.life) o)
            → IsPast is_to_start (option_map (λ e. e.life) (option_or o (find (λ (e : QueryLife). eqb e.query number) (entry ∷ []))))
        by_found None none = absurd none
        by_found (Some one) has = has
