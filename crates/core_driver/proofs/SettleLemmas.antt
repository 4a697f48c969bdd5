-- What a sound core is where no more events of some kinds may come.
use Rattle.core_driver.proofs.Words.{◌∙◌, ◌∷◌, ◌≡◌, ◌≢◌, ◌⊎◌, [], All, All-get_or, All-nil, Any, ap, arith, Bool, Build, Clear, cond, Cut, eqb, false, find, find-none, Finish, Free, get_or_default, inl, inr, is_waiting, IsFinished, IsLanded, IsRunning, IsQuiet, IsSomeAnd, IsSound, length, Life, life_in, life_of, List, None, NoneMayCome, oldest_waiting, Option, option_map, query_in, QueryLife, refl, Release, Reserve, Some, Start, State, subst, suc, sym, true, zero, ℕ, ⊎_elim}
use Rattle.core_state.specs.Found.{is_on_roster}
use Rattle.event_core.specs.declared.choosing.EventKind.TheVariants as kind
use Rattle.core_driver.proofs.SlotEndLemmas.{NoneIsBuilding, none-building, none-open, slots-free, slots-run, slots-under-way}

-- where no filter may be built and no query may begin to run, none is built for
pub builds-none : (state : State) → NoneMayCome kind.Build state → NoneMayCome kind.Start state → NoneIsBuilding state.lives
builds-none state no_build no_start =
    none-building state.lives (λ query dimension can. no_build (Build query dimension) refl can) (λ query can. no_start (Start query) refl can)

-- where none may be reserved for, no query waits, or no slot is free
pub waits-none : (state : State) → NoneMayCome kind.Reserve state
    → (oldest_waiting state.lives ≡ None) ⊎ All (λ slot. slot ≢ Free) state.lives.slots
waits-none state no_reserve = by_oldest (oldest_waiting state.lives) refl
  where
    by_oldest : (o : Option ℕ) → oldest_waiting state.lives ≡ o
        → (oldest_waiting state.lives ≡ None) ⊎ All (λ slot. slot ≢ Free) state.lives.slots
    by_oldest None is = inl is
    by_oldest (Some query) is = inr (λ slot d low is_free. no_reserve (Reserve query slot) refl (record {
      oldest = is;
      there = low;
      is_free = get_or_default state.lives.slots slot Free d low ∙ is_free;
    }))

-- where no slot may be taken from its query, cleared or released, and no batch is in flight
pub lands : (state : State) → IsSound state → state.scan.flights ≡ [] → NoneMayCome kind.Finish state → NoneMayCome kind.Clear state
    → NoneMayCome kind.Release state → IsLanded state
lands state sound landed no_finish no_clear no_release = record {
  landed = landed;
  slots = slots-under-way state.lives sound.slots.lives
      (λ slot over. no_finish (Finish slot) refl (record { over = over; landed = none-on slot }))
      (λ slot dimension can. no_clear (Clear slot dimension) refl can)
      (λ slot can. no_release (Release slot) refl can);
}
  where
    none-on : (slot : ℕ) → All (λ flight. is_on_roster slot flight ≡ false) state.scan.flights
    none-on slot = subst (All (λ flight. is_on_roster slot flight ≡ false)) (sym landed) (All-nil (λ flight. is_on_roster slot flight ≡ false))

-- and no query is built for
pub settles : (state : State) → IsLanded state → NoneIsBuilding state.lives → IsQuiet state
settles state landed none = record {
  landed = landed.landed;
  slots = slots-run state.lives none landed.slots;
}

-- a query of the list, by what is found of its number
any-found : (P : QueryLife → Type 0) (queries : List QueryLife) (query : ℕ) (entry : QueryLife) → query_in queries query ≡ Some entry → P entry
    → Any P queries
any-found P [] query entry found holds = absurd (let both : None ≡ Some entry = found in cc)
any-found P (first ∷ queries) query entry found holds = by_test (eqb first.query query) found (λ rest. any-found P queries query entry rest holds)
  where
    by_test : (t : Bool) → cond {A = Option QueryLife} t (Some first) (query_in queries query) ≡ Some entry
        → (query_in queries query ≡ Some entry → Any P queries) → Any P (first ∷ queries)
    by_test true is rest = let same : first ≡ entry = cc in (zero, first, (omega arith), refl, subst P (sym same) holds)
    by_test false is rest = let behind = rest is in (suc behind.0, behind.1, (let low = behind.2 in omega arith), behind.3, behind.4)

-- a query that runs is one of the list that does
pub some-run : (P : Life → Type 0) (queries : List QueryLife) (query : ℕ) → IsSomeAnd (life_in queries query) P → Any (λ entry. P entry.life) queries
some-run P queries query runs = by_found (query_in queries query) refl runs
  where
    by_found : (o : Option QueryLife) → query_in queries query ≡ o → IsSomeAnd (option_map (λ e. e.life) o) P → Any (λ entry. P entry.life) queries
    by_found None is some = absurd some
    by_found (Some entry) is some = any-found (λ e. P e.life) queries query entry is some

-- where no batch may be cut, and none is in flight, no query runs
runs-none : (state : State) → IsSound state → state.scan.flights ≡ [] → NoneMayCome kind.Cut state
    → (query : ℕ) → IsSomeAnd (life_of state.lives query) IsRunning → ⊥
runs-none state sound landed no_cut query runs = no_cut Cut refl (record {
  running = some-run IsRunning state.lives.queries query runs;
  frame =
      let frames = sound.scan.frames in
      let none : length state.scan.flights ≡ 0 = ap (λ flights. length flights) landed in
      omega arith;
})

-- where no query may get a slot, be built for, begin to run or run on, and every slot in use is that of one that does, all is done
pub finishes : (state : State) → IsSound state → IsLanded state → NoneMayCome kind.Reserve state → NoneMayCome kind.Build state
    → NoneMayCome kind.Start state → NoneMayCome kind.Cut state → IsFinished state
finishes state sound landed no_reserve no_build no_start no_cut = record {
  landed = landed.landed;
  none_open = none-open state.lives sound.slots.lives free (⊎_elim
      (λ none. rest (find (λ entry. is_waiting entry.life) state.lives.queries) refl none)
      (λ used. absurd (used 0 Free sound.slots.lives.some (All-get_or (λ slot. slot ≡ Free) state.lives.slots 0 Free sound.slots.lives.some free)))
      (waits-none state no_reserve));
  free = free;
}
  where
    free : All (λ slot. slot ≡ Free) state.lives.slots
    free = slots-free state.lives (runs-none state sound landed.landed no_cut)
        (slots-run state.lives (builds-none state no_build no_start) landed.slots)

    rest : (o : Option QueryLife) → find (λ entry. is_waiting entry.life) state.lives.queries ≡ o → option_map (λ e. e.query) o ≡ None
        → All (λ entry. is_waiting entry.life ≡ false) state.lives.queries
    rest None is none = find-none (λ entry. is_waiting entry.life) state.lives.queries is
    rest (Some entry) is none = absurd (let both : Some entry.query ≡ None = none in cc)
