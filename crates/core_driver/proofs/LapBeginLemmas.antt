-- How the way of a scan begins.
use Rattle.core_driver.proofs.Words.{◌*◌, ◌<◌, ◌∙◌, ◌≡◌, ◌≤◌, All, ap, arith, BeganAt, cases_lt, first_cases, first_in, first_of, get_or, inl, inr, IsLed, IsLeft, IsLeftBetween, IsOfAdmission, IsOnItsWay, IsRunning, IsSound, EndsWithin, length, Life, QueryLife, refl, ScanState, SomeRuns, State, subst, sym, tables_by, versions_in, ℕ, ⊎_elim}
use Rattle.pipeline_manager.specs.declared.life.Life.TheVariants as life
use Rattle.core_driver.proofs.LapAdmitLemmas.{Admitted, AllBegan, admitted}
use Rattle.core_driver.proofs.LapQueryLemmas.{OfQuery, all-none, each-query}
use Rattle.core_driver.proofs.LedLemmas.{led-holds}

-- of every core: to the last version, and once more over the table
pub way-of : (state : State) → IsOnItsWay (versions_in state) (2 * versions_in state) state
way-of state = inr (inl (record {
  is_end = record { within = omega arith; is = inl refl };
  enough = omega arith;
}))

-- the scan stands within the table
first-within : (state : State) → IsSound state → first_in state ≤ versions_in state
first-within state sound =
    let stands = sound.scan.position in
    ⊎_elim (λ h. let is = h.1 in omega arith) (λ h. let is = h.1 in omega arith) (first_cases state.scan.position (versions_in state))

-- what is left of a query lies within the table
between-all : (versions extent : ℕ) (now : Life) → extent ≤ versions → IsLeft extent now → IsLeftBetween 0 versions extent now
between-all versions extent (life.Running start rest) within left = let most = left.1 in omega arith
between-all versions extent other within left = tt

-- a scan that stands at 0 has the table before it
way-at-0 : (state : State) → IsSound state → first_in state ≡ 0 → IsOnItsWay (versions_in state) (versions_in state) state
way-at-0 state sound stands = inr (inr (record {
  is_end = record { within = omega arith; is = inl refl };
  left = subst (λ first. All (λ entry. IsLeftBetween first (versions_in state) entry.extent entry.life) state.lives.queries) (sym stands)
      (λ k d low.
      let entry : QueryLife = get_or state.lives.queries k d in
      let of : OfQuery state entry = each-query state sound k d low in
      between-all (versions_in state) entry.extent entry.life of.extent of.left);
  enough = omega arith;
}))

-- where all queries that run began where the scan stands: once around the table
way-above : (state : State) → IsSound state → 0 < first_in state → AllBegan (first_in state) state
    → IsOnItsWay (first_in state) (versions_in state) state
way-above state sound above began =
    let within = first-within state sound in
    inr (inl (record {
      is_end = record { within = within; is = inr (above, began) };
      enough = omega arith;
    }))

-- so many positions are cut at most where all queries that run began where the scan stands
pub within-began : (state : State) → IsSound state → AllBegan (first_in state) state → EndsWithin (versions_in state) state
within-began state sound began = ⊎_elim
    (λ above. record {
      end = first_in state;
      most = versions_in state;
      way = way-above state sound above began;
      enough = omega arith;
    })
    (λ none. record {
      end = versions_in state;
      most = versions_in state;
      way = way-at-0 state sound (omega arith);
      enough = omega arith;
    }) (cases_lt 0 (first_in state))

-- and so many wherever they began
pub within-any : (state : State) → EndsWithin (2 * versions_in state) state
within-any state =
    record { end = versions_in state; most = 2 * versions_in state; way = way-of state; enough = omega arith }

-- what does not run began anywhere
not-began : (start : ℕ) (now : Life) → (IsRunning now → ⊥) → BeganAt start now
not-began start (life.Running other left) none = absurd (none tt)
not-began start rest none = tt

-- where no query runs, all that run began anywhere
pub began-none : (start : ℕ) (state : State) → (SomeRuns state → ⊥) → AllBegan start state
began-none start state none = λ k d low.
    not-began start (get_or state.lives.queries k d).life (all-none (λ entry. IsRunning entry.life) state.lives.queries none k d low)

-- the table has as many versions after an admission
pub versions-admitted : (old new : State) → Admitted old new → versions_in new ≡ versions_in old
versions-admitted old new admits = ap (λ entries. length (tables_by entries).versions) admits.entries

-- the next cut begins where it did
pub first-admitted : (old new : State) → Admitted old new → first_in new ≡ first_in old
first-admitted old new admits =
    ap (λ (scan : ScanState). first_of scan.position (versions_in new)) admits.scan
    ∙ ap (first_of old.scan.position) (versions-admitted old new admits)

-- admissions one after the other
admitted-both : (old mid new : State) → Admitted old mid → Admitted mid new → Admitted old new
admitted-both old mid new first second = record {
  entries = second.entries ∙ first.entries;
  scan = second.scan ∙ first.scan;
  began = λ before. subst (λ start. AllBegan start new) same
      (second.began (subst (λ start. AllBegan start mid) (sym same) (first.began before)));
  slots = λ before. second.slots (first.slots before);
}
  where
    same : first_in mid ≡ first_in old
    same = first-admitted old mid first

-- nothing changes of it
admitted-same : (state : State) → Admitted state state
admitted-same state = record { entries = refl; scan = refl; began = λ before. before; slots = λ before. before }

-- what a list of admissions leaves
pub led-admitted : (old new : State) → IsLed IsOfAdmission old new → Admitted old new
led-admitted old new led =
    led-holds IsOfAdmission (Admitted old)
    (λ event before after one took first. admitted-both old before after first (admitted event before after one took))
    old new led (admitted-same old)
