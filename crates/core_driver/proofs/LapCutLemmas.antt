-- A cut of a scan that is on its way leaves it on its way.
use Rattle.core_driver.proofs.Words.{◌+◌, ◌-◌, ◌<◌, ◌≡◌, ◌≤◌, ◌⊎◌, after_cutting, All, All-map, All-weaker, arith, BeganAt, CameRound, cases_lt, covered, cut_query, Cuts, cuts, end_in, eqb, find-holds, first_cases, first_in, get_or, inl, inr, IsEnd, IsLeft, IsLeftBetween, IsNext, IsOnItsWay, IsRunning, IsSound, IsToComeRound, life-runs, MayCut, QueryLife, Runs, some-runs, State, subst, sym, versions_in, ℕ, ⊎_elim}
use Rattle.pipeline_manager.specs.declared.life.Life.TheVariants as life
use Rattle.core_state.specs.Cutting.{starts_of}
use Rattle.core_state.proofs.CutRangeLemmas.{end-to-start}
use Rattle.core_state.proofs.CutRosterLemmas.{start-among}
use Rattle.core_state.proofs.CutRunsLemmas.{left-of}
use Rattle.core_driver.proofs.LapLifeLemmas.{began-cut, between-cut, between-none, between-round}
use Rattle.core_driver.proofs.LapQueryLemmas.{OfQuery, each-query, none-any}

-- how many positions a cut takes
abbrev pub cut_of : State → ℕ
cut_of state = end_in state - first_in state

-- a cut takes no more positions than are left of the way, and leaves the rest of it
pub record CutsOn (end most : ℕ) (state : State) : Type 0 where
  pub enough : cut_of state ≤ most
  pub way : IsOnItsWay end (most - cut_of state) (after_cutting state)

-- what holds of the life of each query after a cut
all-cut : (P : QueryLife → Type 0) (state : State) → All (λ entry. P (cut_query (first_in state) (end_in state - 1) entry)) state.lives.queries
    → All P (after_cutting state).lives.queries
all-cut P state each = All-map P (cut_query (first_in state) (end_in state - 1)) state.lives.queries each

-- the end of the way stays
end-cut : (end : ℕ) (state : State) → IsEnd end state → IsEnd end (after_cutting state)
end-cut end state is_end = record {
  within = is_end.within;
  is = ⊎_elim (λ last. inl last) (λ began. inr (
    began.0,
    all-cut (λ entry. BeganAt end entry.life) state
        (All-weaker (λ entry. BeganAt end entry.life) (λ entry. BeganAt end (cut_query (first_in state) (end_in state - 1) entry).life)
        (λ entry. began-cut end (covered (first_in state) (end_in state - 1) entry.extent) entry.life) state.lives.queries began.1),
  )) is_end.is;
}

-- behind a cut that does not go to the last version the next one begins where it ended
next-first : (state : State) → end_in state < versions_in state → first_in (after_cutting state) ≡ end_in state
next-first state short =
    ⊎_elim (λ h. let is = h.0 in absurd (omega arith)) (λ h. h.1) (first_cases (end_in state) (versions_in state))

-- behind one that does, at 0
next-round : (state : State) → end_in state ≡ versions_in state → first_in (after_cutting state) ≡ 0
next-round state last =
    ⊎_elim (λ h. h.1) (λ h. absurd (h.0 last)) (first_cases (end_in state) (versions_in state))

-- where the scan stands behind the last version, what is left of each query lies between 0 and the end of the way
all-round : (end : ℕ) (state : State) → IsSound state → state.scan.position ≡ versions_in state → IsEnd end state
    → All (λ entry. IsLeftBetween 0 end entry.extent entry.life) state.lives.queries
all-round end state sound stands is_end = λ k d low.
    let entry : QueryLife = get_or state.lives.queries k d in
    let of : OfQuery state entry = each-query state sound k d low in
    between-round (versions_in state) end entry.extent entry.life of.extent of.left
    (subst (λ position. IsNext position entry.extent entry.life) stands of.next)
    (⊎_elim (λ last. inl last) (λ began. inr (began.0, began.1 k d low)) is_end.is)

-- before the scan comes round
cut-coming : (end most : ℕ) (state : State) → Cuts state → IsSound (after_cutting state) → IsToComeRound end most state → CutsOn end most state
cut-coming end most state range later coming = record {
  enough = let all = coming.enough in let last = range.last in omega arith;
  way = by_last (cases_lt (end_in state) (versions_in state));
}
  where
    is_end : IsEnd end (after_cutting state)
    is_end = end-cut end state coming.is_end

    round : end_in state ≡ versions_in state → CameRound end (most - cut_of state) (after_cutting state)
    round last = record {
      is_end = is_end;
      left = subst (λ first. All (λ entry. IsLeftBetween first end entry.extent entry.life) (after_cutting state).lives.queries)
          (sym (next-round state last)) (all-round end (after_cutting state) later last is_end);
      enough =
          let all = coming.enough in
          let after = range.after in
          subst (λ n. end - n ≤ most - cut_of state) (sym (next-round state last)) (omega arith);
    }

    by_last : (end_in state < versions_in state) ⊎ (versions_in state ≤ end_in state)
        → IsOnItsWay end (most - cut_of state) (after_cutting state)
    by_last (inl short) =
        let all = coming.enough in
        let after = range.after in
        inr (inl (record {
          is_end = is_end;
          enough = subst (λ n. versions_in state - n + end ≤ most - cut_of state) (sym (next-first state short)) (omega arith);
        }))
    by_last (inr past) = inr (inr (round (let within = range.last in omega arith)))

-- a scan that came round cuts to the end of the way at the latest
cut-within : (end most : ℕ) (state : State) → IsSound state → Runs state → Cuts state → CameRound end most state → end_in state ≤ end
cut-within end most state sound some range came = ⊎_elim
    (λ last. let within = range.last in omega arith)
    (λ began.
    let same : some.start ≡ end = subst (BeganAt end) some.runs
    (find-holds (λ entry. BeganAt end entry.life) (λ entry. eqb entry.query some.entry.query) state.lives.queries some.entry some.found began.1) in
    let between : IsLeftBetween (first_in state) end some.entry.extent (life.Running some.start some.left) =
    subst (IsLeftBetween (first_in state) end some.entry.extent) some.runs
    (find-holds (λ entry. IsLeftBetween (first_in state) end entry.extent entry.life) (λ entry. eqb entry.query some.entry.query)
    state.lives.queries some.entry some.found came.left) in
    let left : IsLeft some.entry.extent (life.Running some.start some.left) =
    subst (IsLeft some.entry.extent) some.runs (left-of state sound some.entry.query some.entry some.found) in
    let one = left.0 in
    let above : first_in state < some.start = omega arith in
    let ends : end_in state ≤ some.start =
    end-to-start (first_in state) (versions_in state) state.settings.batch (starts_of state) some.start
    (start-among state sound some.entry.query some.start some.left (life-runs state some)) above in
    omega arith) came.is_end.is

-- where the scan came round
cut-came : (end most : ℕ) (state : State) → IsSound state → Runs state → Cuts state → CameRound end most state → CutsOn end most state
cut-came end most state sound some range came = record {
  enough = let all = came.enough in let last = within in omega arith;
  way = by_end (cases_lt (end_in state) end);
}
  where
    within : end_in state ≤ end
    within = cut-within end most state sound some range came

    left : All (λ entry. IsLeftBetween (end_in state) end entry.extent entry.life) (after_cutting state).lives.queries
    left = all-cut (λ entry. IsLeftBetween (end_in state) end entry.extent entry.life) state
        (All-weaker (λ entry. IsLeftBetween (first_in state) end entry.extent entry.life)
        (λ entry. IsLeftBetween (end_in state) end entry.extent (cut_query (first_in state) (end_in state - 1) entry).life)
        (λ entry. between-cut (first_in state) (end_in state) end entry.extent entry.life range.after within)
        state.lives.queries came.left)

    none : end_in state ≡ end → All (λ entry. IsRunning entry.life → ⊥) (after_cutting state).lives.queries
    none last = all-cut (λ entry. IsRunning entry.life → ⊥) state
        (All-weaker (λ entry. IsLeftBetween (first_in state) end entry.extent entry.life)
        (λ entry. IsRunning (cut_query (first_in state) (end_in state - 1) entry).life → ⊥)
        (λ entry between. between-none (first_in state) (end_in state) entry.extent entry.life range.after
        (subst (λ n. IsLeftBetween (first_in state) n entry.extent entry.life) (sym last) between))
        state.lives.queries came.left)

    by_end : (end_in state < end) ⊎ (end ≤ end_in state) → IsOnItsWay end (most - cut_of state) (after_cutting state)
    by_end (inl short) =
        let last = came.is_end.within in
        let first : first_in (after_cutting state) ≡ end_in state = next-first state (omega arith) in
        let all = came.enough in
        let after = range.after in
        inr (inr (record {
          is_end = end-cut end state came.is_end;
          left = subst (λ n. All (λ entry. IsLeftBetween n end entry.extent entry.life) (after_cutting state).lives.queries) (sym first) left;
          enough = subst (λ n. end - n ≤ most - cut_of state) (sym first) (omega arith);
        }))
    by_end (inr past) =
        inl (none-any (λ entry. IsRunning entry.life) (after_cutting state).lives.queries (none (let same = within in omega arith)))

-- a cut that may come, on either part of the way
pub cuts-on : (end most : ℕ) (state : State) → IsSound state → MayCut state → IsSound (after_cutting state) → IsOnItsWay end most state
    → CutsOn end most state
cuts-on end most state sound may later way = ⊎_elim
    (λ none. absurd (none may.running))
    (λ on. ⊎_elim
    (cut-coming end most state (cuts state may sound) later)
    (cut-came end most state sound (some-runs state may sound) (cuts state may sound)) on) way
