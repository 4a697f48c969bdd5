-- A query that is accepted keeps what is sound beside the seats.
use Rattle.core_state.proofs.Words.{◌++◌, ◌<◌, ◌↔◌, ◌∙◌, ◌∷◌, ◌≡◌, ◌≢◌, ◌≤◌, ◌⊎◌, [], Accepted, accepted_at, All, All-head, All-map, All-push, All-tail, all_at, ap, arith, cases_lt, cond, eq-eqb, eqb, false, get_or, get_or-map, grouped_of, IfSome, IfSome_then, inl, inr, is_open, IsDated, IsKept, IsOver, IsSettled, IsSome, IsSoundBeside, IsSoundQuery, IsTrue, length, length-map, List, map, map_push, ne_eqb, None, none-some, Option, PlainVersion, Query, query_in, query_in-push_other, query_in-push_same, QueryLife, refl, Seat, slice_get, Some, State, subst, sym, TableDef, tables_of, true, versions_in, ℕ}
use Rattle.std.proofs.lemmas.Option.{slice_get_past}
use Rattle.pipeline_manager.specs.Conditions.{IsNew}
use Rattle.pipeline_manager.specs.declared.life.Life.TheVariants as life
use Rattle.pipeline_manager.proofs.CallLemmas.{sound-after_submit}
use Rattle.core_state.proofs.BesideLemmas.{beside-later, later, query-later}
use Rattle.core_state.proofs.FrameLemmas.{StayTaken}
use Rattle.core_state.proofs.SubmitSeatLemmas.{Still}

-- one accepted query more changes what is found of no other number
pub accepted-push : (accepted : List Accepted) (new : Accepted) (number : ℕ) → new.number ≢ number
    → accepted_at (accepted ++ new ∷ []) number ≡ accepted_at accepted number
accepted-push [] new number apart = ap (λ t. cond {A = Option Accepted} t (Some new) None) (ne_eqb new.number number apart)
accepted-push (first ∷ accepted) new number apart =
    ap (λ rest. cond {A = Option Accepted} (eqb first.number number) (Some first) rest) (accepted-push accepted new number apart)

-- and it is found by its own
pub accepted-push_same : (accepted : List Accepted) (new : Accepted) → All (λ a. a.number ≢ new.number) accepted
    → accepted_at (accepted ++ new ∷ []) new.number ≡ Some new
accepted-push_same [] new apart = ap (λ t. cond {A = Option Accepted} t (Some new) None) (eq-eqb new.number new.number refl)
accepted-push_same (first ∷ accepted) new apart =
    ap (λ t. cond {A = Option Accepted} t (Some first) (accepted_at (accepted ++ new ∷ []) new.number))
    (ne_eqb first.number new.number (All-head (λ a. a.number ≢ new.number) first accepted apart))
    ∙ accepted-push_same accepted new (All-tail (λ a. a.number ≢ new.number) first accepted apart)

-- what holds of the numbers holds of those who have them
pub of-numbers : {X Y : Type 0} (P : ℕ → Type 0) (f : X → ℕ) (g : Y → ℕ) (xs : List X) (ys : List Y) → map f xs ≡ map g ys
    → All (λ x. P (f x)) xs → All (λ y. P (g y)) ys
of-numbers P f g xs ys same all = λ k d low.
    let every : All P (map g ys) = subst (All P) same (All-map P f xs all) in
    let many : length (map g ys) ≡ length ys = length-map ys g in
    subst P (get_or-map g ys k d (g d) low) (every k (g d) (omega arith))

-- all of the versions began by the last commit
extent-of : (state : State) → IsSettled (tables_of state) → (position : ℕ)
    → IfSome (slice_get (tables_of state).versions position)
    (λ version. (version.begin ≤ (tables_of state).commits) ↔ (position < versions_in state))
extent-of state settled position = by_place (cases_lt position (versions_in state))
  where
    versions : List PlainVersion
    versions = (tables_of state).versions

    by_place : (position < versions_in state) ⊎ (versions_in state ≤ position)
        → IfSome (slice_get versions position) (λ version. (version.begin ≤ (tables_of state).commits) ↔ (position < versions_in state))
    by_place (inl low) = IfSome_then (slice_get versions position)
        (all_at (IsDated (tables_of state).commits) versions position settled.versions.dated)
        (λ version dated. (λ begun. low, λ there. dated.begun))
    by_place (inr past) =
        subst (λ o. IfSome o (λ (version : PlainVersion). (version.begin ≤ (tables_of state).commits) ↔ (position < versions_in state)))
        (sym (slice_get_past versions position past)) tt

-- a query that is accepted, as it waits
abbrev pub accepted_as : (seat statement : ℕ) → Query → (snapshot : ℕ) → Accepted
accepted_as seat statement query snapshot =
    record { number = statement; seat = seat; query = query; snapshot = snapshot; groups = Some (grouped_of query []) }

-- the core with an accepted query
abbrev pub asked_now : State → List Seat → (seat statement : ℕ) → Query → (snapshot : ℕ) → State
asked_now state seats seat statement query snapshot =
    later state seats statement (state.accepted ++ accepted_as seat statement query snapshot ∷ [])
    (state.lives.queries ++ record { query = statement; extent = versions_in state; life = life.Waiting } ∷ [])

pub still-asked : (state : State) (seats : List Seat) (seat statement : ℕ) (query : Query) (snapshot : ℕ) → state.numbers.statement < statement
    → Still state (asked_now state seats seat statement query snapshot)
still-asked state seats seat statement query snapshot above = record {
  asked = λ number low. accepted-push state.accepted (accepted_as seat statement query snapshot) number
      (λ same. let is : statement ≡ number = same in absurd (omega arith));
  lives = λ number low. query_in-push_other state.lives.queries
      (record { query = statement; extent = versions_in state; life = life.Waiting }) number
      (λ same. let is : number ≡ statement = same in omega arith);
}

pub beside-asked : (state : State) (seats : List Seat) (seat statement : ℕ) (query : Query) (snapshot : ℕ) → length seats ≡ length state.seats
    → state.numbers.statement < statement → StayTaken state.seats seats → IsSettled (tables_of state) → snapshot ≡ (tables_of state).commits
    → IsOver (tables_of state).schema query → IsSome (tables_of state).schema.fact → IsSoundBeside state
    → IsSoundBeside (asked_now state seats seat statement query snapshot)
beside-asked state seats seat statement query snapshot count above stay settled is over there old =
    beside-later state seats statement (state.accepted ++ new ∷ []) (state.lives.queries ++ entry ∷ []) count still
    (record {
      same = map_push (λ (a : Accepted). a.number) state.accepted new
          ∙ ap (λ numbers. numbers ++ statement ∷ []) old.queries.same
          ∙ sym (map_push (λ (e : QueryLife). e.query) state.lives.queries entry);
      each = All-push (IsSoundQuery now) state.accepted new
          (λ k d low. query-later state seats statement (state.accepted ++ new ∷ []) (state.lives.queries ++ entry ∷ []) still
          (omega arith) stay (get_or state.accepted k d) (old.queries.each k d low))
          (record {
            number = omega arith;
            over = over;
            snapshot = omega arith;
            within = subst (λ o. IfSome o (λ (e : QueryLife). e.extent ≤ versions_in state)) (sym found) (omega arith);
            kept = subst (λ o. IfSome o (λ (e : QueryLife). IsKept (tables_of now) now.seats now.scan new e.extent e.life)) (sym found) refl;
            extent = subst (λ o. IfSome o (λ (e : QueryLife). IsTrue (is_open e.life) → (position : ℕ)
                → IfSome (slice_get (tables_of state).versions position)
                (λ version. (version.begin ≤ snapshot) ↔ (position < e.extent)))) (sym found)
                (λ opens position. subst (λ n. IfSome (slice_get (tables_of state).versions position)
                (λ version. (version.begin ≤ n) ↔ (position < versions_in state))) (sym is) (extent-of state settled position));
          });
    })
    (sound-after_submit statement (versions_in state) state.lives above_all old.slots.lives)
    (λ none. by_fact (tables_of state).schema.fact none there) old
  where
    new : Accepted
    new = accepted_as seat statement query snapshot

    entry : QueryLife
    entry = record { query = statement; extent = versions_in state; life = life.Waiting }

    now : State
    now = asked_now state seats seat statement query snapshot

    still : Still state now
    still = still-asked state seats seat statement query snapshot above

    above_all : IsNew statement state.lives
    above_all = of-numbers (λ n. n < statement) (λ (a : Accepted). a.number) (λ (e : QueryLife). e.query) state.accepted state.lives.queries
        old.queries.same (λ k d low. let query = old.queries.each k d low in let given = query.number in omega arith)

    found : query_in (state.lives.queries ++ entry ∷ []) statement ≡ Some entry
    found = query_in-push_same state.lives.queries entry (λ k d low same. let below = above_all k d low in omega arith)

    by_fact : {A : Type 0} (fact : Option TableDef) → fact ≡ None → IsSome fact → A
    by_fact None none some = absurd (let both : false ≡ true = some in cc)
    by_fact (Some table) none some = absurd (none-some table (sym none))
