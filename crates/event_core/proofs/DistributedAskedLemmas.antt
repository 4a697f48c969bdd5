-- What is kept of the accepted queries once a batch is distributed, in the code and in the state.
use Rattle.event_core.proofs.Words.{◌<◌, ◌∙◌, ◌∷◌, ◌≡◌, [], Accepted, accepted_as, accepted_at, accepted_in, after_flight, All, All-head, All-tail, ap, arith, AskedQuery, attached_for, attached_or, attached_to, Bool, cond, Contains, Contains-get_or, eqb, false, find-holds, get_or, get_or-map, gets, gets_rows, Grouped, IsSome, IsSound, IsSoundQuery, length, length-map, List, list_any, list_any_none, Lives, map, ne_eqb, None, OnRoster, Option, option_map, option_map_or, others-stay, refl, Some, State, subst, sym, true, ℕ}
use Rattle.core_state.specs.Cutting.{unkept}
use Rattle.core_state.specs.State.{Flight}
use Rattle.core_state.proofs.AnewLemmas.{KeepsAsked, found-anew}
use Rattle.core_state.proofs.DistributedLemmas.{found-itself}
use Rattle.core_state.proofs.HandedBatchLemmas.{fed-groups}
use Rattle.core_state.proofs.HandedLivesLemmas.{still-kept, still-none}
use Rattle.core_state.proofs.LandedLemmas.{entry_for, fed_by, feeds, with_more}
use Rattle.core_state.proofs.WholeFrameLemmas.{unkeeps}
use Rattle.event_core.proofs.DistributedSlotLemmas.{attached-shown}

-- groups that are attached are those that are kept
or-some : (o kept : Option Grouped) (groups : Grouped) → o ≡ Some groups → attached_or o kept ≡ o
or-some None kept groups is = cc
or-some (Some mine) kept groups is = refl

-- a batch brings nothing to a query that gets no rows
fed-not : (state : State) (flight : Flight) (accepted : Accepted) → gets state.lives accepted.number ≡ false → fed_by state flight accepted ≡ accepted
fed-not state flight accepted none =
    ap (λ t. option_map_or (λ entry. cond {A = Accepted} t (with_more state flight accepted entry) accepted) (entry_for accepted.number flight) accepted) none
    ∙ by_found (entry_for accepted.number flight)
  where
    by_found : (o : Option OnRoster) → option_map_or (λ entry. accepted) o accepted ≡ accepted
    by_found None = refl
    by_found (Some entry) = refl

-- nothing is kept of a query that found no memory
unkept-none : (queries : List ℕ) (accepted : Accepted) → list_any (λ other. eqb other accepted.number) queries ≡ true
    → (unkept queries accepted).groups ≡ None
unkept-none queries accepted among =
    ap (λ t. (cond {A = Accepted} t (record accepted { groups = None }) accepted).groups) among

-- an accepted query after a batch, where these queries found no memory
abbrev pub left_of : State → List ℕ → Flight → Accepted → Accepted
left_of state queries flight accepted = unkept queries (fed_by state flight accepted)

-- only what is kept of it is another
left-keeps : (state : State) (queries : List ℕ) (flight : Flight) → KeepsAsked (left_of state queries flight)
left-keeps state queries flight accepted =
    let before = feeds state flight accepted in
    let after = unkeeps queries (fed_by state flight accepted) in
    (after.0, after.1 ∙ ap {B = Accepted} (λ a. record a { groups = after.0 }) before.1)

-- the queries of a list all get rows, so one that gets none is not among them
not-listed : (lives : Lives) (queries : List ℕ) (number : ℕ) → All (λ query. gets lives query ≡ true) queries → gets lives number ≡ false
    → list_any (λ other. eqb other number) queries ≡ false
not-listed lives queries number all none =
    list_any_none (λ other. eqb other number) queries
    (λ k d low. ne_eqb (get_or queries k d) number (λ same.
    let both : true ≡ false = sym (all k d low) ∙ ap (gets lives) same ∙ none in cc))

-- a core in which a batch is distributed, where these queries find no memory, and an accepted query of it
module _ (state : State) (batch : ℕ) (flight : Flight) (queries : List ℕ) (sound : IsSound state) (fed : All (λ query. gets state.lives query ≡ true) queries)
    (later : IsSound (after_flight batch queries flight state)) (accepted : Accepted) (there : Contains state.accepted accepted) where
  -- the core after the batch, the number of the query, and the query after the batch
  abbrev now : State
  now = after_flight batch queries flight state

  abbrev number : ℕ
  number = accepted.number

  abbrev left : Accepted
  left = left_of state queries flight accepted

  -- each is found by its number
  found : accepted_at state.accepted number ≡ Some accepted
  found = found-itself state sound.queries sound.slots.lives.rising accepted there

  -- the number is as it was
  same : left.number ≡ number
  same = ap (λ a. a.number) (left-keeps state queries flight accepted).1

  left-found : accepted_at now.accepted number ≡ Some left
  left-found =
      found-anew (unkept queries) (unkeeps queries) number (map (fed_by state flight) state.accepted)
      ∙ ap (option_map (unkept queries)) (found-anew (fed_by state flight) (feeds state flight) number state.accepted
      ∙ ap (option_map (fed_by state flight)) found)

  -- what is attached at the slot of the query before the batch, and after it
  shown : attached_for state.lives (attached_to state) number ≡ cond {A = Option Grouped} (gets state.lives number) accepted.groups None
  shown = attached-shown state sound accepted found

  shown-later : attached_for now.lives (attached_to now) number ≡ cond {A = Option Grouped} (gets now.lives number) left.groups None
  shown-later =
      subst (λ n. attached_for now.lives (attached_to now) n ≡ cond {A = Option Grouped} (gets now.lives n) left.groups None) same
      (attached-shown now later left (ap (accepted_at now.accepted) same ∙ left-found))

  -- the query is sound before and after
  is-sound : IsSoundQuery state accepted
  is-sound = find-holds (IsSoundQuery state) (λ a. eqb a.number number) state.accepted accepted found sound.queries.each

  is-sound-later : IsSoundQuery now left
  is-sound-later = find-holds (IsSoundQuery now) (λ a. eqb a.number number) now.accepted left left-found later.queries.each

  -- nothing is kept beside a query that gets rows
  not-beside : (kept : Option Grouped) → (IsSome (attached_for state.lives (attached_to state) number) → kept ≡ None)
      → gets state.lives number ≡ true → kept ≡ None
  not-beside kept beside yet =
      let groups = fed-groups state accepted is-sound yet in
      beside (subst IsSome (sym (shown ∙ ap (λ t. cond {A = Option Grouped} t accepted.groups None) yet ∙ groups.1)) refl)

  -- one that gets rows no more found no memory
  spoiled : gets state.lives number ≡ true → gets now.lives number ≡ false → list_any (λ other. eqb other number) queries ≡ true
  spoiled yet none = by_test (list_any (λ other. eqb other number) queries) refl
    where
      by_test : (t : Bool) → list_any (λ other. eqb other number) queries ≡ t → t ≡ true
      by_test true among = refl
      by_test false apart =
          let both : true ≡ false = sym yet ∙ sym (ap (λ o. option_map_or gets_rows o false) (others-stay queries number state.lives apart)) ∙ none in cc

  -- what is attached for the query after the batch, or else kept beside it, is what is kept of it
  pub groups-left : (kept : Option Grouped) → accepted.groups ≡ attached_or (attached_for state.lives (attached_to state) number) kept
      → (IsSome (attached_for state.lives (attached_to state) number) → kept ≡ None)
      → attached_or (attached_for now.lives (attached_to now) number) kept ≡ left.groups
  groups-left kept had beside = by_later (gets now.lives number) refl
    where
      by_before : gets now.lives number ≡ false → (t : Bool) → gets state.lives number ≡ t → kept ≡ left.groups
      by_before none true yet =
          not-beside kept beside yet
          ∙ sym (unkept-none queries (fed_by state flight accepted)
          (ap (λ n. list_any (λ other. eqb other n) queries) (ap (λ a. a.number) (feeds state flight accepted).1) ∙ spoiled yet none))
      by_before none false before =
          sym (ap (λ a. (unkept queries a).groups) (fed-not state flight accepted before)
          ∙ ap (λ a. a.groups) (still-kept queries number accepted refl (not-listed state.lives queries number fed before))
          ∙ had
          ∙ ap (λ o. attached_or o kept) (shown ∙ ap (λ t. cond {A = Option Grouped} t accepted.groups None) before))

      by_later : (t : Bool) → gets now.lives number ≡ t
          → attached_or (attached_for now.lives (attached_to now) number) kept ≡ left.groups
      by_later true yet =
          let attached : attached_for now.lives (attached_to now) number ≡ left.groups =
          shown-later ∙ ap (λ t. cond {A = Option Grouped} t left.groups None) yet in
          let groups = fed-groups now left is-sound-later (ap (gets now.lives) same ∙ yet) in
          or-some (attached_for now.lives (attached_to now) number) kept _ (attached ∙ groups.1) ∙ attached
      by_later false none =
          ap (λ o. attached_or o kept) (shown-later ∙ ap (λ t. cond {A = Option Grouped} t left.groups None) none)
          ∙ by_before none (gets state.lives number) refl

  -- what has groups after the batch had some before
  pub still-beside : (kept : Option Grouped) → (IsSome (attached_for state.lives (attached_to state) number) → kept ≡ None)
      → IsSome (attached_for now.lives (attached_to now) number) → kept ≡ None
  still-beside kept beside some = not-beside kept beside (by_before (gets state.lives number) refl)
    where
      by_before : (t : Bool) → gets state.lives number ≡ t → t ≡ true
      by_before true yet = refl
      by_before false before =
          let none : gets now.lives number ≡ false = still-none queries number state.lives before in
          let both : false ≡ true = subst IsSome (shown-later ∙ ap (λ t. cond {A = Option Grouped} t left.groups None) none) some in cc

-- where each is made the same, all are
same-made : {X Y : Type 0} (f g : X → Y) (xs : List X) → All (λ x. f x ≡ g x) xs → map f xs ≡ map g xs
same-made f g [] each = refl
same-made f g (x ∷ xs) each =
    ap (λ y. y ∷ map f xs) (All-head (λ y. f y ≡ g y) x xs each)
    ∙ ap (λ ys. g x ∷ ys) (same-made f g xs (All-tail (λ y. f y ≡ g y) x xs each))

-- what is made in three steps is made in one
made-thrice : {X Y : Type 0} (f g : Y → Y) (h : X → Y) (xs : List X) → map (λ x. f (g (h x))) xs ≡ map f (map g (map h xs))
made-thrice f g h [] = refl
made-thrice f g h (x ∷ xs) = ap (λ ys. f (g (h x)) ∷ ys) (made-thrice f g h xs)

-- what is made of a member is a member of what is made of all
made-among : {X Y : Type 0} (f : X → Y) (xs : List X) (k : ℕ) (d : X) → k < length xs → Contains (map f xs) (f (get_or xs k d))
made-among f xs k d low =
    let many = length-map xs f in
    subst (Contains (map f xs)) (get_or-map f xs k d (f d) low) (Contains-get_or (map f xs) k (f d) (omega arith))

-- nothing is kept beside what is attached
abbrev pub IsNotBeside : Lives → List (Option Grouped) → AskedQuery → Type 0
IsNotBeside lives attached asked = IsSome (attached_for lives attached asked.number) → asked.kept ≡ None

-- a core in which a batch is distributed, with its accepted queries as the code holds them
module _ (state : State) (batch : ℕ) (flight : Flight) (queries : List ℕ) (sound : IsSound state) (fed : All (λ query. gets state.lives query ≡ true) queries)
    (later : IsSound (after_flight batch queries flight state)) (asked : List AskedQuery)
    (same : state.accepted ≡ accepted_in state.lives (attached_to state) asked)
    (beside : All (IsNotBeside state.lives (attached_to state)) asked) where
  -- each query of the code is one of the state
  among : (k : ℕ) (d : AskedQuery) → k < length asked
      → Contains state.accepted (accepted_as state.lives (attached_to state) (get_or asked k d))
  among k d low =
      subst (λ all. Contains all (accepted_as state.lives (attached_to state) (get_or asked k d))) (sym same)
      (made-among (accepted_as state.lives (attached_to state)) asked k d low)

  -- one of them
  one-left : (k : ℕ) (d : AskedQuery) → k < length asked
      → accepted_as (after_flight batch queries flight state).lives (attached_to (after_flight batch queries flight state)) (get_or asked k d)
      ≡ left_of state queries flight (accepted_as state.lives (attached_to state) (get_or asked k d))
  one-left k d low =
      let accepted = accepted_as state.lives (attached_to state) (get_or asked k d) in
      let keeps = left-keeps state queries flight accepted in
      ap {B = Accepted} (λ groups. record accepted { groups = groups })
      (groups-left state batch flight queries sound fed later accepted (among k d low) (get_or asked k d).kept refl (beside k d low)
      ∙ ap (λ a. a.groups) keeps.1)
      ∙ sym keeps.1

  -- all of them, in the code and in the state
  pub accepted-left : accepted_in (after_flight batch queries flight state).lives (attached_to (after_flight batch queries flight state)) asked
      ≡ (after_flight batch queries flight state).accepted
  accepted-left =
      same-made (accepted_as (after_flight batch queries flight state).lives (attached_to (after_flight batch queries flight state)))
      (λ entry. left_of state queries flight (accepted_as state.lives (attached_to state) entry)) asked one-left
      ∙ made-thrice (unkept queries) (fed_by state flight) (accepted_as state.lives (attached_to state)) asked
      ∙ ap (λ all. map (unkept queries) (map (fed_by state flight) all)) (sym same)

  -- and nothing is kept beside what is attached
  pub beside-left : All (IsNotBeside (after_flight batch queries flight state).lives (attached_to (after_flight batch queries flight state))) asked
  beside-left k d low =
      still-beside state batch flight queries sound fed later (accepted_as state.lives (attached_to state) (get_or asked k d))
      (among k d low) (get_or asked k d).kept (beside k d low)
