-- A slot that is taken from its query keeps a core sound.
use Rattle.core_state.proofs.Words.{◌++◌, ◌<◌, ◌||◌, ◌↔◌, ◌∙◌, ◌∷◌, ◌≡◌, ◌≢◌, ◌≤◌, [], Accepted, after_finish, All, All-cons, All-contains, All-nil, ap, append-nil, AreSoundQueries, Bool, Clearing, cond, covered, eq-eqb, eqb, extent_in, false, FitsSlot, flat_map, Flight, Free, get_or, gets_rows, given_up, Has, Held, IfSome, inr, is_ending, is_on_roster, IsKept, IsOnRoster, IsPermutation, IsSound, IsTrue, kept_at, length, length-set, Life, life_in, life_in-other, List, list_any, MayBeOnRoster, MayFinish, None, Option, option_map_or, positions_for, QueryLife, range_with_len, refl, set, slice_get, slot_at, SlotState, Some, State, subst, sym, tables_of, true, versions_in, with_life, ℕ, ⊎_elim}
use Rattle.std.proofs.Common.{find}
use Rattle.pipeline_manager.specs.Conditions.{IsHolderOver}
use Rattle.pipeline_manager.specs.Sound as managed
use Rattle.pipeline_manager.specs.declared.life.Life.TheVariants as life
use Rattle.pipeline_manager.proofs.EndLemmas.{sound-ended}
use Rattle.core_state.proofs.FoundLemmas.{extents-written}
use Rattle.core_state.proofs.FrameLemmas.{at-set}
use Rattle.core_state.proofs.HandedSlotLemmas.{one-slot}
use Rattle.core_state.proofs.HeldLemmas.{entry-set, filters-held, fits-set, slot-there}
use Rattle.core_state.proofs.MovedLemmas.{Holds, StaysWanted, held_now, sound-held}
use Rattle.core_state.proofs.RowsLemmas.{whole-extent}
use Rattle.core_state.proofs.StartLemmas.{none-in-flight, on-none}
use Rattle.core_state.proofs.WrittenLemmas.{queries-written, wanted-written}

-- where no element passes, each does not
pub none-passes : {X : Type 0} (p : X → Bool) (xs : List X) → list_any p xs ≡ false → All (λ x. p x ≡ false) xs
none-passes p [] none = All-nil (λ x. p x ≡ false)
none-passes {X = X} p (x ∷ xs) none = by_test (p x) refl none (none-passes p xs)
  where
    by_test : (t : Bool) → p x ≡ t → (t || list_any p xs) ≡ false → (list_any p xs ≡ false → All (λ y. p y ≡ false) xs) → All (λ y. p y ≡ false) (x ∷ xs)
    by_test true is e rest = absurd (let both : true ≡ false = e in cc)
    by_test false is e rest = All-cons (λ y. p y ≡ false) x xs is (rest e)

-- a slot that is on no roster is not that of an entry
apart-landed : (slot : ℕ) (flight : Flight) → is_on_roster slot flight ≡ false → All (λ entry. entry.slot ≢ slot) flight.roster
apart-landed slot flight landed = λ k d low same.
    let none = none-passes (λ entry. eqb entry.slot slot) flight.roster landed k d low in
    let both : true ≡ false = sym (eq-eqb (get_or flight.roster k d).slot slot same) ∙ none in cc

-- the query of a slot that is on no roster is on none
none-landed : (slot query built : ℕ) (state : State) → IsSound state → slot < length state.lives.slots → slot_at state.lives slot ≡ Held query built
    → All (λ flight. is_on_roster slot flight ≡ false) state.scan.flights
    → All (λ flight. find (λ entry. eqb entry.number query) flight.roster ≡ None) state.scan.flights
none-landed slot query built state sound there holds landed = λ k d low.
    let flight : Flight = get_or state.scan.flights k d in
    on-none query flight.roster (λ entry among same.
    let on = All-contains (IsOnRoster state.lives state.accepted) flight.roster entry (sound.batches k d low).roster among in
    All-contains (λ e. e.slot ≢ slot) flight.roster entry (apart-landed slot flight (landed k d low)) among
    (one-slot state.lives sound.slots.lives entry.slot slot query on.held.0 built (on.held.1 ∙ ap (λ n. Held n on.held.0) same) holds))

-- an ended query has what its rows give
kept-finished : (slot query built : ℕ) (state : State) → IsSound state → slot < length state.lives.slots → slot_at state.lives slot ≡ Held query built
    → All (λ flight. is_on_roster slot flight ≡ false) state.scan.flights
    → (accepted : Accepted) (extent : ℕ) → accepted.number ≡ query → extent ≤ versions_in state
    → ((position : ℕ) → IfSome (slice_get (tables_of state).versions position) (λ version. (version.begin ≤ accepted.snapshot) ↔ (position < extent)))
    → IsKept (tables_of state) state.seats state.scan accepted extent life.Ending → IsKept (tables_of state) state.seats state.scan accepted extent life.Answered
kept-finished slot query built state sound there holds landed accepted extent same within came covered =
    let none : flat_map (positions_for accepted.number extent) state.scan.flights ≡ [] =
    none-in-flight accepted.number extent state.scan.flights
    (subst (λ n. All (λ flight. find (λ entry. eqb entry.number n) flight.roster ≡ None) state.scan.flights) (sym same)
    (none-landed slot query built state sound there holds landed)) in
    let all : IsPermutation covered.folded (range_with_len 0 extent) =
    subst (λ positions. IsPermutation positions (range_with_len 0 extent)) (append-nil covered.folded)
    (subst (λ positions. IsPermutation positions (range_with_len 0 extent)) (append-nil (covered.folded ++ []))
    (subst (λ positions. IsPermutation (covered.folded ++ positions ++ []) (range_with_len 0 extent)) none covered.each_once)) in
    inr (record {
      rows = kept_at (tables_of state) accepted.query accepted.snapshot covered.folded;
      all = whole-extent (tables_of state) accepted.query accepted.snapshot extent within came covered.folded all;
      groups = covered.groups;
    })

sound-given_up : (slot query built : ℕ) (state : State) (queries : List QueryLife) → slot < length state.lives.slots
    → slot_at state.lives slot ≡ Held query built → All (λ flight. is_on_roster slot flight ≡ false) state.scan.flights
    → managed.AreSoundLives (record state.lives { queries = queries; slots = set state.lives.slots slot (Clearing built) })
    → AreSoundQueries (held_now state queries (set state.lives.slots slot (Clearing built)) state.filters state.numbers.version)
    → StaysWanted state queries
    → ((other : ℕ) → other ≢ query → life_in queries other ≡ life_in state.lives.queries other)
    → ((other : ℕ) → extent_in queries other ≡ extent_in state.lives.queries other)
    → IsSound state
    → IsSound (held_now state queries (set state.lives.slots slot (Clearing built)) state.filters state.numbers.version)
sound-given_up slot query built state queries there holds landed lives_now queries_now wanted others extents sound =
    let slots = set state.lives.slots slot (Clearing built) in
    let now : Holds state queries slots state.filters state.numbers.version = record {
      filters_now = filters-held state queries slots state.numbers.version state.filters.order (length-set state.lives.slots slot (Clearing built))
          (λ filter of_filter other low fits. fits-set state slot (Clearing built) filter other
          (subst (FitsSlot state.accepted (tables_of state) filter slot) holds (of_filter.slots slot there)).1 low fits) sound.filters;
      rosters = λ k d low j e within.
          let flight = get_or state.scan.flights k d in
          let entry = get_or flight.roster j e in
          let on = (sound.batches k d low).roster j e within in
          let apart : entry.slot ≢ slot = apart-landed slot flight (landed k d low) j e within in
          entry-set state queries slot (Clearing built) entry apart (
            subst (λ o. IfSome o MayBeOnRoster) (sym (others entry.number (λ same. apart
                (one-slot state.lives sound.slots.lives entry.slot slot query on.held.0 built (on.held.1 ∙ ap (λ n. Held n on.held.0) same) holds)))),
            extents entry.number,
          ) on;
      queries_now = queries_now;
      slots_now = record {
        lives = lives_now;
        count = length-set state.lives.slots slot (Clearing built) ∙ sound.slots.count;
        built = λ other holder more low held.
            let inside : other < length state.lives.slots = subst (λ n. other < n) (length-set state.lives.slots slot (Clearing built)) low in
            at-set (λ s. s ≡ Held holder more → IfSome (life_in queries holder)
            (λ now. IsTrue (gets_rows now) → (dimension : ℕ) → Has state.lives.filters dimension → Has more dimension))
            state.lives.slots slot other (Clearing built) Free inside (λ same is. cc)
            (λ apart is. subst (λ o. IfSome o (λ now. IsTrue (gets_rows now) → (dimension : ℕ) → Has state.lives.filters dimension → Has more dimension))
            (sym (others holder (λ same. apart (one-slot state.lives sound.slots.lives other slot query more built (is ∙ ap (λ n. Held n more) same) holds))))
            (sound.slots.built other holder more inside is)) held;
      };
      quiet = λ none.
          let free : slot_at state.lives slot ≡ Free = (sound.quiet none).2 slot Free there in
          let both : Held query built ≡ Free = sym holds ∙ free in cc;
      versions = sound.numbers.versions;
      unnumbered = sound.numbers.unnumbered;
      order = sound.order;
      wanted = wanted;
    } in
    sound-held state queries slots state.filters state.numbers.version now sound

ending-life : (o : Option Life) → option_map_or is_ending o false ≡ true → o ≡ Some life.Ending
ending-life (Some life.Ending) e = refl
ending-life other e = cc

sound-by_state : (slot : ℕ) (state : State) → MayFinish slot state → IsSound state → (holder : SlotState) → slot_at state.lives slot ≡ holder
    → IsHolderOver holder state.lives → IsSound (record state { lives = given_up slot holder state.lives })
sound-by_state slot state can sound Free holds over = absurd over
sound-by_state slot state can sound (Clearing left) holds over = absurd over
sound-by_state slot state can sound (Held query built) holds over =
    by_test (option_map_or is_ending (life_in state.lives.queries query) false) refl
  where
    there : slot < length state.lives.slots
    there = slot-there state.lives.slots slot (λ is. let both : Held query built ≡ Free = sym holds ∙ is in cc)

    ended : managed.AreSoundLives (given_up slot (Held query built) state.lives)
    ended = sound-ended slot query built state.lives there holds over sound.slots.lives

    queries_of : Bool → List QueryLife
    queries_of t = cond {A = List QueryLife} t (with_life query life.Answered state.lives.queries) state.lives.queries

    slots : List SlotState
    slots = set state.lives.slots slot (Clearing built)

    by_test : (t : Bool) → option_map_or is_ending (life_in state.lives.queries query) false ≡ t
        → IsSound (record state { lives = record state.lives { queries = queries_of t; slots = slots } })
    by_test true is =
        let was : life_in state.lives.queries query ≡ Some life.Ending = ending-life (life_in state.lives.queries query) is in
        sound-given_up slot query built state (with_life query life.Answered state.lives.queries) there holds can.landed
        (subst (λ t. managed.AreSoundLives (record state.lives { queries = queries_of t; slots = slots })) is ended)
        (queries-written state query life.Ending life.Answered slots state.filters state.numbers.version was
        (λ accepted extent same found was.
        kept-finished slot query built state sound there holds can.landed accepted extent same was.2 (was.1 refl) was.0)
        (λ wanted. refl) sound.queries)
        (wanted-written state query life.Ending life.Answered was (λ e. cc) (λ e. cc) (λ h. ⊎_elim (λ e. cc) (λ e. cc) h))
        (λ other apart. life_in-other state.lives.queries query other life.Answered apart) (extents-written query life.Answered state.lives.queries) sound
    by_test false is =
        sound-given_up slot query built state state.lives.queries there holds can.landed
        (subst (λ t. managed.AreSoundLives (record state.lives { queries = queries_of t; slots = slots })) is ended)
        (record { same = sound.queries.same; each = sound.queries.each }) (λ number. (λ h. h, λ h. h, λ h. h)) (λ other apart. refl)
        (λ other. refl) sound

pub sound-finished : (slot : ℕ) (state : State) → MayFinish slot state → IsSound state → IsSound (after_finish slot state)
sound-finished slot state can sound = sound-by_state slot state can sound (slot_at state.lives slot) refl can.over
