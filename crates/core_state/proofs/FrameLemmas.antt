-- What stays sound of each part of a core where what it reads changes: one lemma a part.
use Rattle.core_state.proofs.Words.{◌++◌, ◌<◌, ◌↔◌, ◌∙◌, ◌∷◌, ◌≡◌, ◌≢◌, ◌≤◌, ◌⊎◌, [], Accepted, accepted_at, All, All-cons, All-contains, All-head, All-nil, All-tail, All-weaker, AllPairs, ap, AreSoundVersions, arith, Asked, Awaited, cases_eq, Contains, empty_seat, extent_in, Filter, Filters, FilterVersion, FitsSlot, flat_map, Flight, Free, get_or, get_or-set_other, get_or-set_same, Grouped, Hand, HasAccepted, IfSome, IfSome_then, inl, inr, is_open, IsAccountedFor, IsAwaited, IsCovered, IsKept, IsNext, IsOnRoster, IsPermutation, IsPresentByNumber, IsSoundAccepted, IsSoundBatch, IsSoundFilter, IsSoundQuery, IsSoundSeat, IsTaken, IsTrue, length, Life, life_in, List, Lives, map, MayBeOnRoster, None, none-some, Numbers, Option, Pending, positions_for, Query, query_in, QueryLife, range_with_len, Replied, same_Some, ScanState, Seat, set, slice_get, SlotState, Some, State, Store, subst, sym, tables_of, Taken, to_come, ℕ, ⊎_elim}
use Rattle.pipeline_manager.specs.declared.life.Life.TheVariants as life

-- the core with other lives of the same filters, other filters, another scan and other numbers
abbrev pub moved : State → List QueryLife → List SlotState → Filters → ScanState → Numbers → State
moved state queries slots filters scan numbers = record state {
  lives = record state.lives { queries = queries; slots = slots };
  filters = filters;
  scan = scan;
  numbers = numbers;
}

-- an element that is written over, and the others
pub at-set : {X : Type 0} (P : X → Type 0) (xs : List X) (place at : ℕ) (new d : X) → at < length xs
    → (at ≡ place → P new) → (at ≢ place → P (get_or xs at d)) → P (get_or (set xs place new) at d)
at-set P xs place at new d low here others = ⊎_elim
    (λ is. subst P (sym (ap (λ n. get_or (set xs place new) n d) is ∙ get_or-set_same xs place new d (subst (λ n. n < length xs) is low))) (here is))
    (λ apart. subst P (sym (get_or-set_other xs place at new d apart)) (others apart))
    (cases_eq at place)

-- batches stay sound where their rosters do
pub batches-with : (words : ℕ) (store : Store) (lives : Lives) (queries : List QueryLife) (slots : List SlotState) (accepted others : List Accepted)
    (flights : List Flight) → All (λ flight. All (IsOnRoster (record lives { queries = queries; slots = slots }) others) flight.roster) flights
    → All (IsSoundBatch words store lives accepted) flights
    → All (IsSoundBatch words store (record lives { queries = queries; slots = slots }) others) flights
batches-with words store lives queries slots accepted others flights rosters old = λ k d low.
    let sound = old k d low in
    record {
      within = sound.within;
      bits = sound.bits;
      keys = sound.keys;
      room = sound.room;
      roster = rosters k d low;
      slots = sound.slots;
      rows = sound.rows;
    }

-- a filter stays sound where it still has what each slot asks for
pub filter-with : (accepted others : List Accepted) (store : Store) (slots holders : List SlotState) (filters : ℕ) (filter : Filter)
    → length holders ≡ length slots
    → ((slot : ℕ) → slot < length slots → FitsSlot accepted store filter slot (get_or slots slot Free)
    → FitsSlot others store filter slot (get_or holders slot Free))
    → IsSoundFilter accepted store slots filters filter → IsSoundFilter others store holders filters filter
filter-with accepted others store slots holders filters filter count fits old = record {
  table = old.table;
  ascending = old.ascending;
  is_filter = old.is_filter;
  slots = λ slot there. let low : slot < length slots = omega arith in fits slot low (old.slots slot low);
  beyond = λ slot past. old.beyond slot (omega arith);
  within = old.within;
}

-- what seats took they have taken in other seats, too
abbrev pub StayTaken : List Seat → (now : List Seat) → Type 0
StayTaken seats now = (seat number : ℕ) → Contains (map (λ taken. taken.statement) (get_or seats seat empty_seat).taken) number
    → Contains (map (λ taken. taken.statement) (get_or now seat empty_seat).taken) number

covered-with : (store : Store) (scan next : ScanState) (accepted : Accepted) (extent : ℕ) (now : Life)
    → flat_map (positions_for accepted.number extent) next.flights ≡ flat_map (positions_for accepted.number extent) scan.flights
    → next.position ≡ scan.position → IsCovered store scan accepted extent now → IsCovered store next accepted extent now
covered-with store scan next accepted extent now same stands old = record {
  folded = old.folded;
  each_once = subst (λ positions. IsPermutation (old.folded ++ positions ++ to_come extent now) (range_with_len 0 extent)) (sym same) old.each_once;
  next = subst (λ position. IsNext position extent now) (sym stands) old.next;
  groups = old.groups;
}

-- what is kept does not change where the same positions are in flight, the scan stands where it stood, and what was taken stays
pub kept-with : (store : Store) (seats others : List Seat) (scan next : ScanState) → StayTaken seats others
    → (accepted : Accepted) (extent : ℕ) (now : Life)
    → flat_map (positions_for accepted.number extent) next.flights ≡ flat_map (positions_for accepted.number extent) scan.flights
    → next.position ≡ scan.position → IsKept store seats scan accepted extent now → IsKept store others next accepted extent now
kept-with store seats others scan next stay accepted extent (life.Running start left) same stands old =
    covered-with store scan next accepted extent (life.Running start left) same stands old
kept-with store seats others scan next stay accepted extent life.Ending same stands old =
    covered-with store scan next accepted extent life.Ending same stands old
kept-with store seats others scan next stay accepted extent life.Answered same stands old =
    ⊎_elim (λ gone. inl (gone.0, stay accepted.seat accepted.number gone.1)) (λ answer. inr answer) old
kept-with store seats others scan next stay accepted extent other same stands old = old

-- what is asked of an accepted query, with what is given of it, by its life
abbrev pub LivesAs : Store → List Seat → ScanState → Accepted → (given : Accepted) → QueryLife → Type 0
LivesAs store seats scan accepted given entry =
    IsKept store seats scan given entry.extent entry.life × (IsTrue (is_open entry.life)
    → (position : ℕ) → IfSome (slice_get store.versions position)
    (λ version. (version.begin ≤ accepted.snapshot) ↔ (position < entry.extent)))
    × (entry.extent ≤ length store.versions)

-- a sound one has it
pub lives-as : (state : State) (accepted : Accepted) → IsSoundQuery state accepted → (entry : QueryLife)
    → query_in state.lives.queries accepted.number ≡ Some entry
    → LivesAs (tables_of state) state.seats state.scan accepted accepted entry
lives-as state accepted sound entry found =
    by_entry (query_in state.lives.queries accepted.number) found sound.kept sound.extent sound.within
  where
    by_entry : (o : Option QueryLife) → o ≡ Some entry
        → IfSome o (λ e. IsKept (tables_of state) state.seats state.scan accepted e.extent e.life)
        → IfSome o (λ e. IsTrue (is_open e.life) → (position : ℕ) → IfSome (slice_get (tables_of state).versions position)
        (λ version. (version.begin ≤ accepted.snapshot) ↔ (position < e.extent)))
        → IfSome o (λ e. e.extent ≤ length (tables_of state).versions)
        → LivesAs (tables_of state) state.seats state.scan accepted accepted entry
    by_entry None is kept extent within = absurd (none-some entry is)
    by_entry (Some e) is kept extent within =
        subst (LivesAs (tables_of state) state.seats state.scan accepted accepted) (same_Some e entry is) (kept, extent, within)

-- an accepted query is sound with other groups where its life says so
pub query-with : (last later : ℕ) (store : Store) (queries others : List QueryLife) (seats now : List Seat) (scan next : ScanState) (accepted : Accepted)
    (groups : Option Grouped) → last ≤ later
    → IfSome (query_in others accepted.number) (LivesAs store now next accepted (record accepted { groups = groups }))
    → IsSoundAccepted last store queries seats scan accepted
    → IsSoundAccepted later store others now next (record accepted { groups = groups })
query-with last later store queries others seats now scan next accepted groups above lives old = record {
  number = let low = old.number in omega arith;
  over = old.over;
  snapshot = old.snapshot;
  within = IfSome_then (query_in others accepted.number) lives (λ entry all. all.2);
  kept = IfSome_then (query_in others accepted.number) lives (λ entry all. all.0);
  extent = IfSome_then (query_in others accepted.number) lives (λ entry all. all.1);
}

-- a query that is waited for
abbrev pub Wanted : Life → Type 0
Wanted now = now ≢ life.Abandoned

-- a query whose reply may have been taken
abbrev pub Told : Life → Type 0
Told now = (now ≡ life.Answered) ⊎ (now ≡ life.Spoiled)

-- who may be on a roster may still be there, with its extent
abbrev pub StaysOnRoster : (queries next : List QueryLife) → (number : ℕ) → Type 0
StaysOnRoster queries next number =
    (IfSome (life_in queries number) MayBeOnRoster → IfSome (life_in next number) MayBeOnRoster) × (extent_in next number ≡ extent_in queries number)

-- versions stay sound where the batches in flight are in no hands but those that they were in
pub versions-with : (last : ℕ) (versions : List FilterVersion) (flights others : List Flight)
    → ((P : Hand → Type 0) → All (λ flight. IfSome flight.hand P) flights → All (λ flight. IfSome flight.hand P) others)
    → AreSoundVersions last versions flights → AreSoundVersions last versions others
versions-with last versions flights others keep old = record {
  given = old.given;
  held = λ more. keep (λ hand. All (λ version. version.number ≤ last) hand.versions) (old.held more);
  present = keep (λ hand. All (IsPresentByNumber versions) hand.versions) old.present;
}

-- what is asked and told of a number stays so
pub record StaysAsked (accepted others : List Accepted) (queries next : List QueryLife) (number : ℕ) : Type 0 where
  pub none : accepted_at accepted number ≡ None → accepted_at others number ≡ None
  pub has : (query : Query) (snapshot : ℕ) → HasAccepted accepted number query snapshot → HasAccepted others number query snapshot
  pub told : IfSome (life_in queries number) Told → IfSome (life_in next number) Told
  pub lost : life_in queries number ≡ Some life.Abandoned → life_in next number ≡ Some life.Abandoned

-- what holds of all that was taken and is waited for holds of what is waited for, and of what was taken
pub awaited-there : (P : ℕ → Type 0) (front : List ℕ) (pending : List Pending) → All P (front ++ map (λ p. p.statement) pending)
    → All (λ p. P p.statement) pending
awaited-there P [] [] all = All-nil (λ p. P p.statement)
awaited-there P [] (first ∷ pending) all =
    All-cons (λ p. P p.statement) first pending (All-head P first.statement (map (λ p. p.statement) pending) all)
    (awaited-there P [] pending (All-tail P first.statement (map (λ p. p.statement) pending) all))
awaited-there P (x ∷ front) pending all = awaited-there P front pending (All-tail P x (front ++ map (λ p. p.statement) pending) all)

taken-there : (P : ℕ → Type 0) (taken : List Taken) (rest : List ℕ) → All P (map (λ t. t.statement) taken ++ rest) → All (λ t. P t.statement) taken
taken-there P [] rest all = All-nil (λ (t : Taken). P t.statement)
taken-there P (first ∷ taken) rest all =
    All-cons (λ (t : Taken). P t.statement) first taken (All-head P first.statement (map (λ t. t.statement) taken ++ rest) all)
    (taken-there P taken rest (All-tail P first.statement (map (λ t. t.statement) taken ++ rest) all))

-- the numbers that a seat took and waits for
abbrev pub numbers_of : Seat → List ℕ
numbers_of seat = map (λ taken. taken.statement) seat.taken ++ map (λ pending. pending.statement) seat.pending

-- a seat that waits for these stays sound where what was asked by its numbers stays so, what it waits for is wanted, and nothing is lost
pub seat-waits : (last later : ℕ) (accepted others : List Accepted) (queries next : List QueryLife) (seat : Seat) (waits : List Pending) → last ≤ later
    → ((number : ℕ) → number ≤ last → StaysAsked accepted others queries next number)
    → AllPairs (λ statement later. statement < later) (numbers_of (record seat { pending = waits }))
    → All (Contains seat.submitted) (numbers_of (record seat { pending = waits }))
    → All (λ pending. IsAwaited accepted queries pending.statement pending.awaited) waits
    → All (λ pending. pending.statement ≤ last → IfSome (life_in queries pending.statement) Wanted → IfSome (life_in next pending.statement) Wanted) waits
    → All (IsAccountedFor next (record seat { pending = waits })) seat.submitted
    → IsSoundSeat last accepted queries seat → IsSoundSeat later others next (record seat { pending = waits })
seat-waits last later accepted others queries next seat waits above stays in_order submitted awaited wanted whole old = record {
  rising = old.rising;
  given = All-weaker (λ s. s ≤ last) (λ s. s ≤ later) (λ s low. omega arith) seat.submitted old.given;
  in_order = in_order;
  submitted = submitted;
  taken = λ k d inside. let taken = get_or seat.taken k d in
      by_told taken.statement
      (taken-there (λ n. n ≤ last) seat.taken (map (λ pending. pending.statement) waits) low k d inside)
      taken.told (old.taken k d inside);
  awaited = λ k d inside. let pending = get_or waits k d in
      let given = awaited-there (λ n. n ≤ last) (map (λ taken. taken.statement) seat.taken) waits low k d inside in
      by_awaited pending.statement given pending.awaited (wanted k d inside given) (awaited k d inside);
  whole = whole;
}
  where
    low : All (λ n. n ≤ last) (numbers_of (record seat { pending = waits }))
    low = All-weaker (Contains seat.submitted) (λ n. n ≤ last) (λ n has. All-contains (λ s. s ≤ last) seat.submitted n old.given has)
        (numbers_of (record seat { pending = waits })) submitted

    by_told : (statement : ℕ) → statement ≤ last → (told : Awaited) → IsTaken accepted queries statement told
        → IsTaken others next statement told
    by_told statement given (Replied reply) is = let so = stays statement given in so.none is
    by_told statement given (Asked query snapshot) is =
        let so = stays statement given in (so.has query snapshot is.0, so.told is.1)

    by_awaited : (statement : ℕ) → statement ≤ last → (awaited : Awaited)
        → (IfSome (life_in queries statement) Wanted → IfSome (life_in next statement) Wanted)
        → IsAwaited accepted queries statement awaited → IsAwaited others next statement awaited
    by_awaited statement given (Replied reply) wants is = let so = stays statement given in so.none is
    by_awaited statement given (Asked query snapshot) wants is = let so = stays statement given in (so.has query snapshot is.0, wants is.1)

-- a seat stays sound where what was asked by its numbers stays so, and what it waits for is wanted
pub seat-lasts : (last later : ℕ) (accepted others : List Accepted) (queries next : List QueryLife) (seat : Seat) → last ≤ later
    → ((number : ℕ) → number ≤ last → StaysAsked accepted others queries next number)
    → All (λ pending. pending.statement ≤ last → IfSome (life_in queries pending.statement) Wanted → IfSome (life_in next pending.statement) Wanted) seat.pending
    → IsSoundSeat last accepted queries seat → IsSoundSeat later others next seat
seat-lasts last later accepted others queries next seat above stays wanted old =
    seat-waits last later accepted others queries next seat seat.pending above stays old.in_order old.submitted old.awaited wanted
    (λ k d low. let number = get_or seat.submitted k d in
    ⊎_elim (λ taken. inl taken) (λ other. inr (⊎_elim (λ waits. inl waits)
    (λ lost. let so = stays number (old.given k d low) in inr (so.lost lost)) other)) (old.whole k d low)) old
