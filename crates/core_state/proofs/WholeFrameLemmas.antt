-- What an event leaves that no seat sees: all but the lives, the filters, the scan and what is kept of queries; and what it makes of lives and scan.
use Rattle.core_state.proofs.Words.{◌++◌, ◌-◌, ◌∙◌, ◌∷◌, ◌≡◌, ◌⊎◌, [], Abandon, Accepted, accepted_at, after_build_wants, after_distribute, after_spoil, All, All-nil, All-weaker, ap, Bool, Build, CanBuild, Carry, Clear, cond, Cut, Distribute, end_in, eqb, Event, extent_in, false, fed, Filter, Finish, first_in, first_of, flight_at, fold, forgotten, gets_rows, Give, HasAccepted, inl, inr, is_held_by, is_open, IsEnabled, IsFed, IsSomeAnd, Life, life_in, List, list_any, Lives, map, MaySpoil, None, Option, option_map, option_map_or, Pending, Query, refl, Release, Reserve, slot_of, Some, Start, started, State, Submit, subst, sym, tables_of, Take, true, unkept, versions_in, with_built, with_version, without_groups, ℕ}
use Rattle.std.proofs.Common.{find}
use Rattle.std.proofs.lemmas.List.Folds.{find-append}
use Rattle.std.specs.Option.{option_or}
use Rattle.pipeline_manager.specs.Changes.{after_built, after_cleared, after_cut, after_end, after_free, after_reserve, after_run}
use Rattle.pipeline_manager.specs.Sound.{AreRising}
use Rattle.pipeline_manager.specs.declared.life.Life.TheVariants as life
use Rattle.core_state.specs.Events.{LeavesSeats, after_event, after_want}
use Rattle.core_state.proofs.AnewLemmas.{KeepsAsked, by-change, forgets, found-anew, has-anew}
use Rattle.core_state.proofs.LandedLemmas.{feeds}
use Rattle.core_state.proofs.WholeLivesLemmas.{LivesOn, StaysOver, built-queries, lives-cut, lives-ended, lives-reserved, lives-same, lives-spoiled}
use Rattle.core_state.proofs.WholeLivesLemmas.{IsOpenOr, lives-then, lives-written, open-by, open-so, rising-named}

-- what is asked, by number, stays
abbrev pub StayAsked : List Accepted → List Accepted → Type 0
StayAsked old new = (number : ℕ) (query : Query) (snapshot : ℕ)
    → HasAccepted old number query snapshot → HasAccepted new number query snapshot

-- an accepted query without what is kept of it
abbrev pub bare : Accepted → Accepted
bare accepted = record accepted { groups = None }

-- what the outcome of a statement leaves beside its seat
pub record Leaves (old new : State) : Type 0 where
  pub settings : new.settings ≡ old.settings
  pub seats : new.seats ≡ old.seats
  pub number : new.numbers.statement ≡ old.numbers.statement
  pub scan : new.scan ≡ old.scan
  pub over : StaysOver old.lives.queries new.lives.queries
  pub asked : StayAsked old.accepted new.accepted

-- what events leave that no seat sees: the accepted queries are as they were but for what is kept of them, and each goes on
pub record Frame (old new : State) : Type 0 where
  pub settings : new.settings ≡ old.settings
  pub entries : new.entries ≡ old.entries
  pub seats : new.seats ≡ old.seats
  pub number : new.numbers.statement ≡ old.numbers.statement
  pub asked : map bare new.accepted ≡ map bare old.accepted
  pub lives : AreRising old.lives.queries → LivesOn old.lives.queries new.lives.queries

pub frame-all : (state : State) → Frame state state
frame-all state =
    record { settings = refl; entries = refl; seats = refl; number = refl; asked = refl; lives = λ rising. lives-same state.lives.queries }

-- one event after the other
pub frame-then : (old middle new : State) → Frame old middle → Frame middle new → Frame old new
frame-then old middle new first second = record {
  settings = second.settings ∙ first.settings;
  entries = second.entries ∙ first.entries;
  seats = second.seats ∙ first.seats;
  number = second.number ∙ first.number;
  asked = second.asked ∙ first.asked;
  lives = λ rising.
      let on = first.lives rising in
      lives-then old.lives.queries middle.lives.queries new.lives.queries on
      (second.lives (rising-named old.lives.queries middle.lives.queries on.same rising));
}

-- what is found is asked so
abbrev Asks : Query → (snapshot : ℕ) → Option Accepted → Type 0
Asks query snapshot found = IsSomeAnd found (λ a. (a.query ≡ query) × (a.snapshot ≡ snapshot))

-- one that is accepted behind the others
pub asked-behind : (accepted : List Accepted) (new : Accepted) → StayAsked accepted (accepted ++ new ∷ [])
asked-behind accepted new number query snapshot has =
    subst (Asks query snapshot) (sym (find-append (λ (a : Accepted). eqb a.number number) accepted (new ∷ []))) (by_found (accepted_at accepted number) has)
  where
    by_found : (o : Option Accepted) → Asks query snapshot o → Asks query snapshot (option_or o (find (λ (a : Accepted). eqb a.number number) (new ∷ [])))
    by_found None asks = absurd asks
    by_found (Some a) asks = asks

-- nothing is kept of those who found no memory
pub unkeeps : (spoiled : List ℕ) → KeepsAsked (unkept spoiled)
unkeeps spoiled accepted = by_test (list_any (λ number. eqb number accepted.number) spoiled)
  where
    by_test : (t : Bool) → (groups : _) × (cond {A = Accepted} t (record accepted { groups = None }) accepted ≡ record accepted { groups = groups })
    by_test true = (None, refl)
    by_test false = (accepted.groups, refl)

-- where other groups are kept, queries are bare as they were
pub bare-anew : (change : Accepted → Accepted) → KeepsAsked change → (accepted : List Accepted) → map bare (map change accepted) ≡ map bare accepted
bare-anew change keeps [] = refl
bare-anew change keeps (first ∷ accepted) =
    ap (λ a. a ∷ map bare (map change accepted)) (by-change (λ a. bare a ≡ bare first) change keeps first (λ groups. refl))
    ∙ ap (λ rest. bare first ∷ rest) (bare-anew change keeps accepted)

-- and where nothing is kept any more of queries whose replies were taken
pub bare-without : (pending : List Pending) (accepted : List Accepted) → map bare (without_groups pending accepted) ≡ map bare accepted
bare-without [] accepted = refl
bare-without (first ∷ pending) accepted =
    bare-without pending (map (forgotten first.statement) accepted) ∙ bare-anew (forgotten first.statement) (forgets first.statement) accepted

-- what is read of queries that are bare as they were, and not of what is kept, is as it was
pub read-bare : {A : Type 0} (read : Accepted → A) → ((accepted : Accepted) → read (bare accepted) ≡ read accepted) → (old new : List Accepted)
    → map bare new ≡ map bare old → map read new ≡ map read old
read-bare read same old new bares = sym (by_list new) ∙ ap (map read) bares ∙ by_list old
  where
    by_list : (list : List Accepted) → map read (map bare list) ≡ map read list
    by_list [] = refl
    by_list (first ∷ rest) = ap (λ a. a ∷ map read (map bare rest)) (same first) ∙ ap (λ reads. read first ∷ reads) (by_list rest)

-- and so is what is asked, by number
pub asked-bare : (old new : List Accepted) → map bare new ≡ map bare old → StayAsked old new
asked-bare old new same number query snapshot has =
    by_found (accepted_at new number) (subst (Asks query snapshot) (found-anew bare bares number new)
    (subst (λ list. HasAccepted list number query snapshot) (sym same) (has-anew bare bares old number query snapshot has)))
  where
    bares : KeepsAsked bare
    bares accepted = (None, refl)

    by_found : (o : Option Accepted) → Asks query snapshot (option_map bare o) → Asks query snapshot o
    by_found None asks = absurd asks
    by_found (Some a) asks = asks

-- what hangs on an option leaves, where it does by what is in it
pub by-option : {X : Type 0} (P : State → Type 0) (o : Option X) (f : X → State) (state : State) → P state → ((x : X) → o ≡ Some x → P (f x))
    → P (option_map_or f o state)
by-option P None f state none some = none
by-option P (Some x) f state none some = some x refl

-- what holds of a core and of one with the next version of a filter holds where a filter is built
pub by-built : (P : State → Type 0) (query dimension : ℕ) (state : State) → P state
    → ((change : Filter → Filter) → P (with_version dimension change state)) → P (with_built query dimension state)
by-built P query dimension state none some =
    by-option P (slot_of state.lives query) _ state none
    (λ slot is. by-option P (accepted_at state.accepted query) _ state none (λ accepted found. some _))

-- what an event makes of the lives and slots, where all find memory
abbrev pub lives_by : Event → State → Lives
lives_by (Reserve query slot) state = after_reserve slot state.lives
lives_by (Build query dimension) state = after_built query dimension state.lives
lives_by (Start query) state = after_run query (first_of state.scan.position (versions_in state)) state.lives
lives_by Cut state = after_cut (first_in state) (end_in state - 1) state.lives
lives_by (Finish slot) state = after_end slot state.lives
lives_by (Clear slot dimension) state = after_cleared slot dimension state.lives
lives_by (Release slot) state = after_free slot state.lives
lives_by other state = state.lives

-- some queries find no memory at an event
abbrev pub Spoils : Event → (old new : Lives) → Type 0
Spoils (Build query dimension) old new = new ≡ after_spoil query old
Spoils (Distribute batch) old new = (spoiled : List ℕ) × (new ≡ fold (λ now query. after_spoil query now) old spoiled)
Spoils other old new = ⊥

-- an event by which no batch is cut, in a hand, given back or distributed
abbrev pub IsStill : Event → Type 0
IsStill (Submit seat statement) = ⊥
IsStill Cut = ⊥
IsStill (Take worker batch) = ⊥
IsStill (Carry worker batch) = ⊥
IsStill (Give worker) = ⊥
IsStill (Distribute batch) = ⊥
IsStill (Abandon query) = ⊥
IsStill other = Unit {0}

-- what an event that leaves the seats makes of a core
pub record Makes (event : Event) (old new : State) : Type 0 where
  pub frame : Frame old new
  pub lives : (new.lives ≡ lives_by event old) ⊎ Spoils event old.lives new.lives
  pub scan : IsStill event → new.scan ≡ old.scan

-- the queries go on by an event
lives-event : (event : Event) (state : State) → IsEnabled state event → AreRising state.lives.queries
    → LivesOn state.lives.queries (lives_by event state).queries
lives-event (Reserve query slot) state may rising = lives-reserved slot state.lives rising
lives-event (Build query dimension) state may rising =
    subst (LivesOn state.lives.queries) (sym (built-queries query dimension state.lives)) (lives-same state.lives.queries)
lives-event (Start query) state may rising =
    let begun = started (first_of state.scan.position (versions_in state)) (extent_in state.lives.queries query) in
    lives-written query begun state.lives.queries (open-so (life_in state.lives.queries query) life.Building begun may.building refl)
lives-event Cut state may rising = lives-cut (first_in state) (end_in state - 1) state.lives.queries
lives-event (Finish slot) state may rising = lives-ended slot state.lives
lives-event other state may rising = lives-same state.lives.queries

-- an event that leaves all but lives, filters, scan and other numbers
makes-by : (event : Event) (state new : State) → IsEnabled state event → new.settings ≡ state.settings → new.entries ≡ state.entries
    → new.seats ≡ state.seats → new.numbers.statement ≡ state.numbers.statement → new.accepted ≡ state.accepted
    → new.lives ≡ lives_by event state → (IsStill event → new.scan ≡ state.scan) → Makes event state new
makes-by event state new may settings entries seats number accepted lives scan = record {
  frame = record {
    settings = settings;
    entries = entries;
    seats = seats;
    number = number;
    asked = ap (map bare) accepted;
    lives = λ rising. subst (λ (now : Lives). LivesOn state.lives.queries now.queries) (sym lives) (lives-event event state may rising);
  };
  lives = inl lives;
  scan = scan;
}

-- a batch that is distributed, at which these queries find no memory
pub makes-distributed : (batch : ℕ) (spoiled : List ℕ) (state : State) → All (λ query. IsFed batch query state) spoiled
    → Makes (Distribute batch) state (after_distribute batch spoiled state)
makes-distributed batch spoiled state each =
    by-option (Makes (Distribute batch) state) (flight_at state.scan.flights batch) _ state
    (record { frame = frame-all state; lives = inl refl; scan = λ still. absurd still })
    (λ flight is. record {
      frame = record {
        settings = refl;
        entries = refl;
        seats = refl;
        number = refl;
        asked = bare-anew (unkept spoiled) (unkeeps spoiled) (map (fed (tables_of state) state.lives flight.rows flight.roster) state.accepted)
            ∙ bare-anew (fed (tables_of state) state.lives flight.rows flight.roster) (feeds state flight) state.accepted;
        lives = λ rising. lives-spoiled spoiled state.lives
            (All-weaker (λ query. IsFed batch query state) MaySpoilHere
            (λ query is_fed. open-by gets_rows gets-open (life_in state.lives.queries query) life.Spoiled is_fed.gets) spoiled each);
      };
      lives = inr (spoiled, refl);
      scan = λ still. absurd still;
    })
  where
    MaySpoilHere : ℕ → Type 0
    MaySpoilHere query = IsOpenOr life.Spoiled (life_in state.lives.queries query)

    gets-open : (now : Life) → gets_rows now ≡ true → is_open now ≡ true
    gets-open (life.Running start left) gets = refl
    gets-open life.Ending gets = refl
    gets-open other gets = absurd (let both : false ≡ true = gets in cc)

-- a query that finds no memory as a filter is built for it
pub makes-unbuilt : (query dimension : ℕ) (state : State) → CanBuild query dimension state.lives
    → Makes (Build query dimension) state (after_build_wants query state)
makes-unbuilt query dimension state may = record {
  frame = record {
    settings = refl;
    entries = refl;
    seats = refl;
    number = refl;
    asked = bare-anew (forgotten query) (forgets query) state.accepted;
    lives = λ rising. lives-written query life.Spoiled state.lives.queries
        (open-so (life_in state.lives.queries query) life.Building life.Spoiled may.building refl);
  };
  lives = inr refl;
  scan = λ still. refl;
}

-- what each event makes for which there was memory
pub makes-done : (event : Event) (state : State) → LeavesSeats event → IsEnabled state event → Makes event state (after_event event state)
unfolding after_event
makes-done (Submit seat statement) state leaves may = absurd leaves
makes-done (Build query dimension) state leaves may =
    by-built (λ now. Makes (Build query dimension) state (record now { lives = after_built query dimension state.lives })) query dimension state
    (makes-by (Build query dimension) state _ may refl refl refl refl refl refl (λ still. refl))
    (λ filter. makes-by (Build query dimension) state _ may refl refl refl refl refl refl (λ still. refl))
makes-done Cut state leaves may = makes-by Cut state _ may refl refl refl refl refl refl (λ still. absurd still)
makes-done (Take worker batch) state leaves may =
    makes-by (Take worker batch) state _ may refl refl refl refl refl refl (λ still. absurd still)
makes-done (Carry worker batch) state leaves may =
    makes-by (Carry worker batch) state _ may refl refl refl refl refl refl (λ still. absurd still)
makes-done (Give worker) state leaves may =
    by-option (Makes (Give worker) state) (find (is_held_by worker) state.scan.flights) _ state
    (makes-by (Give worker) state state may refl refl refl refl refl refl (λ still. absurd still))
    (λ flight is. makes-by (Give worker) state _ may refl refl refl refl refl refl (λ still. absurd still))
makes-done (Distribute batch) state leaves may = makes-distributed batch [] state (All-nil (λ query. IsFed batch query state))
makes-done (Abandon query) state leaves may = absurd leaves
makes-done other state leaves may = makes-by other state _ may refl refl refl refl refl refl (λ still. refl)

-- what stays where memory is wanted
pub frame-want : (event : Event) (spoiled : List ℕ) (state : State) → IsEnabled state event → MaySpoil state event spoiled
    → Frame state (after_want event spoiled state)
unfolding after_want
frame-want (Build query dimension) spoiled state may can = (makes-unbuilt query dimension state may).frame
frame-want (Distribute batch) spoiled state may can = (makes-distributed batch spoiled state can.each).frame
frame-want other spoiled state may can = frame-all state
