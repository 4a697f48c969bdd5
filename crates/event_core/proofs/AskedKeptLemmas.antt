-- Accepted queries of the parts and of the state that they stand for, and what is kept of them.
use Rattle.event_core.proofs.Words.{◌<◌, ◌∙◌, ◌∷◌, ◌≡◌, ◌≢◌, [], Accepted, accepted_as, accepted_at, accepted_in, All, All-cons, All-head, All-map, All-nil, All-tail, ap, AreAskedRising, arith, asked_at, AskedQuery, attached_for, attached_or, Bool, cases_eq, cond, CoreParts, eq-eqb, eqb, eqb-true, false, find-passes, forgotten, get_or, get_or-map, Grouped, IsCore, IsSome, length, List, Lives, map, ne_eqb, None, Option, option_map, query_of, QueryLife, refl, Some, subst, suc, sym, true, with_kept, with_kept_at, ℕ, ⊎_elim}
use Rattle.std.proofs.Math.ListN as lists
use Rattle.pipeline_manager.specs.Sound as managed
use Rattle.pipeline_manager.specs.declared.life.Life.TheVariants as life

-- a query is found by its number as in the parts
pub accepted-found : (lives : Lives) (attached : List (Option Grouped)) (asked : List AskedQuery) (query : ℕ)
    → accepted_at (accepted_in lives attached asked) query ≡ option_map (accepted_as lives attached) (asked_at asked query)
accepted-found lives attached [] query = refl
accepted-found lives attached (first ∷ asked) query = by_test (eqb first.number query) (accepted-found lives attached asked query)
  where
    by_test : (t : Bool)
        → accepted_at (accepted_in lives attached asked) query ≡ option_map (accepted_as lives attached) (asked_at asked query)
        → cond {A = Option Accepted} t (Some (accepted_as lives attached first)) (accepted_at (accepted_in lives attached asked) query)
        ≡ option_map (accepted_as lives attached) (cond {A = Option AskedQuery} t (Some first) (asked_at asked query))
    by_test true rest = refl
    by_test false rest = rest

-- the query that is found
pub accepted-of : (lives : Lives) (attached : List (Option Grouped)) (asked : List AskedQuery) (query : ℕ) (entry : AskedQuery)
    → asked_at asked query ≡ Some entry → accepted_at (accepted_in lives attached asked) query ≡ Some (accepted_as lives attached entry)
accepted-of lives attached asked query entry found =
    accepted-found lives attached asked query ∙ ap (option_map (accepted_as lives attached)) found

-- a query of the state is one of the parts
pub asked-there : (lives : Lives) (attached : List (Option Grouped)) (asked : List AskedQuery) (query : ℕ)
    → IsSome (accepted_at (accepted_in lives attached asked) query) → IsSome (asked_at asked query)
asked-there lives attached asked query there =
    by_found (asked_at asked query) (subst (λ o. IsSome o) (accepted-found lives attached asked query) there)
  where
    by_found : (o : Option AskedQuery) → IsSome (option_map (accepted_as lives attached) o) → IsSome o
    by_found None is = is
    by_found (Some entry) is = refl

-- what is found by a number has it
pub asked-number : (asked : List AskedQuery) (query : ℕ) (entry : AskedQuery) → asked_at asked query ≡ Some entry → entry.number ≡ query
asked-number asked query entry found =
    eqb-true entry.number query (find-passes (λ (e : AskedQuery). eqb e.number query) asked entry found)

-- the numbers are those of the state
numbers-seen : (lives : Lives) (attached : List (Option Grouped)) (asked : List AskedQuery)
    → map (λ (entry : Accepted). entry.number) (accepted_in lives attached asked) ≡ map (λ (entry : AskedQuery). entry.number) asked
numbers-seen lives attached [] = refl
numbers-seen lives attached (first ∷ asked) = ap (λ rest. first.number ∷ rest) (numbers-seen lives attached asked)

-- the numbers of lives rise, and so do those of queries that have the same
numbers-rise : (queries : List QueryLife) (asked : List AskedQuery) → managed.AreRising queries
    → map (λ (entry : AskedQuery). entry.number) asked ≡ map (λ (entry : QueryLife). entry.query) queries → AreAskedRising asked
numbers-rise queries asked rising same j k d low within =
    let many : length asked ≡ length queries =
    sym (lists.length-map asked number_of) ∙ ap length same ∙ lists.length-map queries query_of_life in
    let inside : k < length queries = omega arith in
    let earlier : j < length queries = omega arith in
    let first : (get_or asked j d).number ≡ (get_or queries j none).query = at j earlier in
    let second : (get_or asked k d).number ≡ (get_or queries k none).query = at k inside in
    let less : (get_or queries j none).query < (get_or queries k none).query = rising j k none low inside in
    omega arith
  where
    number_of : AskedQuery → ℕ
    number_of entry = entry.number

    query_of_life : QueryLife → ℕ
    query_of_life entry = entry.query

    none : QueryLife
    none = record { query = 0; extent = 0; life = life.Waiting }

    at : (place : ℕ) → place < length queries → (get_or asked place d).number ≡ (get_or queries place none).query
    at place there =
        sym (lists.get_or-map number_of asked place d) ∙ ap (λ numbers. get_or numbers place d.number) same
        ∙ get_or-map query_of_life queries place none d.number there

-- the numbers of accepted queries rise
pub asked-rise : (parts : CoreParts) → IsCore parts → AreAskedRising parts.asked
asked-rise parts core =
    numbers-rise parts.lives.queries parts.asked core.sound.slots.lives.rising
    (sym (numbers-seen parts.lives parts.attached parts.asked) ∙ core.sound.queries.same)

-- where numbers rise, a number is that of one query alone
pub found-alone : (asked : List AskedQuery) (query : ℕ) (entry : AskedQuery) → AreAskedRising asked → asked_at asked query ≡ Some entry
    → All (λ other. other.number ≡ query → other ≡ entry) asked
found-alone [] query entry rising found = All-nil (λ (other : AskedQuery). other.number ≡ query → other ≡ entry)
found-alone (first ∷ asked) query entry rising found =
    by_test (eqb first.number query) refl found
    (found-alone asked query entry (λ j k d low within. rising (suc j) (suc k) d (omega arith) (omega arith)))
  where
    Alone : AskedQuery → Type 0
    Alone other = other.number ≡ query → other ≡ entry

    by_test : (t : Bool) → eqb first.number query ≡ t → cond {A = Option AskedQuery} t (Some first) (asked_at asked query) ≡ Some entry
        → (asked_at asked query ≡ Some entry → All Alone asked) → All Alone (first ∷ asked)
    by_test true is e rest =
        let here : first.number ≡ query = eqb-true first.number query is in
        All-cons Alone first asked (λ same. cc) (λ k d low same.
        let above : first.number < (get_or asked k d).number = rising 0 (suc k) d (omega arith) (omega arith) in
        absurd (omega arith))
    by_test false is e rest =
        All-cons Alone first asked (λ same. absurd (let both : true ≡ false = sym (eq-eqb first.number query same) ∙ is in cc)) (rest e)

-- an accepted query with these groups
abbrev pub with_groups : AskedQuery → Option Grouped → Accepted
with_groups entry groups = record {
  number = entry.number;
  seat = entry.seat;
  query = query_of entry.query;
  snapshot = entry.snapshot;
  groups = groups;
}

-- what is kept beside a query that may have another number
abbrev pub kept_by : (query : ℕ) → (kept : Option Grouped) → AskedQuery → Option Grouped
kept_by query kept entry = cond {A = Option Grouped} (eqb entry.number query) kept entry.kept

-- a query of which this is kept, as the state has it
seen-kept : (lives : Lives) (attached : List (Option Grouped)) (query : ℕ) (kept : Option Grouped) (entry : AskedQuery)
    → accepted_as lives attached (with_kept query kept entry)
    ≡ with_groups entry (attached_or (attached_for lives attached entry.number) (kept_by query kept entry))
seen-kept lives attached query kept entry = by_test (eqb entry.number query)
  where
    by_test : (t : Bool) → accepted_as lives attached (cond {A = AskedQuery} t (record entry { kept = kept }) entry)
        ≡ with_groups entry (attached_or (attached_for lives attached entry.number) (cond {A = Option Grouped} t kept entry.kept))
    by_test true = refl
    by_test false = refl

-- the same groups of a query before and after
abbrev pub StaysGrouped : (lives other : Lives) → (attached others : List (Option Grouped)) → (query : ℕ) → (kept : Option Grouped)
    → AskedQuery → Type 0
StaysGrouped lives other attached others query kept entry =
    attached_or (attached_for other others entry.number) (kept_by query kept entry)
    ≡ attached_or (attached_for lives attached entry.number) entry.kept

-- accepted queries stay where the groups of each do
pub accepted-kept : (lives other : Lives) (attached others : List (Option Grouped)) (query : ℕ) (kept : Option Grouped) (asked : List AskedQuery)
    → All (StaysGrouped lives other attached others query kept) asked
    → accepted_in other others (with_kept_at query kept asked) ≡ accepted_in lives attached asked
accepted-kept lives other attached others query kept [] all = refl
accepted-kept lives other attached others query kept (first ∷ asked) all =
    ap (λ one. one ∷ accepted_in other others (with_kept_at query kept asked)) (seen-kept other others query kept first
    ∙ ap (with_groups first) (All-head (StaysGrouped lives other attached others query kept) first asked all))
    ∙ ap (λ rest. accepted_as lives attached first ∷ rest) (accepted-kept lives other attached others query kept asked
    (All-tail (StaysGrouped lives other attached others query kept) first asked all))

-- a query of another number has what was kept beside it
pub kept-other : (query : ℕ) (kept : Option Grouped) (entry : AskedQuery) → entry.number ≢ query → kept_by query kept entry ≡ entry.kept
kept-other query kept entry apart = ap (λ t. cond {A = Option Grouped} t kept entry.kept) (ne_eqb entry.number query apart)

-- and one of this number what is kept now
pub kept-this : (query : ℕ) (kept : Option Grouped) (entry : AskedQuery) → entry.number ≡ query → kept_by query kept entry ≡ kept
kept-this query kept entry same = ap (λ t. cond {A = Option Grouped} t kept entry.kept) (eq-eqb entry.number query same)

-- what is attached for another number is as it was
abbrev pub LeavesOthers : (lives other : Lives) → (attached others : List (Option Grouped)) → (query : ℕ) → Type 0
LeavesOthers lives other attached others query =
    (number : ℕ) → number ≢ query → attached_for other others number ≡ attached_for lives attached number

-- the groups of a query of another number stay
pub stays-other : (lives other : Lives) (attached others : List (Option Grouped)) (query : ℕ) (kept : Option Grouped) (entry : AskedQuery)
    → LeavesOthers lives other attached others query → entry.number ≢ query
    → StaysGrouped lives other attached others query kept entry
stays-other lives other attached others query kept entry leaves apart =
    ap (attached_or (attached_for other others entry.number)) (kept-other query kept entry apart)
    ∙ ap (λ groups. attached_or groups entry.kept) (leaves entry.number apart)

-- accepted queries where one is forgotten, for which nothing is attached any more
pub accepted-forgotten : (lives other : Lives) (attached others : List (Option Grouped)) (query : ℕ) (asked : List AskedQuery)
    → LeavesOthers lives other attached others query → attached_for other others query ≡ None
    → accepted_in other others (with_kept_at query None asked) ≡ map (forgotten query) (accepted_in lives attached asked)
accepted-forgotten lives other attached others query [] leaves none = refl
accepted-forgotten lives other attached others query (first ∷ asked) leaves none =
    ap (λ one. one ∷ accepted_in other others (with_kept_at query None asked))
    (seen-kept other others query None first ∙ ⊎_elim this that (cases_eq first.number query))
    ∙ ap (λ rest. forgotten query (accepted_as lives attached first) ∷ rest)
    (accepted-forgotten lives other attached others query asked leaves none)
  where
    now : Accepted
    now = with_groups first (attached_or (attached_for other others first.number) (kept_by query None first))

    old : Accepted
    old = accepted_as lives attached first

    this : first.number ≡ query → now ≡ forgotten query old
    this same =
        ap (with_groups first)
        (ap (attached_or (attached_for other others first.number)) (kept-this query None first same)
        ∙ ap (λ groups. attached_or groups None) (ap (attached_for other others) same ∙ none))
        ∙ sym (ap (λ t. cond {A = Accepted} t (record old { groups = None }) old) (eq-eqb first.number query same))

    that : first.number ≢ query → now ≡ forgotten query old
    that apart =
        ap (with_groups first) (stays-other lives other attached others query None first leaves apart)
        ∙ sym (ap (λ t. cond {A = Accepted} t (record old { groups = None }) old) (ne_eqb first.number query apart))

-- what is attached for a query is not kept beside it
abbrev pub IsBeside : Lives → (attached : List (Option Grouped)) → AskedQuery → Type 0
IsBeside lives attached entry = IsSome (attached_for lives attached entry.number) → entry.kept ≡ None

-- where this is kept beside one query now
pub beside-kept : (lives other : Lives) (attached others : List (Option Grouped)) (query : ℕ) (kept : Option Grouped) (asked : List AskedQuery)
    → LeavesOthers lives other attached others query → (IsSome (attached_for other others query) → kept ≡ None)
    → All (IsBeside lives attached) asked → All (IsBeside other others) (with_kept_at query kept asked)
beside-kept lives other attached others query kept asked leaves this all =
    All-map (IsBeside other others) (with_kept query kept) asked (λ k d low.
    each (get_or asked k d) (all k d low) (eqb (get_or asked k d).number query) refl)
  where
    each : (entry : AskedQuery) → IsBeside lives attached entry → (t : Bool) → eqb entry.number query ≡ t
        → IsBeside other others (cond {A = AskedQuery} t (record entry { kept = kept }) entry)
    each entry old true is some = this (subst (λ n. IsSome (attached_for other others n)) (eqb-true entry.number query is) some)
    each entry old false is some =
        let apart : entry.number ≢ query = (λ same. let both : true ≡ false = sym (eq-eqb entry.number query same) ∙ is in cc) in
        old (subst (λ o. IsSome o) (leaves entry.number apart) some)

-- and where all are kept as they were
pub beside-left : (lives other : Lives) (attached others : List (Option Grouped)) (query : ℕ) (asked : List AskedQuery)
    → LeavesOthers lives other attached others query → attached_for other others query ≡ None
    → All (IsBeside lives attached) asked → All (IsBeside other others) asked
beside-left lives other attached others query asked leaves none all = λ k d low some.
    ⊎_elim
    (λ same. absurd (let both : false ≡ true =
    subst (λ o. IsSome o) (ap (attached_for other others) same ∙ none) some in cc))
    (λ apart. all k d low (subst (λ o. IsSome o) (leaves (get_or asked k d).number apart) some))
    (cases_eq (get_or asked k d).number query)
