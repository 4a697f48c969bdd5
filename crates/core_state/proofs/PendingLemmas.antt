-- What is found of the statements that a seat waits for.
use Rattle.core_state.proofs.Words.{◌++◌, ◌<◌, ◌∙◌, ◌∷◌, ◌≡◌, ◌≢◌, ◌⊎◌, [], All, All-head, All-tail, All-weaker, all_pairs_head, all_pairs_tail, AllPairs, ap, arith, Awaited, Bool, cases_eq, cases_lt, cond, drop, empty_seat, eq-eqb, eqb, eqb-true, false, filter, filter_passes, find, get_or, get_or-set_other, get_or-set_same, IfSome, inl, inr, length, List, map, ne_eqb, None, not, Option, option_map, Pending, refl, Seat, set, Some, subst, sym, true, ℕ, ⊎_elim}
use Rattle.std.proofs.lemmas.List.{set_past}
use Rattle.core_state.proofs.FrameLemmas.{awaited-there}

-- what is waited for as the reply to a statement of this number
abbrev pub waited : List Pending → (statement : ℕ) → Option Awaited
waited pending statement = option_map (λ pending. pending.awaited) (find (λ pending. eqb pending.statement statement) pending)

-- what is waited for later was waited for as it is
abbrev pub Stays : (before after : Option Awaited) → Type 0
Stays before after = IfSome after (λ awaited. before ≡ Some awaited)

pub stays-itself : (before : Option Awaited) → Stays before before
stays-itself None = tt
stays-itself (Some awaited) = refl

pub stays-same : (before after : Option Awaited) → after ≡ before → Stays before after
stays-same before after same = subst (Stays before) (sym same) (stays-itself before)

pub stays-then : (before between after : Option Awaited) → Stays before between → Stays between after → Stays before after
stays-then before between None first second = tt
stays-then before between (Some awaited) first second = subst (λ o. IfSome o (λ a. before ≡ Some a)) second first

-- what is waited for first
waited-first : (first : Pending) (rest : List Pending) (statement : ℕ) → first.statement ≡ statement
    → waited (first ∷ rest) statement ≡ Some first.awaited
waited-first first rest statement same =
    ap (λ t. option_map (λ (p : Pending). p.awaited) (cond {A = Option Pending} t (Some first) (find (λ p. eqb p.statement statement) rest)))
    (eq-eqb first.statement statement same)

waited-rest : (first : Pending) (rest : List Pending) (statement : ℕ) → first.statement ≢ statement
    → waited (first ∷ rest) statement ≡ waited rest statement
waited-rest first rest statement apart =
    ap (λ t. option_map (λ (p : Pending). p.awaited) (cond {A = Option Pending} t (Some first) (find (λ p. eqb p.statement statement) rest)))
    (ne_eqb first.statement statement apart)

-- where no number is this one, nothing is waited for by it
pub waited-none : (pending : List Pending) (statement : ℕ) → All (λ p. p.statement ≢ statement) pending → waited pending statement ≡ None
waited-none [] statement all = refl
waited-none (first ∷ rest) statement all =
    waited-rest first rest statement (All-head (λ p. p.statement ≢ statement) first rest all)
    ∙ waited-none rest statement (All-tail (λ p. p.statement ≢ statement) first rest all)

-- a statement that comes last is found where none before has its number, and others are found as before
pub waited-last : (pending : List Pending) (last : Pending) (statement : ℕ) → All (λ p. p.statement ≢ statement) pending
    → last.statement ≡ statement → waited (pending ++ last ∷ []) statement ≡ Some last.awaited
waited-last [] last statement all same = waited-first last [] statement same
waited-last (first ∷ rest) last statement all same =
    waited-rest first (rest ++ last ∷ []) statement (All-head (λ p. p.statement ≢ statement) first rest all)
    ∙ waited-last rest last statement (All-tail (λ p. p.statement ≢ statement) first rest all) same

pub waited-before : (pending : List Pending) (last : Pending) (statement : ℕ) → last.statement ≢ statement
    → waited (pending ++ last ∷ []) statement ≡ waited pending statement
waited-before [] last statement apart = waited-rest last [] statement apart
waited-before (first ∷ rest) last statement apart = ⊎_elim
    (λ same. waited-first first (rest ++ last ∷ []) statement same ∙ sym (waited-first first rest statement same))
    (λ other. waited-rest first (rest ++ last ∷ []) statement other ∙ waited-before rest last statement apart
    ∙ sym (waited-rest first rest statement other))
    (cases_eq first.statement statement)

-- none of the statements that are left has the number that was taken out
kept-apart : (query : ℕ) (pending : List Pending) → All (λ p. p.statement ≢ query) (filter (λ p. not (eqb p.statement query)) pending)
kept-apart query pending =
    All-weaker (λ p. not (eqb p.statement query) ≡ true) (λ p. p.statement ≢ query)
    (λ p passes same. let both : false ≡ true = sym (ap not (eq-eqb p.statement query same)) ∙ passes in cc)
    (filter (λ p. not (eqb p.statement query)) pending) (filter_passes (λ p. not (eqb p.statement query)) pending)

-- what is left without the statements of one number is found as it was
pub stays-filtered : (query : ℕ) (pending : List Pending) (statement : ℕ)
    → Stays (waited pending statement) (waited (filter (λ p. not (eqb p.statement query)) pending) statement)
stays-filtered query [] statement = tt
stays-filtered query (first ∷ rest) statement =
    by_test (eqb first.statement query) refl (cases_eq first.statement statement) (stays-filtered query rest statement)
  where
    kept : List Pending
    kept = filter (λ p. not (eqb p.statement query)) rest

    by_test : (t : Bool) → eqb first.statement query ≡ t → (first.statement ≡ statement) ⊎ (first.statement ≢ statement)
        → Stays (waited rest statement) (waited kept statement)
        → Stays (waited (first ∷ rest) statement) (waited (cond {A = List Pending} (not t) (first ∷ kept) kept) statement)
    by_test true is (inl same) stays =
        let of_query : query ≡ statement = sym (eqb-true first.statement query is) ∙ same in
        subst (Stays (waited (first ∷ rest) statement))
        (sym (waited-none kept statement (subst (λ n. All (λ p. p.statement ≢ n) kept) of_query (kept-apart query rest)))) tt
    by_test true is (inr apart) stays =
        subst (λ o. Stays o (waited kept statement)) (sym (waited-rest first rest statement apart)) stays
    by_test false is (inl same) stays =
        stays-same (waited (first ∷ rest) statement) (waited (first ∷ kept) statement)
        (waited-first first kept statement same ∙ sym (waited-first first rest statement same))
    by_test false is (inr apart) stays =
        subst (Stays (waited (first ∷ rest) statement)) (sym (waited-rest first kept statement apart))
        (subst (λ o. Stays o (waited kept statement)) (sym (waited-rest first rest statement apart)) stays)

-- what is left without the first statement is found as it was, since numbers rise
pub stays-dropped : (pending : List Pending) (statement : ℕ) → AllPairs (λ number later. number < later) (map (λ p. p.statement) pending)
    → Stays (waited pending statement) (waited (drop 1 pending) statement)
stays-dropped [] statement rising = tt
stays-dropped (first ∷ rest) statement rising = by_cases (cases_eq first.statement statement)
  where
    above : All (λ p. first.statement < p.statement) rest
    above = awaited-there (λ n. first.statement < n) [] rest
        (all_pairs_head (λ number later. number < later) first.statement (map (λ p. p.statement) rest) rising)

    by_cases : (first.statement ≡ statement) ⊎ (first.statement ≢ statement) → Stays (waited (first ∷ rest) statement) (waited rest statement)
    by_cases (inl same) =
        subst (Stays (waited (first ∷ rest) statement))
        (sym (waited-none rest statement (All-weaker (λ p. first.statement < p.statement) (λ p. p.statement ≢ statement)
        (λ p low is. omega arith) rest above))) tt
    by_cases (inr apart) = stays-same (waited (first ∷ rest) statement) (waited rest statement) (sym (waited-rest first rest statement apart))

-- what holds of pairs of a list holds of those of its end
pub pairs-back : (R : ℕ → ℕ → Type 0) (front back : List ℕ) → AllPairs R (front ++ back) → AllPairs R back
pairs-back R [] back pairs = pairs
pairs-back R (x ∷ front) back pairs = pairs-back R front back (all_pairs_tail R x (front ++ back) pairs)

-- where a seat is written and what it waits for stays, so it does for each seat
pub stays-set : (seats : List Seat) (seat : ℕ) (now : Seat) (statement : ℕ)
    → Stays (waited (get_or seats seat empty_seat).pending statement) (waited now.pending statement) → (other : ℕ)
    → Stays (waited (get_or seats other empty_seat).pending statement) (waited (get_or (set seats seat now) other empty_seat).pending statement)
stays-set seats seat now statement stays other = ⊎_elim
    (λ same. subst (λ n. Stays (of seats n) (of (set seats seat now) n)) (sym same)
    (⊎_elim
    (λ low. subst (λ (s : Seat). Stays (of seats seat) (waited s.pending statement)) (sym (get_or-set_same seats seat now empty_seat low)) stays)
    (λ past. stays-same (of seats seat) (of (set seats seat now) seat) (ap (λ ss. of ss seat) (set_past seats seat now past)))
    (cases_lt seat (length seats))))
    (λ apart. stays-same (of seats other) (of (set seats seat now) other)
    (ap (λ (s : Seat). waited s.pending statement) (get_or-set_other seats seat other now empty_seat apart)))
    (cases_eq other seat)
  where
    of : List Seat → ℕ → Option Awaited
    of seats n = waited (get_or seats n empty_seat).pending statement
