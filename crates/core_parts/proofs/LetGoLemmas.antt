-- Accepted queries of which the first were let go: what is found and kept, and what is let go.
use Rattle.std.proofs.Common.{◌≡◌, ℕ, Bool, true, false, cond, eqb, List, [], ◌∷◌, ◌++◌, Option, Some, None, IsSome, refl, ap, sym, subst, ◌∙◌, append-nil, take}
use Rattle.std.specs.List.{All}
use Rattle.std.specs.Option.{option_and_then, option_or}
use Rattle.std.proofs.lemmas.Bool.{eqb-false, false≢true, ne_eqb}
use Rattle.std.proofs.lemmas.List.{map-append}
use Rattle.std.proofs.lemmas.List.Elements.{All-append, All-head, All-map, All-nil, All-tail, All-weaker}
use Rattle.std.proofs.lemmas.List.Folds.{find-append}
use Rattle.std.proofs.lemmas.Option.{none-some}
use Rattle.aggregations.specs.Grouped.{Grouped}
use Rattle.pipeline_manager.specs.Lives.{Lives}
use Rattle.star_values.specs.Faded.{Faded}
use Rattle.star_values.proofs.PlaceLemmas.{find-holds, find-none}
use Rattle.star_values.proofs.RisingLemmas.{IsMissing, find-missing, head_is_only, map-missing, tail_rises}
use Rattle.core_parts.specs.Asked.{AreBare, AreFinished, AreAskedRising, AskedEntry, AskedQueries, AskedQuery, HasBegun, IsNotAmong, IsQueryOver, asked_at, asked_in, handed_in, with_kept_at}
use Rattle.core_parts.specs.LetGo.{IsDone, IsForgotten}
use Rattle.core_parts.proofs.AskedLemmas.{handed-drop, plain}
use Rattle.core_parts.proofs.GoneLemmas.{items-settled}

abbrev number_of : AskedQuery → ℕ
number_of entry = entry.number

-- what is seen of queries of which the first were let go
abbrev pub seen : Faded AskedEntry → AskedQueries
seen asked = record {
  items = asked_in asked.gone ++ asked_in asked.rest;
  gone = asked_in asked.gone;
  handed = handed_in asked.rest;
  room = asked.room;
}

-- what rises rises behind the first of it
rising-rest : (gone rest : List AskedQuery) → AreAskedRising (gone ++ rest) → AreAskedRising rest
rising-rest [] rest rising = rising
rising-rest (first ∷ gone) rest rising = rising-rest gone rest (tail_rises number_of first (gone ++ rest) rising)

pub rest-rises : (asked : Faded AskedEntry) (now : AskedQueries) → seen asked ≡ now → AreAskedRising now.items → AreAskedRising (asked_in asked.rest)
rest-rises asked now is rising =
    rising-rest (asked_in asked.gone) (asked_in asked.rest) (subst (λ (all : AskedQueries). AreAskedRising all.items) (sym is) rising)

-- a query that is not among the first is found behind them
found-behind : (gone rest : List AskedQuery) (number : ℕ) → IsNotAmong gone number → asked_at (gone ++ rest) number ≡ asked_at rest number
found-behind gone rest number apart =
    find-append (λ (entry : AskedQuery). eqb entry.number number) gone rest ∙ ap (λ o. option_or o (asked_at rest number)) apart

pub rest-found : (asked : Faded AskedEntry) (now : AskedQueries) (number : ℕ) → seen asked ≡ now → IsNotAmong now.gone number
    → asked_at now.items number ≡ asked_at (asked_in asked.rest) number
rest-found asked now number is apart =
    ap (λ (all : AskedQueries). asked_at all.items number) (sym is)
    ∙ found-behind (asked_in asked.gone) (asked_in asked.rest) number (subst (λ (all : AskedQueries). IsNotAmong all.gone number) (sym is) apart)

-- and one that is found behind them is not among them
found-apart : (gone rest : List AskedQuery) (number : ℕ) (entry : AskedQuery) → AreAskedRising (gone ++ rest) → asked_at rest number ≡ Some entry
    → IsNotAmong gone number
found-apart [] rest number entry rising found = refl
found-apart (first ∷ gone) rest number entry rising found =
    let behind = found-apart gone rest number entry (tail_rises number_of first (gone ++ rest) rising) found in
    rw (ne_eqb first.number number (λ same. none-some entry
    (sym (find-missing number_of (gone ++ rest) number (head_is_only number_of first (gone ++ rest) number rising same))
    ∙ found-behind gone rest number behind ∙ found)))
    behind

-- nothing is kept beside one that was let go
bare-kept : (gone : List AskedQuery) (number : ℕ) → AreBare gone → option_and_then (λ entry. entry.kept) (asked_at gone number) ≡ None
bare-kept gone number bare = by_found (asked_at gone number) refl
  where
    by_found : (found : Option AskedQuery) → asked_at gone number ≡ found → option_and_then (λ entry. entry.kept) found ≡ None
    by_found None found = refl
    by_found (Some entry) found =
        find-holds (λ (e : AskedQuery). e.kept ≡ None) (λ (e : AskedQuery). eqb e.number number) gone entry found bare

none-else : (o : Option AskedQuery) → option_or o None ≡ o
none-else None = refl
none-else (Some entry) = refl

-- what is kept beside a query is found behind those that were let go
kept-behind : (gone rest : List AskedQuery) (number : ℕ) → AreAskedRising (gone ++ rest) → AreBare gone
    → option_and_then (λ entry. entry.kept) (asked_at rest number) ≡ option_and_then (λ entry. entry.kept) (asked_at (gone ++ rest) number)
kept-behind gone rest number rising bare = by_found (asked_at rest number) refl
  where
    by_found : (found : Option AskedQuery) → asked_at rest number ≡ found
        → option_and_then (λ entry. entry.kept) found ≡ option_and_then (λ entry. entry.kept) (asked_at (gone ++ rest) number)
    by_found None none = sym
        (ap (option_and_then (λ (entry : AskedQuery). entry.kept))
        (find-append (λ (entry : AskedQuery). eqb entry.number number) gone rest ∙ ap (option_or (asked_at gone number)) none
        ∙ none-else (asked_at gone number))
        ∙ bare-kept gone number bare)
    by_found (Some entry) found =
        ap (option_and_then (λ (entry : AskedQuery). entry.kept))
        (sym (found-behind gone rest number (found-apart gone rest number entry rising found) ∙ found))

pub rest-kept : (asked : Faded AskedEntry) (now : AskedQueries) (number : ℕ) → seen asked ≡ now → AreAskedRising now.items
    → AreBare (asked_in asked.gone)
    → option_and_then (λ entry. entry.kept) (asked_at (asked_in asked.rest) number) ≡ option_and_then (λ entry. entry.kept) (asked_at now.items number)
rest-kept asked now number is rising bare =
    kept-behind (asked_in asked.gone) (asked_in asked.rest) number (subst (λ (all : AskedQueries). AreAskedRising all.items) (sym is) rising) bare
    ∙ ap (λ (all : AskedQueries). option_and_then (λ (entry : AskedQuery). entry.kept) (asked_at all.items number)) is

-- one beside which something is kept is found so
pub kept-found : (asked : Faded AskedEntry) (now : AskedQueries) (number : ℕ) → seen asked ≡ now → AreAskedRising now.items
    → AreBare (asked_in asked.gone) → IsSome (option_and_then (λ entry. entry.kept) (asked_at now.items number))
    → asked_at (asked_in asked.rest) number ≡ asked_at now.items number
kept-found asked now number is rising bare some =
    by_found (asked_at (asked_in asked.rest) number) refl (subst (λ o. IsSome o) (sym (rest-kept asked now number is rising bare)) some)
  where
    gone : List AskedQuery
    gone = asked_in asked.gone

    rest : List AskedQuery
    rest = asked_in asked.rest

    by_found : (found : Option AskedQuery) → asked_at rest number ≡ found → IsSome (option_and_then (λ entry. entry.kept) found)
        → found ≡ asked_at now.items number
    by_found None found never = absurd (false≢true never)
    by_found (Some entry) found has =
        sym found
        ∙ sym (found-behind gone rest number
        (found-apart gone rest number entry (subst (λ (all : AskedQueries). AreAskedRising all.items) (sym is) rising) found))
        ∙ ap (λ (all : AskedQueries). asked_at all.items number) is

-- what is kept beside one that is not among the first is so of all
kept-apart : (gone rest : List AskedQuery) (number : ℕ) (kept : Option Grouped) → IsNotAmong gone number
    → gone ++ with_kept_at number kept rest ≡ with_kept_at number kept (gone ++ rest)
kept-apart gone rest number kept apart =
    let none : IsMissing number_of number gone =
    All-weaker (λ (entry : AskedQuery). eqb entry.number number ≡ false) (λ (entry : AskedQuery). entry.number ≡ number → ⊥)
    (λ entry other. eqb-false entry.number number other) gone
    (find-none (λ (entry : AskedQuery). eqb entry.number number) gone apart) in
    sym (map-append _ gone rest
    ∙ ap (λ list. list ++ with_kept_at number kept rest) (map-missing number_of gone number (λ entry. record entry { kept = kept }) none))

-- and where nothing is kept any more those are as they were beside which nothing is
bare-stays : (number : ℕ) (gone : List AskedQuery) → AreBare gone → with_kept_at number None gone ≡ gone
bare-stays number [] bare = refl
bare-stays number (first ∷ gone) bare =
    ap (λ one. one ∷ with_kept_at number None gone) (by_test (eqb first.number number))
    ∙ ap (λ list. first ∷ list) (bare-stays number gone (All-tail (λ (e : AskedQuery). e.kept ≡ None) first gone bare))
  where
    by_test : (t : Bool) → cond {A = AskedQuery} t (record first { kept = None }) first ≡ first
    by_test true =
        ap (λ (kept : Option Grouped). record first { kept = kept }) (sym (All-head (λ (e : AskedQuery). e.kept ≡ None) first gone bare))
    by_test false = refl

-- all queries where something is kept beside one that stands
pub items-kept : (asked : Faded AskedEntry) (now : AskedQueries) (rest : List AskedEntry) (number : ℕ) (kept : Option Grouped) → seen asked ≡ now
    → IsNotAmong now.gone number → asked_in rest ≡ with_kept_at number kept (asked_in asked.rest)
    → asked_in asked.gone ++ asked_in rest ≡ with_kept_at number kept now.items
items-kept asked now rest number kept is apart kept_is =
    ap (λ list. asked_in asked.gone ++ list) kept_is
    ∙ kept-apart (asked_in asked.gone) (asked_in asked.rest) number kept (subst (λ (all : AskedQueries). IsNotAmong all.gone number) (sym is) apart)
    ∙ ap (λ (all : AskedQueries). with_kept_at number kept all.items) is

-- and where nothing is kept any more beside one
pub items-bare : (asked : Faded AskedEntry) (now : AskedQueries) (rest : List AskedEntry) (number : ℕ) → seen asked ≡ now
    → AreBare (asked_in asked.gone) → asked_in rest ≡ with_kept_at number None (asked_in asked.rest)
    → asked_in asked.gone ++ asked_in rest ≡ with_kept_at number None now.items
items-bare asked now rest number is bare kept_is =
    ap (λ list. asked_in asked.gone ++ list) kept_is
    ∙ ap (λ list. list ++ with_kept_at number None (asked_in asked.rest)) (sym (bare-stays number (asked_in asked.gone) bare))
    ∙ sym (map-append _ (asked_in asked.gone) (asked_in asked.rest))
    ∙ ap (λ (all : AskedQueries). with_kept_at number None all.items) is

-- what is seen then
pub seen-kept : (asked : Faded AskedEntry) (now : AskedQueries) (rest : List AskedEntry) (items : List AskedQuery) → seen asked ≡ now
    → asked_in asked.gone ++ asked_in rest ≡ items → handed_in rest ≡ handed_in asked.rest
    → seen (record asked { rest = rest }) ≡ record now { items = items }
seen-kept asked now rest items is items_are handed_are =
    ap (λ (list : List AskedQuery). record (seen (record asked { rest = rest })) { items = list }) items_are
    ∙ ap (λ (list : List ℕ). record (seen asked) { items = items; handed = list }) handed_are
    ∙ ap (λ (all : AskedQueries). record all { items = items }) is

-- nothing is let go
pub none-forgotten : (lives : Lives) (asked : Faded AskedEntry) → IsForgotten lives asked asked
none-forgotten lives asked = record { count = 0; gone = sym (append-nil asked.gone); rest = refl; done = All-nil (IsDone lives) }

-- some are
pub all-asked : (P : AskedQuery → Type 0) (lives : Lives) (old new : Faded AskedEntry)
    → ((entry : AskedEntry) → IsDone lives entry → P entry.asked) → IsForgotten lives old new → All P (asked_in old.gone) → All P (asked_in new.gone)
all-asked P lives old new each forgotten all =
    subst (λ list. All P (asked_in list)) (sym forgotten.gone)
    (subst (All P) (sym (map-append plain old.gone (take forgotten.count old.rest)))
    (All-append P (asked_in old.gone) (asked_in (take forgotten.count old.rest)) all
    (All-map P plain (take forgotten.count old.rest)
    (All-weaker (IsDone lives) (λ entry. P entry.asked) each (take forgotten.count old.rest) forgotten.done))))

pub forgotten-bare : (lives : Lives) (old new : Faded AskedEntry) → IsForgotten lives old new → AreBare (asked_in old.gone)
    → AreBare (asked_in new.gone)
forgotten-bare lives old new forgotten = all-asked (λ (entry : AskedQuery). entry.kept ≡ None) lives old new (λ entry done. done.bare) forgotten

pub forgotten-items : (lives : Lives) (old new : Faded AskedEntry) → IsForgotten lives old new → (seen new).items ≡ (seen old).items
forgotten-items lives old new forgotten =
    sym (map-append plain new.gone new.rest)
    ∙ ap (λ gone. asked_in (gone ++ new.rest)) forgotten.gone
    ∙ ap (λ rest. asked_in ((old.gone ++ take forgotten.count old.rest) ++ rest)) forgotten.rest
    ∙ ap asked_in (items-settled old.gone old.rest forgotten.count)
    ∙ map-append plain old.gone old.rest

pub forgotten-finished : (lives : Lives) (old new : Faded AskedEntry) → IsForgotten lives old new → AreFinished lives (seen old)
    → AreFinished lives (seen new)
forgotten-finished lives old new forgotten finished = record {
  over = all-asked (λ (entry : AskedQuery). IsQueryOver lives entry.number) lives old new (λ entry done. done.over) forgotten finished.over;
  begun = subst (λ list. All (HasBegun lives) (handed_in list)) (sym forgotten.rest)
      (handed-drop (HasBegun lives) forgotten.count old.rest finished.begun);
}
