-- Queries that were let go, whose lives are over, in front of others: what is read and written of all is so of those behind.
use Rattle.std.proofs.Common.{◌≡◌, ℕ, zero, suc, Bool, true, false, cond, eqb, ltb, List, [], ◌∷◌, ◌++◌, map, find, Option, Some, None, option_map, refl, ap, sym, ◌∙◌, subst, arith}
use Rattle.std.specs.Bool.{IsTrue}
use Rattle.std.specs.List.{All, list_any}
use Rattle.std.specs.Option.{option_map_or, option_or}
use Rattle.std.proofs.lemmas.Bool.{eqb-false, false≢true, ne_eqb}
use Rattle.std.proofs.lemmas.List.{map-append}
use Rattle.std.proofs.lemmas.List.Elements.{All-cons, All-head, All-nil, All-tail, All-weaker}
use Rattle.std.proofs.lemmas.List.Folds.{map_fixed}
use Rattle.std.proofs.lemmas.Option.{none-some}
use Rattle.star_values.proofs.PlaceLemmas.{find-holds}
use Rattle.star_values.proofs.RisingLemmas.{IsMissing, head_is_only, map-missing, tail_rises}
use Rattle.pipeline_manager.specs.declared.life.Life.{Life}
use Rattle.pipeline_manager.specs.declared.life.Life.TheVariants.{Waiting, Running, Ending, Answered}
use Rattle.pipeline_manager.specs.declared.life.SlotState.{SlotState}
use Rattle.pipeline_manager.specs.declared.life.SlotState.TheVariants.{Free, Held, Clearing}
use Rattle.pipeline_manager.specs.declared.life.QueryLife.{QueryLife}
use Rattle.pipeline_manager.specs.Lives.{query_in, life_in, extent_in, is_waiting}
use Rattle.pipeline_manager.specs.Changes.{with_life, with_answer, is_ending, cut_query, cut_life, covered}
use Rattle.pipeline_manager.specs.Conditions.{is_open}
use Rattle.pipeline_manager.specs.Inside.{is_running, holder_runs}
use Rattle.pipeline_manager.specs.LetGo.{IsClosed, IsOpenIn, cut_held}
use Rattle.pipeline_manager.specs.Sound.{AreRising, slots_held}
use Rattle.pipeline_manager.proofs.QueryLemmas.{query_in-missing}

-- among closed queries and others is none that may still be answered and has the number of a closed one
pub open-missing : (gone rest : List QueryLife) (query : ℕ) → All IsClosed gone → IsOpenIn (gone ++ rest) query
    → IsMissing (λ (entry : QueryLife). entry.query) query gone
open-missing [] rest query over may = All-nil (λ (entry : QueryLife). entry.query ≡ query → ⊥)
open-missing (first ∷ gone) rest query over may =
    by_test (eqb first.query query) refl may (open-missing gone rest query (All-tail IsClosed first gone over))
  where
    by_test : (t : Bool) → eqb first.query query ≡ t
        → IsTrue (option_map_or is_open (option_map (λ (e : QueryLife). e.life) (cond {A = Option QueryLife} t (Some first) (query_in (gone ++ rest) query))) false)
        → (IsOpenIn (gone ++ rest) query → IsMissing (λ (e : QueryLife). e.query) query gone)
        → IsMissing (λ (e : QueryLife). e.query) query (first ∷ gone)
    by_test true same open_first behind = absurd (false≢true (sym (All-head IsClosed first gone over) ∙ open_first))
    by_test false other open_rest behind =
        All-cons (λ (e : QueryLife). e.query ≡ query → ⊥) first gone (eqb-false first.query query other) (behind open_rest)

-- a number that none in front has is found behind them
pub missing-behind : (gone rest : List QueryLife) (query : ℕ) → IsMissing (λ (entry : QueryLife). entry.query) query gone
    → query_in (gone ++ rest) query ≡ query_in rest query
missing-behind [] rest query missing = refl
missing-behind (first ∷ gone) rest query missing =
    rw (ne_eqb first.query query (missing zero first (omega arith)))
    (missing-behind gone rest query (λ k d within. missing (suc k) d (omega arith)))

-- and so is one that may still be answered
pub open-behind : (gone rest : List QueryLife) (query : ℕ) → All IsClosed gone → IsOpenIn (gone ++ rest) query
    → query_in (gone ++ rest) query ≡ query_in rest query
open-behind gone rest query over may = missing-behind gone rest query (open-missing gone rest query over may)

pub open-rest : (gone rest : List QueryLife) (query : ℕ) → All IsClosed gone → IsOpenIn (gone ++ rest) query → IsOpenIn rest query
open-rest gone rest query over may =
    subst (λ o. IsTrue (option_map_or is_open (option_map (λ (e : QueryLife). e.life) o) false)) (open-behind gone rest query over may) may

pub extent-behind : (gone rest : List QueryLife) (query : ℕ) → All IsClosed gone → IsOpenIn (gone ++ rest) query
    → extent_in rest query ≡ extent_in (gone ++ rest) query
extent-behind gone rest query over may =
    ap (λ o. option_map_or (λ (e : QueryLife). e.extent) o 0) (sym (open-behind gone rest query over may))

-- what rises rises behind the first of it
pub rising-rest : (gone rest : List QueryLife) → AreRising (gone ++ rest) → AreRising rest
rising-rest [] rest rising = rising
rising-rest (first ∷ gone) rest rising = rising-rest gone rest (tail_rises (λ (e : QueryLife). e.query) first (gone ++ rest) rising)

-- a number that is found behind is that of none in front
found-missing : (gone rest : List QueryLife) (query : ℕ) (entry : QueryLife) → AreRising (gone ++ rest)
    → query_in rest query ≡ Some entry → IsMissing (λ (e : QueryLife). e.query) query gone
found-missing [] rest query entry rising found = All-nil (λ (e : QueryLife). e.query ≡ query → ⊥)
found-missing (first ∷ gone) rest query entry rising found =
    let behind = found-missing gone rest query entry (tail_rises (λ (e : QueryLife). e.query) first (gone ++ rest) rising) found in
    All-cons (λ (e : QueryLife). e.query ≡ query → ⊥) first gone
    (λ same. none-some entry
    (sym (query_in-missing (gone ++ rest) query (head_is_only (λ (e : QueryLife). e.query) first (gone ++ rest) query rising same))
    ∙ missing-behind gone rest query behind ∙ found))
    behind

-- where none behind has the number, it is found in front or not at all
none-behind : (gone rest : List QueryLife) (query : ℕ) → query_in rest query ≡ None → query_in (gone ++ rest) query ≡ query_in gone query
none-behind [] rest query none = none
none-behind (first ∷ gone) rest query none =
    ap (λ o. cond {A = Option QueryLife} (eqb first.query query) (Some first) o) (none-behind gone rest query none)

-- a life is found behind, and else in front
pub life-either : (gone rest : List QueryLife) (query : ℕ) → AreRising (gone ++ rest)
    → option_or (life_in rest query) (life_in gone query) ≡ life_in (gone ++ rest) query
life-either gone rest query rising = by_found (query_in rest query) refl
  where
    by_found : (found : Option QueryLife) → query_in rest query ≡ found
        → option_or (option_map (λ (e : QueryLife). e.life) found) (life_in gone query) ≡ life_in (gone ++ rest) query
    by_found None none = ap (option_map (λ (e : QueryLife). e.life)) (sym (none-behind gone rest query none))
    by_found (Some entry) found =
        ap (option_map (λ (e : QueryLife). e.life))
        (sym (missing-behind gone rest query (found-missing gone rest query entry rising found) ∙ found))

-- what is over does not wait
closed-waits : (life : Life) → is_open life ≡ false → is_waiting life ≡ false
closed-waits Waiting over = cc
closed-waits other over = refl

-- the first that waits stands behind those that are over
pub waiting-behind : (gone rest : List QueryLife) → All IsClosed gone
    → find (λ entry. is_waiting entry.life) rest ≡ find (λ entry. is_waiting entry.life) (gone ++ rest)
waiting-behind [] rest over = refl
waiting-behind (first ∷ gone) rest over =
    rw (closed-waits first.life (All-head IsClosed first gone over)) (waiting-behind gone rest (All-tail IsClosed first gone over))

-- what is over is not Running
closed-runs : (life : Life) → is_open life ≡ false → is_running life ≡ false
closed-runs (Running start left) over = cc
closed-runs other over = refl

none-runs : (gone : List QueryLife) (query : ℕ) → All IsClosed gone → option_map_or is_running (life_in gone query) false ≡ false
none-runs gone query over = by_found (query_in gone query) refl
  where
    by_found : (found : Option QueryLife) → query_in gone query ≡ found
        → option_map_or is_running (option_map (λ (e : QueryLife). e.life) found) false ≡ false
    by_found None found = refl
    by_found (Some entry) found =
        closed-runs entry.life (find-holds IsClosed (λ (e : QueryLife). eqb e.query query) gone entry found over)

-- a query is Running behind or not at all
runs-either : (behind front : Option Life) → option_map_or is_running front false ≡ false
    → option_map_or is_running behind false ≡ option_map_or is_running (option_or behind front) false
runs-either None front none = sym none
runs-either (Some life) front none = refl

pub holder_runs-behind : (gone rest : List QueryLife) → AreRising (gone ++ rest) → All IsClosed gone → (state : SlotState)
    → holder_runs rest state ≡ holder_runs (gone ++ rest) state
holder_runs-behind gone rest rising over Free = refl
holder_runs-behind gone rest rising over (Held query built) =
    runs-either (life_in rest query) (life_in gone query) (none-runs gone query over)
    ∙ ap (λ o. option_map_or is_running o false) (life-either gone rest query rising)
holder_runs-behind gone rest rising over (Clearing left) = refl

pub list_any-same : (first second : SlotState → Bool) (slots : List SlotState) → ((state : SlotState) → first state ≡ second state)
    → list_any first slots ≡ list_any second slots
list_any-same first second [] same = refl
list_any-same first second (state ∷ slots) same = rw (same state, list_any-same first second slots same) refl

-- a cut leaves what is over
closed-cut_life : (positions : ℕ) (life : Life) → is_open life ≡ false → cut_life positions life ≡ life
closed-cut_life positions (Running start left) over = cc
closed-cut_life positions other over = refl

closed-cut : (first last : ℕ) (slots : List SlotState) (entry : QueryLife) → IsClosed entry → cut_held first last slots entry ≡ entry
closed-cut first last slots entry over = by_test (ltb 0 (slots_held entry.query slots))
  where
    by_test : (held : Bool) → cond {A = QueryLife} held (cut_query first last entry) entry ≡ entry
    by_test true = ap (λ life. record entry { life = life }) (closed-cut_life (covered first last entry.extent) entry.life over)
    by_test false = refl

pub cut-closed : (first last : ℕ) (slots : List SlotState) (gone : List QueryLife) → All IsClosed gone
    → map (cut_held first last slots) gone ≡ gone
cut-closed first last slots gone over =
    map_fixed (cut_held first last slots) gone
    (All-weaker IsClosed (λ entry. cut_held first last slots entry ≡ entry) (closed-cut first last slots) gone over)

pub cut-behind : (first last : ℕ) (slots : List SlotState) (gone rest : List QueryLife) → All IsClosed gone
    → gone ++ map (cut_held first last slots) rest ≡ map (cut_held first last slots) (gone ++ rest)
cut-behind first last slots gone rest over =
    ap (λ list. list ++ map (cut_held first last slots) rest) (sym (cut-closed first last slots gone over))
    ∙ sym (map-append (cut_held first last slots) gone rest)

-- a life that is written behind leaves those in front
pub written-closed : (query : ℕ) (life : Life) (gone rest : List QueryLife) → All IsClosed gone → IsOpenIn (gone ++ rest) query
    → with_life query life gone ≡ gone
written-closed query life gone rest over may =
    map-missing (λ (e : QueryLife). e.query) gone query (λ e. record e { life = life }) (open-missing gone rest query over may)

pub written-behind : (query : ℕ) (life : Life) (gone rest : List QueryLife) → All IsClosed gone → IsOpenIn (gone ++ rest) query
    → gone ++ with_life query life rest ≡ with_life query life (gone ++ rest)
written-behind query life gone rest over may =
    ap (λ list. list ++ with_life query life rest) (sym (written-closed query life gone rest over may))
    ∙ sym (map-append _ gone rest)

-- what is Ending may still be answered
pub ending-open : (life : Option Life) → option_map_or is_ending life false ≡ true → IsTrue (option_map_or is_open life false)
ending-open None ends = cc
ending-open (Some Ending) ends = refl
ending-open (Some other) ends = cc

-- what is Ending behind is so of all
ends-either : (behind front : Option Life) → option_map_or is_ending behind false ≡ true
    → option_map_or is_ending (option_or behind front) false ≡ true
ends-either None front ends = cc
ends-either (Some life) front ends = ends

pub ending-behind : (query : ℕ) (gone rest : List QueryLife) → AreRising (gone ++ rest) → All IsClosed gone
    → option_map_or is_ending (life_in rest query) false ≡ option_map_or is_ending (life_in (gone ++ rest) query) false
ending-behind query gone rest rising over =
    by_all (option_map_or is_ending (life_in (gone ++ rest) query) false) refl (option_map_or is_ending (life_in rest query) false) refl
  where
    by_all : (all : Bool) → option_map_or is_ending (life_in (gone ++ rest) query) false ≡ all
        → (part : Bool) → option_map_or is_ending (life_in rest query) false ≡ part → part ≡ all
    by_all true ends part is =
        sym is
        ∙ ap (λ o. option_map_or is_ending (option_map (λ (e : QueryLife). e.life) o) false)
        (sym (open-behind gone rest query over (ending-open (life_in (gone ++ rest) query) ends)))
        ∙ ends
    by_all false ends true is =
        ap (λ b. b) (sym (ends-either (life_in rest query) (life_in gone query) is)
        ∙ ap (λ o. option_map_or is_ending o false) (life-either gone rest query rising) ∙ ends)
    by_all false ends false is = refl

pub answered-behind : (query : ℕ) (gone rest : List QueryLife) → AreRising (gone ++ rest) → All IsClosed gone
    → gone ++ with_answer query rest ≡ with_answer query (gone ++ rest)
answered-behind query gone rest rising over =
    ap (λ t. gone ++ cond {A = List QueryLife} t (with_life query Answered rest) rest) (ending-behind query gone rest rising over)
    ∙ by_test (option_map_or is_ending (life_in (gone ++ rest) query) false) refl
  where
    by_test : (ends : Bool) → option_map_or is_ending (life_in (gone ++ rest) query) false ≡ ends
        → gone ++ cond {A = List QueryLife} ends (with_life query Answered rest) rest
        ≡ cond {A = List QueryLife} ends (with_life query Answered (gone ++ rest)) (gone ++ rest)
    by_test true is = written-behind query Answered gone rest over (ending-open (life_in (gone ++ rest) query) is)
    by_test false is = refl
