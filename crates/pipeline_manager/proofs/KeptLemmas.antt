-- What is kept of all queries stays kept: at each change of those that were not let go, and where the first of them are let go.
use Rattle.std.proofs.Common.{◌≡◌, ℕ, ◌+◌, ◌-◌, ◌<◌, ◌≤◌, Bool, true, false, cond, List, ◌++◌, length, get_or, take, drop, map, take-append-drop, refl, ap, sym, ◌∙◌, subst, arith, inl, inr}
use Rattle.std.specs.List.{All}
use Rattle.std.specs.Option.{option_map_or}
use Rattle.std.proofs.lemmas.Bool.{cases_lt}
use Rattle.std.proofs.lemmas.List.{length-append, length-map, length-take, length-take-le, take-map, get_or-take, get_or_append_left, get_or-append-add, get_or_default}
use Rattle.std.proofs.lemmas.List.Elements.{All-append, All-map, All-weaker}
use Rattle.pipeline_manager.specs.declared.life.Life.{Life}
use Rattle.pipeline_manager.specs.declared.life.Life.TheVariants.{Answered}
use Rattle.pipeline_manager.specs.declared.life.SlotState.{SlotState}
use Rattle.pipeline_manager.specs.declared.life.QueryLife.{QueryLife}
use Rattle.pipeline_manager.specs.Lives.{life_in, is_waiting}
use Rattle.pipeline_manager.specs.Changes.{with_life, with_answer, is_ending, renewed}
use Rattle.pipeline_manager.specs.LetGo.{AreClosed, AreLetGo, IsClosed, IsOpenIn, LetGo, cut_held}
use Rattle.pipeline_manager.specs.Sound.{AreRising}
use Rattle.pipeline_manager.proofs.CutLemmas.{cut_held-number}
use Rattle.pipeline_manager.proofs.GoneLemmas.{cut-closed, ending-open, open-rest, written-closed}
use Rattle.pipeline_manager.proofs.LifeLemmas.{renewed-number}
use Rattle.pipeline_manager.proofs.PassedLemmas.{passed-cut_held, passed-with_life}
use Rattle.pipeline_manager.proofs.SoundLemmas.{rising-with_life}

-- there is room for a query
abbrev pub FitsBelow : (room : ℕ) → QueryLife → Type 0
FitsBelow room entry = entry.query < room

room-map : (room : ℕ) (change : QueryLife → QueryLife) (queries : List QueryLife)
    → ((entry : QueryLife) → (change entry).query ≡ entry.query) → All (λ entry. entry.query < room) queries
    → All (λ entry. entry.query < room) (map change queries)
room-map room change queries same fits =
    All-map (FitsBelow room) change queries
    (All-weaker (FitsBelow room) (λ entry. FitsBelow room (change entry))
    (λ entry below. subst (λ n. n < room) (sym (same entry)) below) queries fits)

-- a change that leaves the first lives leaves them over
closed-map : (count : ℕ) (change : QueryLife → QueryLife) (queries : List QueryLife) → map change (take count queries) ≡ take count queries
    → AreClosed count queries → AreClosed count (map change queries)
closed-map count change queries same closed = record {
  in_range = let many : length (map change queries) ≡ length queries = length-map queries change in
      let in_range = closed.in_range in omega arith;
  over = subst (All IsClosed) (sym (take-map change count queries ∙ same)) closed.over;
}

closed-written : (count query : ℕ) (life : Life) (queries : List QueryLife) → IsOpenIn queries query → AreClosed count queries
    → AreClosed count (with_life query life queries)
closed-written count query life queries may closed =
    closed-map count (renewed query life) queries
    (written-closed query life (take count queries) (drop count queries) closed.over
    (subst (λ list. IsOpenIn list query) (sym (take-append-drop count queries)) may))
    closed

-- a life that is written
pub kept-written : (gone : LetGo) (rest : List QueryLife) (passed closed query : ℕ) (life : Life) → is_waiting life ≡ false
    → IsOpenIn (gone.queries ++ rest) query → AreLetGo gone rest passed closed → AreLetGo gone (with_life query life rest) passed closed
kept-written gone rest passed closed query life waits may kept = record {
  over = kept.over;
  room = room-map gone.room (renewed query life) rest (renewed-number query life) kept.room;
  not_waiting = passed-with_life query life rest passed waits kept.not_waiting;
  ready = closed-written closed query life rest (open-rest gone.queries rest query kept.over may) kept.ready;
}

-- an answer
pub kept-answered : (gone : LetGo) (rest : List QueryLife) (passed closed query : ℕ) → AreLetGo gone rest passed closed
    → AreLetGo gone (with_answer query rest) passed closed
kept-answered gone rest passed closed query kept = by_test (option_map_or is_ending (life_in rest query) false) refl
  where
    by_test : (ends : Bool) → option_map_or is_ending (life_in rest query) false ≡ ends
        → AreLetGo gone (cond {A = List QueryLife} ends (with_life query Answered rest) rest) passed closed
    by_test true is = record {
      over = kept.over;
      room = room-map gone.room (renewed query Answered) rest (renewed-number query Answered) kept.room;
      not_waiting = passed-with_life query Answered rest passed refl kept.not_waiting;
      ready = closed-written closed query Answered rest (ending-open (life_in rest query) is) kept.ready;
    }
    by_test false is = kept

-- a cut
pub kept-cut : (gone : LetGo) (rest : List QueryLife) (passed closed first last : ℕ) (slots : List SlotState) → AreLetGo gone rest passed closed
    → AreLetGo gone (map (cut_held first last slots) rest) passed closed
kept-cut gone rest passed closed first last slots kept = record {
  over = kept.over;
  room = room-map gone.room (cut_held first last slots) rest (cut_held-number first last slots) kept.room;
  not_waiting = passed-cut_held first last slots rest passed kept.not_waiting;
  ready = closed-map closed (cut_held first last slots) rest (cut-closed first last slots (take closed rest) kept.ready.over) kept.ready;
}

-- the next query to be let go has a greater number than those before it
pub next-above : (gone queries : List QueryLife) (i : ℕ) (d : QueryLife) → AreRising (gone ++ queries) → i < length queries
    → All (λ other. other.query < (get_or queries i d).query) (gone ++ take i queries)
next-above gone queries i d rising within =
    All-append (λ other. other.query < (get_or queries i d).query) gone (take i queries)
    (λ k e below.
    let less = rising k (length gone + i) e (omega arith) (let all = joined in omega arith) in
    let lower : (get_or (gone ++ queries) k e).query ≡ (get_or gone k e).query = ap (λ o. o.query) (get_or_append_left gone queries e k below) in
    let upper = at_end i e within in
    omega arith)
    (λ k e below.
    let inside : k < i = let few = taken in omega arith in
    let less = rising (length gone + k) (length gone + i) e (omega arith) (let all = joined in omega arith) in
    let lower : (get_or (gone ++ queries) (length gone + k) e).query ≡ (get_or (take i queries) k e).query =
    ap (λ o. o.query) (get_or-append-add gone queries k e ∙ sym (get_or-take i queries k e inside)) in
    let upper = at_end i e within in
    omega arith)
  where
    joined : length (gone ++ queries) ≡ length gone + length queries
    joined = length-append gone queries

    taken : length (take i queries) ≤ i
    taken = let few = length-take i queries in omega arith

    at_end : (place : ℕ) (e : QueryLife) → place < length queries
        → (get_or (gone ++ queries) (length gone + place) e).query ≡ (get_or queries place d).query
    at_end place e inside = ap (λ o. o.query) (get_or-append-add gone queries place e ∙ get_or_default queries place e d inside)

-- what rises rises after an answer
pub rising-answered : (query : ℕ) (queries : List QueryLife) → AreRising queries → AreRising (with_answer query queries)
rising-answered query queries rising = by_test (option_map_or is_ending (life_in queries query) false)
  where
    by_test : (ends : Bool) → AreRising (cond {A = List QueryLife} ends (with_life query Answered queries) queries)
    by_test true = rising-with_life query Answered queries rising
    by_test false = rising

-- and in its front
pub rising-front : (gone rest : List QueryLife) (count : ℕ) → count ≤ length rest → AreRising (gone ++ rest) → AreRising (gone ++ take count rest)
rising-front gone rest count within rising = λ j k d low inside.
    let few : length (take count rest) ≡ count = length-take-le count rest within in
    let all : length (gone ++ take count rest) ≡ length gone + length (take count rest) = length-append gone (take count rest) in
    let more : length (gone ++ rest) ≡ length gone + length rest = length-append gone rest in
    let less = rising j k d low (omega arith) in
    let lower : (get_or (gone ++ take count rest) j d).query ≡ (get_or (gone ++ rest) j d).query = ap (λ e. e.query) (in_front-same j d (omega arith)) in
    let upper : (get_or (gone ++ take count rest) k d).query ≡ (get_or (gone ++ rest) k d).query = ap (λ e. e.query) (in_front-same k d (omega arith)) in
    omega arith
  where
    in_front-same : (place : ℕ) (d : QueryLife) → place < length gone + count → get_or (gone ++ take count rest) place d ≡ get_or (gone ++ rest) place d
    in_front-same place d below = elim (cases_lt place (length gone)) [
      | inl early ↦ get_or_append_left gone (take count rest) d place early ∙ sym (get_or_append_left gone rest d place early)
      | inr late ↦
          let offset : place ≡ length gone + (place - length gone) = omega arith in
          ap (λ k. get_or (gone ++ take count rest) k d) offset
          ∙ get_or-append-add gone (take count rest) (place - length gone) d
          ∙ get_or-take count rest (place - length gone) d (omega arith)
          ∙ sym (ap (λ k. get_or (gone ++ rest) k d) offset ∙ get_or-append-add gone rest (place - length gone) d)
    ]
