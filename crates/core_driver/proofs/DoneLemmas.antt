-- Where all is done, each query that might still be answered is answered, or found no memory.
use Rattle.core_driver.proofs.Words.{◌∙◌, ◌≡◌, ◌≢◌, ◌⊎◌, AnswersAll, ap, eqb, false, find-holds, get_or, inl, inr, is_open, IsDriven, IsFinished, IsLed, IsSound, IsTrue, Life, life_of, None, Option, option_map, query_in, query_in-found, QueryLife, refl, Some, State, StepsKeep, subst, sym, true, ℕ}
use Rattle.pipeline_manager.specs.declared.life.Life.TheVariants as life
use Rattle.core_driver.proofs.StayLemmas.{IsWanted, wanted-stays}

-- a life that is not open, and not Abandoned
ended : (now : Life) → is_open now ≡ false → now ≢ life.Abandoned → (Some now ≡ Some life.Answered) ⊎ (Some now ≡ Some life.Spoiled)
ended life.Answered closed wanted = inl refl
ended life.Spoiled closed wanted = inr refl
ended life.Abandoned closed wanted = absurd (wanted refl)
ended other closed wanted = absurd (let both : true ≡ false = closed in cc)

-- a query that is there, where none is open
ended-query : (state : State) (query : ℕ) → IsFinished state → IsWanted (life_of state.lives query)
    → (life_of state.lives query ≡ Some life.Answered) ⊎ (life_of state.lives query ≡ Some life.Spoiled)
ended-query state query finished wanted = by_found (query_in state.lives.queries query) refl wanted
  where
    Ended : Option QueryLife → Type 0
    Ended o = (option_map (λ e. e.life) o ≡ Some life.Answered) ⊎ (option_map (λ e. e.life) o ≡ Some life.Spoiled)

    by_found : (o : Option QueryLife) → query_in state.lives.queries query ≡ o → IsWanted (option_map (λ e. e.life) o) → Ended o
    by_found None is there = absurd there
    by_found (Some entry) is there =
        ended entry.life
        (find-holds (λ e. is_open e.life ≡ false) (λ e. eqb e.query query) state.lives.queries entry is finished.none_open) there

-- a query that is open is not abandoned
open-wanted : (now : Life) → IsTrue (is_open now) → now ≢ life.Abandoned
open-wanted now opens is = let both : true ≡ false = sym opens ∙ ap is_open is in cc

-- where all is done, each query that was open is answered, or found no memory
pub answers-all : StepsKeep → (old new : State) → IsSound old → IsLed IsDriven old new → IsFinished new → AnswersAll old new
answers-all keep old new sound led finished = λ place d low opens.
    let entry : QueryLife = get_or old.lives.queries place d in
    let found : life_of old.lives entry.query ≡ Some entry.life =
    ap (option_map (λ (e : QueryLife). e.life)) (query_in-found old.lives.queries place entry.query d sound.slots.lives.rising low refl) in
    ended-query new entry.query finished (wanted-stays keep entry.query old new led sound
    (subst IsWanted (sym found) (open-wanted entry.life opens)))
