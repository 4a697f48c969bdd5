-- A slot that is taken from its holder.
use Rattle.std.proofs.Common.{◌≡◌, ℕ, ◌<◌, ◌+◌, Bool, true, false, cond, eqb, eq-eqb, List, length, get_or, set, Option, Some, None, option_map, refl, sym, arith, subst}
use Rattle.std.specs.List.{All}
use Rattle.std.specs.Option.{option_map_or}
use Rattle.std.specs.Bool.{IsTrue}
use Rattle.std.proofs.lemmas.Bool.{eqb-true, eqb-false}
use Rattle.std.proofs.lemmas.List.{length-set}
use Rattle.std.proofs.lemmas.List.Elements.{All-set, All-get_or}
use Rattle.pipeline_manager.specs.declared.life.Life.{Life}
use Rattle.pipeline_manager.specs.declared.life.Life.TheVariants.{Waiting, Building, Running, Ending, Answered, Spoiled, Abandoned}
use Rattle.pipeline_manager.specs.declared.life.SlotState.TheVariants.{Free, Held, Clearing}
use Rattle.pipeline_manager.specs.declared.life.QueryLife.{QueryLife}
use Rattle.pipeline_manager.specs.Lives.{Lives, life_in}
use Rattle.pipeline_manager.specs.Changes.{with_life, with_answer, is_ending}
use Rattle.pipeline_manager.specs.Conditions.{gives_up}
use Rattle.pipeline_manager.specs.Sound.{FitsSlots, AreRising, IsOfFilters, AreSoundLives, slots_held}
use Rattle.pipeline_manager.proofs.LifeLemmas.{life_in-same, life_in-other}
use Rattle.pipeline_manager.proofs.SoundLemmas.{IsLeftOf, rising-with_life, fits-one, left-with_life, slots_held-set}

-- what is over and not to be answered needs no slot
over-fits : (life : Option Life) → IsTrue (option_map_or gives_up life false) → option_map_or is_ending life false ≡ false
    → FitsSlots life 0
over-fits (Some Spoiled) over waits = (omega arith, omega arith)
over-fits (Some Abandoned) over waits = (omega arith, omega arith)
over-fits other over waits = cc

-- what is Answered needs no slot
answered-fits : (life : Option Life) → FitsSlots (option_map (λ old. Answered) life) 0
answered-fits None = (omega arith, omega arith)
answered-fits (Some life) = (omega arith, omega arith)

-- queries of which only the holder's life is another, and needs no slot any more
taken : (slot query built : ℕ) (queries : List QueryLife) (lives : Lives) → slot < length lives.slots
    → get_or lives.slots slot Free ≡ Held query built → AreRising queries → All IsLeftOf queries
    → FitsSlots (life_in queries query) 0
    → ((other : ℕ) → (other ≡ query → ⊥) → life_in queries other ≡ life_in lives.queries other) → AreSoundLives lives
    → AreSoundLives (record lives { queries = queries; slots = set lives.slots slot (Clearing built) })
taken slot query built queries lives within holds rising left over others sound =
    let many : length (set lives.slots slot (Clearing built)) ≡ length lives.slots = length-set lives.slots slot (Clearing built) in
    let some = sound.some in
    let few = sound.few in
    record {
      rising = rising;
      some = omega arith;
      few = omega arith;
      held = λ other. by_number other (eqb query other) refl;
      left = left;
      of_filters = All-set (IsOfFilters lives.filters) lives.slots slot (Clearing built)
          (subst (IsOfFilters lives.filters) holds (All-get_or (IsOfFilters lives.filters) lives.slots slot Free within sound.of_filters))
          sound.of_filters;
    }
  where
    count : (other : ℕ) → slots_held other (set lives.slots slot (Clearing built)) + cond {A = ℕ} (eqb query other) 1 0
        ≡ slots_held other lives.slots + 0
    count other = rw holds at (slots_held-set other lives.slots slot (Clearing built) within)

    at_query : FitsSlots (life_in queries query) (slots_held query (set lives.slots slot (Clearing built)))
    at_query =
        let one = fits-one (life_in lives.queries query) (slots_held query lives.slots) (sound.held query) in
        let counted = rw (eq-eqb query query refl) at (count query) in
        let none : 0 ≡ slots_held query (set lives.slots slot (Clearing built)) = omega arith in
        subst (FitsSlots (life_in queries query)) none over

    by_number : (other : ℕ) (same : Bool) → same ≡ eqb query other
        → FitsSlots (life_in queries other) (slots_held other (set lives.slots slot (Clearing built)))
    by_number other true e =
        subst (λ k. FitsSlots (life_in queries k) (slots_held k (set lives.slots slot (Clearing built))))
        (eqb-true query other (sym e)) at_query
    by_number other false e =
        let counted = rw (sym e) at (count other) in
        let equal : slots_held other lives.slots ≡ slots_held other (set lives.slots slot (Clearing built)) = omega arith in
        subst (λ o. FitsSlots o (slots_held other (set lives.slots slot (Clearing built))))
        (sym (others other (λ same. eqb-false query other (sym e) (sym same))))
        (subst (FitsSlots (life_in lives.queries other)) equal (sound.held other))

-- `end`
pub sound-ended : (slot query built : ℕ) (lives : Lives) → slot < length lives.slots → get_or lives.slots slot Free ≡ Held query built
    → IsTrue (option_map_or gives_up (life_in lives.queries query) false) → AreSoundLives lives
    → AreSoundLives (record lives { queries = with_answer query lives.queries; slots = set lives.slots slot (Clearing built) })
sound-ended slot query built lives within holds over sound =
    by_test (option_map_or is_ending (life_in lives.queries query) false) refl
  where
    by_test : (ends : Bool) → ends ≡ option_map_or is_ending (life_in lives.queries query) false
        → AreSoundLives (record lives { queries = with_answer query lives.queries; slots = set lives.slots slot (Clearing built) })
    by_test true e =
        rw (sym e)
        (taken slot query built (with_life query Answered lives.queries) lives within holds
        (rising-with_life query Answered lives.queries sound.rising)
        (left-with_life lives.queries query Answered sound.rising (λ entry found. tt) sound.left)
        (subst (λ o. FitsSlots o 0) (sym (life_in-same lives.queries query Answered)) (answered-fits (life_in lives.queries query)))
        (λ other apart. life_in-other lives.queries query other Answered apart) sound)
    by_test false e =
        rw (sym e)
        (taken slot query built lives.queries lives within holds sound.rising sound.left
        (over-fits (life_in lives.queries query) over (sym e)) (λ other apart. refl) sound)
