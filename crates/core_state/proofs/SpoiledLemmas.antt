-- Queries that find no memory for the rows of a batch are spoiled one after the other.
use Rattle.core_state.proofs.Words.{◌||◌, ◌∙◌, ◌∷◌, ◌≡◌, ◌≢◌, [], Accepted, after_build_wants, after_distribute, after_spoil, All, All-head, All-tail, All-weaker, all_pairs_head, all_pairs_tail, AllPairs, ap, AreFed, Bool, CanSpoil, cond, eq-eqb, eqb, eqb-true, false, fed, Flight, flight_at, fold, forgotten, frame_words, get_or, gets_rows, is_begun, IsFed, IsSound, IsSoundBatch, IsThrough, Life, life_in-other, life_of, List, list_any, map, MayDistribute, None, Option, option_map_or, refl, Some, State, subst, sym, tables_of, true, unkept, ℕ}
use Rattle.std.proofs.lemmas.List.{map-id}
use Rattle.pipeline_manager.specs.declared.life.Life.TheVariants as life
use Rattle.core_state.proofs.AbandonLemmas.{sound-wanting}
use Rattle.core_state.proofs.AcceptedLemmas.{find-holds}
use Rattle.core_state.proofs.DistributeLemmas.{FoldsOne}
use Rattle.core_state.proofs.DistributedLemmas.{sound-landed}
use Rattle.core_state.proofs.FoundLemmas.{some-at, some-of}
use Rattle.core_state.proofs.LandedBitsLemmas.{same-tests}
use Rattle.core_state.proofs.LandedLemmas.{landed}

-- the core in which these queries found no memory, one after the other
abbrev spoiled_in_turn : List ℕ → State → State
spoiled_in_turn spoiled state = fold (λ now query. after_build_wants query now) state spoiled

turned : (a b : ℕ) → eqb a b ≡ eqb b a
turned a b = same-tests (eqb a b) (eqb b a) (λ e. eq-eqb b a (sym (eqb-true a b e))) (λ e. eq-eqb a b (sym (eqb-true b a e)))

-- nothing is kept of one query, and of some others
unkept-more : (query : ℕ) (spoiled : List ℕ) (accepted : Accepted) → unkept spoiled (forgotten query accepted) ≡ unkept (query ∷ spoiled) accepted
unkept-more query spoiled accepted =
    ap (λ t. unkept spoiled (cond {A = Accepted} t (record accepted { groups = None }) accepted)) (turned accepted.number query)
    ∙ by_test (eqb query accepted.number) (list_any (λ number. eqb number accepted.number) spoiled)
  where
    by_test : (t among : Bool)
        → cond {A = Accepted} (list_any (λ number. eqb number (cond {A = Accepted} t (record accepted { groups = None }) accepted).number) spoiled)
        (record (cond {A = Accepted} t (record accepted { groups = None }) accepted) { groups = None })
        (cond {A = Accepted} t (record accepted { groups = None }) accepted)
        ≡ cond {A = Accepted} (t || list_any (λ number. eqb number accepted.number) spoiled) (record accepted { groups = None }) accepted
    by_test true among = either (list_any (λ number. eqb number accepted.number) spoiled)
      where
        either : (t : Bool) → cond {A = Accepted} t (record accepted { groups = None }) (record accepted { groups = None })
            ≡ record accepted { groups = None }
        either true = refl
        either false = refl
    by_test false among = refl

all-unkept : (query : ℕ) (spoiled : List ℕ) (accepted : List Accepted)
    → map (unkept spoiled) (map (forgotten query) accepted) ≡ map (unkept (query ∷ spoiled)) accepted
all-unkept query spoiled [] = refl
all-unkept query spoiled (first ∷ accepted) =
    ap (λ a. a ∷ map (unkept spoiled) (map (forgotten query) accepted)) (unkept-more query spoiled first)
    ∙ ap (λ rest. unkept (query ∷ spoiled) first ∷ rest) (all-unkept query spoiled accepted)

-- spoiled at once is spoiled in turn
spoiled-so : (spoiled : List ℕ) (state : State) → spoiled_in_turn spoiled state
    ≡ record state {
      accepted = map (unkept spoiled) state.accepted;
      lives = fold (λ lives query. after_spoil query lives) state.lives spoiled;
    }
spoiled-so [] state = ap (λ accepted. record state { accepted = accepted }) (sym (map-id state.accepted))
spoiled-so (query ∷ spoiled) state =
    spoiled-so spoiled (after_build_wants query state)
    ∙ ap (λ accepted. record state {
      accepted = accepted;
      lives = fold (λ lives other. after_spoil other lives) (after_spoil query state.lives) spoiled;
    }) (all-unkept query spoiled state.accepted)

sound-in_turn : (spoiled : List ℕ) (state : State) → AllPairs (λ query other. query ≢ other) spoiled → All (λ query. CanSpoil query state.lives) spoiled
    → IsSound state → IsSound (spoiled_in_turn spoiled state)
sound-in_turn [] state apart can sound = sound
sound-in_turn (query ∷ spoiled) state apart can sound =
    sound-in_turn spoiled (after_build_wants query state) (all_pairs_tail (λ q other. q ≢ other) query spoiled apart)
    (λ k d low.
    subst (λ o. option_map_or is_begun o false ≡ true)
    (sym (life_in-other state.lives.queries query (get_or spoiled k d) life.Spoiled
    (λ same. all_pairs_head (λ q o. q ≢ o) query spoiled apart k d low (sym same))))
    (All-tail (λ q. CanSpoil q state.lives) query spoiled can k d low))
    (sound-wanting query state (All-head (λ q. CanSpoil q state.lives) query spoiled can) sound)

gets-begun : (now : Life) → gets_rows now ≡ true → is_begun now ≡ true
gets-begun life.Building e = refl
gets-begun (life.Running start left) e = refl
gets-begun life.Ending e = refl
gets-begun other e = e

fed-begun : (o : Option Life) → option_map_or gets_rows o false ≡ true → option_map_or is_begun o false ≡ true
fed-begun None e = e
fed-begun (Some now) e = gets-begun now e

pub sound-distributed : FoldsOne → (batch : ℕ) (spoiled : List ℕ) (state : State) → MayDistribute batch state → AreFed batch spoiled state
    → IsSound state → IsSound (after_distribute batch spoiled state)
sound-distributed folds batch spoiled state may fed sound =
    let here = some-of (flight_at state.scan.flights batch) may.there in
    let flight : Flight = here.0 in
    subst (λ o. IsSound (After o)) (sym here.1)
    (subst IsSound (spoiled-so spoiled (landed batch flight state))
    (sound-in_turn spoiled (landed batch flight state) fed.apart
    (All-weaker (λ query. IsFed batch query state) (λ query. CanSpoil query state.lives)
    (λ query is_fed. fed-begun (life_of state.lives query) is_fed.gets) spoiled fed.each)
    (sound-landed folds batch flight state here.1
    (find-holds (IsSoundBatch (frame_words state) (tables_of state) state.lives state.accepted) (λ f. eqb f.rows.number batch) state.scan.flights flight
    here.1 sound.batches)
    (some-at (IsThrough state.filters) (flight_at state.scan.flights batch) flight here.1 may.through) sound)))
  where
    After : Option Flight → State
    After o = option_map_or (λ flight. record (landed batch flight state) {
      accepted = map (unkept spoiled) (landed batch flight state).accepted;
      lives = fold (λ lives query. after_spoil query lives) state.lives spoiled;
    }) o state
