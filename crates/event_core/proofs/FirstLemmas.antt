-- The parts of a new core.
use Rattle.event_core.proofs.Words.{◌∙◌, ◌∷◌, ◌≡◌, [], ap, AreWithin, arith, attached_to, Becomes, empty_core, empty_seat, empty_store, first_parts, frame_words, frames_of, IsKeyed, IsScannedAs, IsSound, KeyedStore, length, List, map, new_scan, None, plain, refl, replicate, RunSettings, Seat, seat_as, State, state_of, subst, suc, sym, zero, ℕ}
use Rattle.std.proofs.lemmas.List.{length-replicate}

-- seats of no statements are empty
seats-empty : (count : ℕ) → map (seat_as []) (replicate count []) ≡ replicate count empty_seat
seats-empty zero = refl
seats-empty (suc count) = ap (λ (seats : List Seat). empty_seat ∷ seats) (seats-empty count)

-- the state that they stand for
state-first : (settings : RunSettings) (tables : KeyedStore) (frames : List (List ℕ)) → length frames ≡ frames_of settings
    → state_of (first_parts settings tables frames) ≡ empty_core settings
state-first settings tables frames count =
    ap (λ seats. by seats (length frames)) (seats-empty settings.seats) ∙ ap (by (replicate settings.seats empty_seat)) count
  where
    by : List Seat → ℕ → State
    by seats free = record (empty_core settings) {
      seats = seats;
      scan = record { position = 0; flights = []; free = free; cut = 0 };
    }

-- they are those of an empty core
pub becomes-first : ((settings : RunSettings) → AreWithin settings → IsSound (empty_core settings))
    → ((settings : RunSettings) → IsScannedAs (empty_core settings) (new_scan settings.slots))
    → ((settings : RunSettings) → attached_to (empty_core settings) ≡ replicate settings.slots None)
    → (settings : RunSettings) (frames : List (List ℕ)) (tables : KeyedStore) → AreWithin settings
    → frames ≡ replicate (frames_of settings) (replicate (frame_words (empty_core settings)) 0)
    → plain tables ≡ empty_store → IsKeyed tables → Becomes (first_parts settings tables frames) (empty_core settings)
becomes-first sound scanned attached settings frames tables within made empty keyed =
    let same = state-first settings tables frames
    (ap length made ∙ length-replicate (frames_of settings) (replicate (frame_words (empty_core settings)) 0)) in
    record {
      state = same;
      core = record {
        sound = subst IsSound (sym same) (sound settings within);
        tables = record { same = empty; keyed = keyed };
        scanned = subst (λ state. IsScannedAs state (new_scan settings.slots)) (sym same) (scanned settings);
        attached = sym (ap attached_to same ∙ attached settings);
        beside = λ place d low. absurd (omega arith);
        frames = refl;
        words = refl;
      };
    }
