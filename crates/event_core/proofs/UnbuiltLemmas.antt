-- A query of a core finds no memory as a filter is built for it.
use Rattle.event_core.proofs.Words.{◌∙◌, ◌∷◌, ◌≡◌, [], Accepted, accepted_as, accepted_in, after_build_wants, All, All-cons, All-head, All-nil, All-tail, ap, AskedQuery, attached_for, attached_or, attached_to, Becomes, Bool, Build, CanBuild, cond, CoreParts, eqb, eqb-true, false, forgotten, gets_rows, Grouped, IsCore, IsScannedAs, IsSome, IsSound, known_in, List, Lives, map, None, Option, option_map_or, reaches_in, refl, Scanning, State, state_of, subst, sym, true, unbuilt, Wanting, with_kept, with_kept_at, ℕ}
use Rattle.pipeline_manager.specs.declared.life.Life.TheVariants as life
use Rattle.core_state.specs.Events.{after_want}
use Rattle.event_core.proofs.HeldSlotLemmas.{attached_for-none}
use Rattle.event_core.proofs.QuietLemmas.{StepsKeep, core-left}
use Rattle.event_core.proofs.SeenLemmas.{known-with_kept, reaches-with_life, state-seen}

-- of a query for which nothing is attached, nothing is kept any more where nothing is kept beside
forgotten-one : (lives : Lives) (attached : List (Option Grouped)) (query : ℕ) (entry : AskedQuery) (t : Bool) → eqb entry.number query ≡ t
    → attached_for lives attached query ≡ None
    → accepted_as lives attached (cond {A = AskedQuery} t (record entry { kept = None }) entry)
    ≡ cond {A = Accepted} t (record (accepted_as lives attached entry) { groups = None }) (accepted_as lives attached entry)
forgotten-one lives attached query entry true is none =
    ap (λ groups. record (accepted_as lives attached entry) { groups = attached_or groups None })
    (ap (attached_for lives attached) (eqb-true entry.number query is) ∙ none)
forgotten-one lives attached query entry false is none = refl

pub accepted-forgotten : (lives : Lives) (attached : List (Option Grouped)) (query : ℕ) (asked : List AskedQuery)
    → attached_for lives attached query ≡ None
    → accepted_in lives attached (with_kept_at query None asked) ≡ map (forgotten query) (accepted_in lives attached asked)
accepted-forgotten lives attached query [] none = refl
accepted-forgotten lives attached query (entry ∷ asked) none =
    ap (λ one. one ∷ accepted_in lives attached (with_kept_at query None asked))
    (forgotten-one lives attached query entry (eqb entry.number query) refl none)
    ∙ ap (λ rest. forgotten query (accepted_as lives attached entry) ∷ rest) (accepted-forgotten lives attached query asked none)

-- nothing is kept beside what is attached where it was not, and nothing is kept beside a query any more
abbrev pub IsBeside : Lives → (attached : List (Option Grouped)) → AskedQuery → Type 0
IsBeside lives attached entry = IsSome (attached_for lives attached entry.number) → entry.kept ≡ None

pub beside-forgotten : (lives : Lives) (attached : List (Option Grouped)) (query : ℕ) (asked : List AskedQuery)
    → All (IsBeside lives attached) asked → All (IsBeside lives attached) (with_kept_at query None asked)
beside-forgotten lives attached query [] all = All-nil (IsBeside lives attached)
beside-forgotten lives attached query (entry ∷ asked) all =
    All-cons (IsBeside lives attached) (with_kept query None entry) (with_kept_at query None asked)
    (by_test (eqb entry.number query) (All-head (IsBeside lives attached) entry asked all))
    (beside-forgotten lives attached query asked (All-tail (IsBeside lives attached) entry asked all))
  where
    by_test : (t : Bool) → IsBeside lives attached entry
        → IsBeside lives attached (cond {A = AskedQuery} t (record entry { kept = None }) entry)
    by_test true here some = refl
    by_test false here some = here some

-- such a query leaves a core sound
sound-unbuilt : StepsKeep → (state : State) (query dimension : ℕ) → CanBuild query dimension state.lives → IsSound state
    → IsSound (after_build_wants query state)
unfolding after_want
sound-unbuilt keep state query dimension can sound = keep (Wanting (Build query dimension) []) state (can, tt) sound

-- the state
state-unbuilt : (parts : CoreParts) (query dimension : ℕ) → IsCore parts → CanBuild query dimension parts.lives
    → state_of (unbuilt query parts) ≡ after_build_wants query (state_of parts)
state-unbuilt parts query dimension core can = state-seen (unbuilt query parts)
    (map (forgotten query) (accepted_in parts.lives parts.attached parts.asked)) (known_in parts.asked) (reaches_in parts.lives.queries)
    (accepted-forgotten parts.lives parts.attached query parts.asked none)
    (known-with_kept query None parts.asked) (reaches-with_life query life.Spoiled parts.lives.queries)
  where
    none : attached_for parts.lives parts.attached query ≡ None
    none = ap (λ attached. attached_for parts.lives attached query) core.attached
        ∙ attached_for-none (state_of parts) query (ap (λ o. option_map_or gets_rows o false) can.building)

-- the parts where the query found no memory
pub becomes-unbuilt : StepsKeep
    → ((state : State) (scan : Scanning) (query dimension : ℕ) → CanBuild query dimension state.lives → IsScannedAs state scan
    → IsScannedAs (after_build_wants query state) scan)
    → ((state : State) (query dimension : ℕ) → CanBuild query dimension state.lives
    → attached_to (after_build_wants query state) ≡ attached_to state)
    → (parts : CoreParts) (query dimension : ℕ) → IsCore parts → CanBuild query dimension parts.lives
    → Becomes (unbuilt query parts) (after_build_wants query (state_of parts))
becomes-unbuilt keep scans attached parts query dimension core can =
    let same = state-unbuilt parts query dimension core can in
    record {
      state = same;
      core = core-left parts (unbuilt query parts) core
          (subst IsSound (sym same) (sound-unbuilt keep (state_of parts) query dimension can core.sound))
          (subst (λ state. IsScannedAs state parts.scan) (sym same) (scans (state_of parts) parts.scan query dimension can core.scanned))
          (ap attached_to same ∙ attached (state_of parts) query dimension can)
          (record {
            tables = refl;
            scan = refl;
            attached = refl;
            settings = refl;
            made = refl;
            words = refl;
            entries = refl;
            beside = beside-forgotten parts.lives parts.attached query parts.asked core.beside;
          });
    }
