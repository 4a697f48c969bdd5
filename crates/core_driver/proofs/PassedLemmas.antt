-- Events by which batches pass filters, and a new order, leave lives, tables and the scan, and as much work.
use Rattle.core_driver.proofs.Words.{◌∙◌, ◌≡◌, all_to_cut, ap, Build, by-option, Distribute, Event, find, Give, inr, IsSpoilt, length, List, Lives, refl, Reorder, ScanState, State, steps_to_free, subst, sum_by, sym, tables_by, Take, Took, work_in, ℕ, ⊎_elim}
use Rattle.std.proofs.lemmas.List.{length-map}
use Rattle.core_state.specs.Events.{after_event}
use Rattle.core_state.specs.Found.{is_held_by}
use Rattle.core_state.specs.State.{Entry}
use Rattle.core_driver.proofs.TakenLemmas.{LeavesBatches, still-leaves, taken-lives}
use Rattle.core_driver.proofs.WorkLifeLemmas.{steps_in}
use Rattle.core_driver.proofs.WorkNumberLemmas.{work_of}

-- an event by which a batch comes into a hand or out of it
abbrev pub IsOfHand : Event → Type 0
IsOfHand (Take worker batch) = Unit {0}
IsOfHand (Give worker) = Unit {0}
IsOfHand other = ⊥

-- what is left where batches pass filters
pub record Passes (old new : State) : Type 0 where
  pub entries : new.entries ≡ old.entries
  pub lives : new.lives ≡ old.lives
  pub position : new.scan.position ≡ old.scan.position
  pub cut : new.scan.cut ≡ old.scan.cut
  pub flights : length new.scan.flights ≡ length old.scan.flights

-- an event of a hand that is done
event-passes : (event : Event) (state : State) → IsOfHand event → Passes state (after_event event state)
unfolding after_event
event-passes (Take worker batch) state passing =
    record { entries = refl; lives = refl; position = refl; cut = refl; flights = length-map state.scan.flights _ }
event-passes (Give worker) state passing =
    by-option (Passes state) (find (is_held_by worker) state.scan.flights) _ state
    (record { entries = refl; lives = refl; position = refl; cut = refl; flights = refl })
    (λ flight is. record { entries = refl; lives = refl; position = refl; cut = refl; flights = length-map state.scan.flights _ })
event-passes other state passing = absurd passing

-- no query finds no memory where a batch is taken or given back
never-spoilt : (event : Event) (old new : State) → IsOfHand event → IsSpoilt event old new → ⊥
never-spoilt (Build query dimension) old new passing spoilt = passing
never-spoilt (Distribute batch) old new passing spoilt = passing
never-spoilt other old new passing spoilt = spoilt

-- what an event of a hand leaves
pub took-hands : (event : Event) (old new : State) → IsOfHand event → Took event old new → Passes old new
took-hands event old new passing took = ⊎_elim
    (λ done. subst (Passes old) (sym done) (event-passes event old passing))
    (λ spoilt. absurd (never-spoilt event old new passing spoilt))
    took.after

-- the work that is left, by the parts of a core that tell it
abbrev pub work_by : Lives → List Entry → (position flights : ℕ) → ℕ
work_by lives entries position flights =
    work_of (all_to_cut lives.queries) (length (tables_by entries).versions) position (steps_in lives.queries)
    (sum_by steps_to_free lives.slots) flights

-- the work is told by lives, tables, and where the scan stands with how many batches
pub same-work : (old new : State) → new.lives ≡ old.lives → new.entries ≡ old.entries → new.scan.position ≡ old.scan.position
    → length new.scan.flights ≡ length old.scan.flights → work_in new ≡ work_in old
same-work old new lives entries position flights =
    ap (λ now. work_by now new.entries new.scan.position (length new.scan.flights)) lives
    ∙ ap (λ now. work_by old.lives now new.scan.position (length new.scan.flights)) entries
    ∙ ap (λ now. work_by old.lives old.entries now (length new.scan.flights)) position
    ∙ ap (work_by old.lives old.entries old.scan.position) flights

-- a new order leaves the lives and slots
pub reordered-lives : (old new : State) → Took Reorder old new → new.lives ≡ old.lives
reordered-lives old new took = ⊎_elim (λ same. same) (λ never. absurd never) (taken-lives Reorder old new (inr tt) took)

-- and as much work
pub work-reordered : (old new : State) → Took Reorder old new → work_in new ≡ work_in old
work-reordered old new took =
    let left : LeavesBatches old new = still-leaves Reorder old new tt took in
    same-work old new (reordered-lives old new took) left.entries (ap (λ (scan : ScanState). scan.position) left.scan) (ap (λ (scan : ScanState). length scan.flights) left.scan)
