-- No batch comes into a hand but by an event that takes one.
use Rattle.core_driver.proofs.Words.{◌∙◌, ◌≡◌, All, All-filter, All-push, All-weaker, AreIdle, Build, Clear, Cut, cut_flight, Distribute, eqb, Event, Finish, Flight, IsLed, IsManaged, IsReorder, IsStill, IsThrough, kind_of, None, not, refl, Release, Reserve, ScanState, Start, State, StaysIdle, subst, sym, Took, ℕ, ⊎_elim}
use Rattle.core_state.specs.Events.{after_event}
use Rattle.event_core.specs.CoreParts.{CoreParts}
use Rattle.core_driver.proofs.LedLemmas.{led-holds}
use Rattle.core_driver.proofs.TakenLemmas.{distributes, still-leaves}

-- the batch is in no hand
abbrev IsIdle : Flight → Type 0
IsIdle flight = flight.hand ≡ None

-- an event that moves no batch
idle-still : (event : Event) (old new : State) → IsStill event → Took event old new → AreIdle old → AreIdle new
idle-still event old new still took idle =
    subst (λ (scan : ScanState). All IsIdle scan.flights) (sym (still-leaves event old new still took).scan) idle

-- a cut
idle-cut : (old new : State) → Took Cut old new → AreIdle old → AreIdle new
unfolding after_event
idle-cut old new took idle = ⊎_elim
    (λ done. subst AreIdle (sym done) (All-push IsIdle old.scan.flights (cut_flight old) idle refl))
    (λ never. absurd never)
    took.after

-- a distribution
idle-distributed : (batch : ℕ) (old new : State) → Took (Distribute batch) old new → AreIdle old → AreIdle new
idle-distributed batch old new took idle =
    subst (λ (scan : ScanState). All IsIdle scan.flights) (sym (distributes batch old new took).scan)
    (All-filter (λ (flight : Flight). not (eqb flight.rows.number batch)) IsIdle old.scan.flights idle)

-- an event of a managed kind brings no batch into a hand
pub idle-taken : (event : Event) (old new : State) → IsManaged (kind_of event) → Took event old new → AreIdle old → AreIdle new
idle-taken (Reserve query slot) old new is took idle = idle-still (Reserve query slot) old new tt took idle
idle-taken (Build query dimension) old new is took idle = idle-still (Build query dimension) old new tt took idle
idle-taken (Start query) old new is took idle = idle-still (Start query) old new tt took idle
idle-taken Cut old new is took idle = idle-cut old new took idle
idle-taken (Distribute batch) old new is took idle = idle-distributed batch old new took idle
idle-taken (Finish slot) old new is took idle = idle-still (Finish slot) old new tt took idle
idle-taken (Clear slot dimension) old new is took idle = idle-still (Clear slot dimension) old new tt took idle
idle-taken (Release slot) old new is took idle = idle-still (Release slot) old new tt took idle
idle-taken other old new is took idle = absurd is

-- batches that passed all filters are in no hand
pub idle-through : (state : State) → All (IsThrough state.filters) state.scan.flights → AreIdle state
idle-through state through =
    All-weaker (IsThrough state.filters) IsIdle (λ flight passed. passed.idle) state.scan.flights through

-- nor does one come into a hand where the filters are ordered
pub idle-reordered : (old new : State) → IsLed IsReorder old new → AreIdle old → AreIdle new
idle-reordered = led-holds IsReorder AreIdle (λ event old new is took idle. idle-still event old new (subst IsStill (sym is) tt) took idle)

-- what stays so, and does then
pub stays-then : (old mid new : CoreParts) → StaysIdle old mid → StaysIdle mid new → StaysIdle old new
stays-then old mid new first second = record {
  idle = λ idle. second.idle (first.idle idle);
  beside = second.beside ∙ first.beside;
}
