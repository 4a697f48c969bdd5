-- An event of a round other than a cut leaves the table and where the scan stands, and begins no query.
use Rattle.core_driver.proofs.Words.{◌∙◌, ◌≡◌, after_cleared, after_end, after_free, after_spoil, ap, Clear, Clearing, Distribute, Event, Finish, fold, Free, Give, given_up, Held, inr, IsLed, IsOfLanding, IsStill, length, length-set, List, Lives, refl, Release, Reorder, ScanState, slot_at, SlotState, State, subst, sym, Take, Took, without_dimension, ℕ, ⊎_elim}
use Rattle.core_state.proofs.WholeLivesLemmas.{slots-spoiled}
use Rattle.core_driver.proofs.LapEndsLemmas.{Ends, ends-answer, ends-both, ends-same, ends-spoiled}
use Rattle.core_driver.proofs.LedLemmas.{led-holds}
use Rattle.core_driver.proofs.PassedLemmas.{Passes, took-hands}
use Rattle.core_driver.proofs.TakenLemmas.{Distributes, LeavesBatches, distributes, still-leaves, taken-lives}

-- what such an event leaves of the lives and slots
record LandsLives (old new : Lives) : Type 0 where
  slots : length new.slots ≡ length old.slots
  ends : Ends old.queries new.queries

-- what it leaves of a core
pub record Lands (old new : State) : Type 0 where
  pub entries : new.entries ≡ old.entries
  pub position : new.scan.position ≡ old.scan.position
  pub slots : length new.lives.slots ≡ length old.lives.slots
  pub ends : Ends old.lives.queries new.lives.queries

-- all is left of lives by themselves
lives-same : (lives : Lives) → LandsLives lives lives
lives-same lives = record { slots = refl; ends = ends-same lives.queries }

-- a slot that is taken from its query
lives-ended : (slot : ℕ) (lives : Lives) → LandsLives lives (after_end slot lives)
lives-ended slot lives = by_slot (slot_at lives slot)
  where
    by_slot : (now : SlotState) → LandsLives lives (given_up slot now lives)
    by_slot Free = lives-same lives
    by_slot (Held query built) = record { slots = length-set lives.slots slot (Clearing built); ends = ends-answer query lives.queries }
    by_slot (Clearing left) = lives-same lives

-- one that is cleared of a dimension
lives-cleared : (slot dimension : ℕ) (lives : Lives) → LandsLives lives (after_cleared slot dimension lives)
lives-cleared slot dimension lives = record {
  slots = length-set lives.slots slot (without_dimension dimension (slot_at lives slot));
  ends = ends-same lives.queries;
}

-- one that is released
lives-freed : (slot : ℕ) (lives : Lives) → LandsLives lives (after_free slot lives)
lives-freed slot lives = record { slots = length-set lives.slots slot Free; ends = ends-same lives.queries }

-- what is left where queries find no memory
lives-spoiled : (spoiled : List ℕ) (lives : Lives) → LandsLives lives (fold (λ now query. after_spoil query now) lives spoiled)
lives-spoiled spoiled lives = record { slots = ap length (slots-spoiled spoiled lives); ends = ends-spoiled spoiled lives }

-- an event that moves no batch, by what it makes of the lives
lands-still : (event : Event) (old new : State) → IsStill event → Took event old new → LandsLives old.lives new.lives → Lands old new
lands-still event old new still took lives =
    let left : LeavesBatches old new = still-leaves event old new still took in
    record {
      entries = left.entries;
      position = ap (λ (scan : ScanState). scan.position) left.scan;
      slots = lives.slots;
      ends = lives.ends;
    }

-- one by which a batch comes into a hand or out of it
lands-passes : (old new : State) → Passes old new → Lands old new
lands-passes old new passes =
    let lives : LandsLives old.lives new.lives = subst (LandsLives old.lives) (sym passes.lives) (lives-same old.lives) in
    record { entries = passes.entries; position = passes.position; slots = lives.slots; ends = lives.ends }

-- a distribution
lands-distributes : (batch : ℕ) (old new : State) → Distributes batch old new → Lands old new
lands-distributes batch old new done =
    let lives : LandsLives old.lives new.lives = subst (LandsLives old.lives) (sym done.lives) (lives-spoiled done.spoiled old.lives) in
    record {
      entries = done.entries;
      position = ap (λ (scan : ScanState). scan.position) done.scan;
      slots = lives.slots;
      ends = lives.ends;
    }

-- what such an event that was taken leaves
pub lands-taken : (event : Event) (old new : State) → IsOfLanding event → Took event old new → Lands old new
lands-taken (Take worker batch) old new one took = lands-passes old new (took-hands (Take worker batch) old new tt took)
lands-taken (Give worker) old new one took = lands-passes old new (took-hands (Give worker) old new tt took)
lands-taken (Distribute batch) old new one took = lands-distributes batch old new (distributes batch old new took)
lands-taken (Finish slot) old new one took =
    lands-still (Finish slot) old new tt took
    (⊎_elim (λ done. subst (LandsLives old.lives) (sym done) (lives-ended slot old.lives)) (λ never. absurd never)
    (taken-lives (Finish slot) old new (inr tt) took))
lands-taken (Clear slot dimension) old new one took =
    lands-still (Clear slot dimension) old new tt took
    (⊎_elim (λ done. subst (LandsLives old.lives) (sym done) (lives-cleared slot dimension old.lives)) (λ never. absurd never)
    (taken-lives (Clear slot dimension) old new (inr tt) took))
lands-taken (Release slot) old new one took =
    lands-still (Release slot) old new tt took
    (⊎_elim (λ done. subst (LandsLives old.lives) (sym done) (lives-freed slot old.lives)) (λ never. absurd never)
    (taken-lives (Release slot) old new (inr tt) took))
lands-taken Reorder old new one took =
    lands-still Reorder old new tt took
    (⊎_elim (λ done. subst (LandsLives old.lives) (sym done) (lives-same old.lives)) (λ never. absurd never)
    (taken-lives Reorder old new (inr tt) took))
lands-taken event old new one took = absurd one

-- nothing changes of it
lands-same : (state : State) → Lands state state
lands-same state = record { entries = refl; position = refl; slots = refl; ends = ends-same state.lives.queries }

-- such events one after the other
lands-both : (old mid new : State) → Lands old mid → Lands mid new → Lands old new
lands-both old mid new first second = record {
  entries = second.entries ∙ first.entries;
  position = second.position ∙ first.position;
  slots = second.slots ∙ first.slots;
  ends = ends-both old.lives.queries mid.lives.queries new.lives.queries first.ends second.ends;
}

-- what a list of them leaves
pub led-lands : (old new : State) → IsLed IsOfLanding old new → Lands old new
led-lands old new led =
    led-holds IsOfLanding (Lands old)
    (λ event before after one took first. lands-both old before after first (lands-taken event before after one took))
    old new led (lands-same old)
