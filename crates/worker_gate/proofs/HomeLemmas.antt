-- What becomes of a core where a batch comes home.
use Rattle.std.proofs.Common.{◌≡◌, ℕ, Bool, true, false, Option, Some, None, refl, ap, ◌∙◌, subst}
use Rattle.std.specs.Prelude.{IfSome, IsSome, IsTrue, is_some}
use Rattle.core_state.specs.Found.{held_by}
use Rattle.core_state.specs.Rows.{SeatRow}
use Rattle.core_state.specs.Sound.{IsSound}
use Rattle.core_state.specs.State.{Flight, State}
use Rattle.core_state.specs.Tables.{tables_of}
use Rattle.core_state.specs.declared.event.Event.TheVariants.{Distribute, Give}
use Rattle.event_core.specs.Board.{core_row}
use Rattle.event_core.specs.CoreParts.{CoreParts, loan_of}
use Rattle.event_core.specs.Seen.{state_of}
use Rattle.event_core.specs.Took.{CameHome, Lands}
use Rattle.event_core.specs.declared.marks.Marks.{Marks}
use Rattle.event_core.specs.declared.work.Folding.{Folding}
use Rattle.worker_gate.specs.Hands.{HasNothing}
use Rattle.worker_gate.specs.Left.{LeavesAllLoans, LeavesRows, MovesHand}
use Rattle.worker_gate.specs.Managed.{BringsHome, OrdersIf, counted_home, is_sixteenth_home}
use Rattle.worker_gate.proofs.HandLemmas.{given-empty}
use Rattle.worker_gate.proofs.LeftLemmas.{MovesOne, StepsKeep, leaves-kind, leaves-same, leaves-then, moves-none, moves-taken, moves-then, took-sound}
use Rattle.worker_gate.proofs.ManagedLemmas.{fact-distributed, leaves-ordered}

-- the core is sound between the two events
between-sound : StepsKeep → (worker : ℕ) (folding : Option Folding) (old new : State) → IsSound old → (home : CameHome worker folding old new)
    → IsSound home.between
between-sound keep worker folding old new sound home = took-sound keep (Give worker) old home.between home.gave sound

-- the batch that came home has a number, and this came of it
landed-home : (worker : ℕ) (folding : Option Folding) (old new : State) → (home : CameHome worker folding old new)
    → (batch : ℕ) × Lands folding batch home.between new
landed-home worker folding old new home = by_hand (held_by old.scan.flights worker) home.gave.enabled home.landed
  where
    by_hand : (o : Option Flight) → IsSome o → IfSome o (λ flight. Lands folding flight.rows.number home.between new)
        → (batch : ℕ) × Lands folding batch home.between new
    by_hand None some landed = absurd (let both : false ≡ true = some in cc)
    by_hand (Some flight) some landed = (flight.rows.number, landed)

-- a batch that lands leaves the rows
leaves-landed : MovesOne → (folding : Option Folding) (batch : ℕ) (old new : State) → IsSound old → Lands folding batch old new
    → LeavesRows old new
leaves-landed law None batch old new sound same = leaves-same old new same
leaves-landed law (Some folding) batch old new sound landed =
    leaves-kind law (Distribute batch) old new tt sound landed

-- so does one that came home
leaves-home : MovesOne → StepsKeep → (worker : ℕ) (folding : Option Folding) (old new : State) → IsSound old
    → (home : CameHome worker folding old new) → LeavesRows home.between new
leaves-home law keep worker folding old new sound home =
    let landed = landed-home worker folding old new home in
    leaves-landed law folding landed.0 home.between new (between-sound keep worker folding old new sound home) landed.1

-- if it was folded outside, there is a fact table
fact-landed : (folding : Option Folding) (batch : ℕ) (old new : State) → IsSound old → Lands folding batch old new
    → IsTrue (is_some folding) → IsSome (tables_of new).schema.fact
fact-landed None batch old new sound same folded = absurd (let both : false ≡ true = folded in cc)
fact-landed (Some folding) batch old new sound landed folded = fact-distributed (Distribute batch) old new refl sound landed

-- so the filters may be ordered after it
pub fact-home : StepsKeep → (worker : ℕ) (folding : Option Folding) (old new : State) → IsSound old → CameHome worker folding old new
    → IsTrue (is_some folding) → IsSome (tables_of new).schema.fact
fact-home keep worker folding old new sound home =
    let landed = landed-home worker folding old new home in
    fact-landed folding landed.0 home.between new (between-sound keep worker folding old new sound home) landed.1

-- a batch that comes home, and what follows, moves the hand of its worker
pub moves-home : MovesOne → StepsKeep → (worker : ℕ) (folding : Option Folding) (test : Bool) (old between new : State) → IsSound old
    → IsSound between → CameHome worker folding old between → OrdersIf test between new → MovesHand worker old new
moves-home law keep worker folding test old between new sound sound' home orders =
    moves-then worker old home.between new (moves-taken law (Give worker) old home.between worker tt sound home.gave refl)
    (moves-none worker home.between new (leaves-then home.between between new
    (leaves-home law keep worker folding old between sound home)
    (leaves-ordered law test between new sound' orders)))

-- its worker has nothing then
pub empty-home : MovesOne → StepsKeep → (worker : ℕ) (folding : Option Folding) (test : Bool) (old between new : CoreParts)
    → IsSome (held_by (state_of old).scan.flights worker) → IsSound (state_of old) → IsSound (state_of between)
    → CameHome worker folding (state_of old) (state_of between) → OrdersIf test (state_of between) (state_of new)
    → loan_of between worker ≡ None → LeavesAllLoans between new → HasNothing (core_row new worker)
empty-home law keep worker folding test old between new some sound sound' home orders none loans = record {
  hand = ap (λ (row : SeatRow). row.hand) (leaves.rows worker)
      ∙ ap (λ (state : State). held_by state.scan.flights worker) home.after ∙ given-empty worker (state_of old) some sound;
  loan = loans worker ∙ none;
}
  where
    leaves : LeavesRows home.between (state_of new)
    leaves = leaves-then home.between (state_of between) (state_of new)
        (leaves-home law keep worker folding (state_of old) (state_of between) sound home)
        (leaves-ordered law test (state_of between) (state_of new) sound' orders)

-- and what was made of the core
pub brings-by : (worker : ℕ) (folding : Option Folding) (old between new : CoreParts)
    → CameHome worker folding (state_of old) (state_of between) → between.marks ≡ old.marks
    → new.marks ≡ counted_home (is_some folding) between.marks
    → OrdersIf (is_sixteenth_home (is_some folding) between.marks) (state_of between) (state_of new) → BringsHome worker folding old new
brings-by worker folding old between new home marks counted orders = record {
  between = state_of between;
  came = home;
  counted = counted ∙ ap (counted_home (is_some folding)) marks;
  orders = subst (λ (m : Marks). OrdersIf (is_sixteenth_home (is_some folding) m) (state_of between) (state_of new)) marks orders;
}
