-- Nothing that was submitted is ever dropped.
use Rattle.std.specs.Prelude.{◌≡◌, ◌⊎◌, ℕ, List, map, All, Contains, Some}
use Rattle.pipeline_manager.specs.Lives.{life_in}
use Rattle.pipeline_manager.specs.declared.life.Life.TheVariants as life
use Rattle.pipeline_manager.specs.declared.life.QueryLife.{QueryLife}
use Rattle.core_state.specs.State.{Seat, State}

-- a statement that a seat submitted is accounted for: the seat took its reply, or waits for it,
-- or its query was abandoned
abbrev pub IsAccountedFor : List QueryLife → Seat → (statement : ℕ) → Type 0
IsAccountedFor queries seat statement =
    Contains (map (λ taken. taken.statement) seat.taken) statement
    ⊎ (Contains (map (λ pending. pending.statement) seat.pending) statement
    ⊎ (life_in queries statement ≡ Some life.Abandoned))

-- no statement of any seat is lost
abbrev pub LosesNone : State → Type 0
LosesNone state =
    All (λ seat. All (IsAccountedFor state.lives.queries seat) seat.submitted) state.seats
