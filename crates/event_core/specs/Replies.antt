-- What a reply that was taken is.
use Rattle.std.specs.Prelude.{◌≡◌, ◌⊎◌, ℕ, List, find, option_map, slice_get, Option, None, IfSome, IsSome, false}
use Rattle.std.specs.Option.{option_map_or}
use Rattle.star_plan.specs.Answer.{answer_of}
use Rattle.star_plan.specs.Joined.{Joined}
use Rattle.star_plan.specs.Test.{Query}
use Rattle.star_store.specs.Effect.{answer_reply}
use Rattle.reply_text.specs.declared.reply.Reply.{Reply}
use Rattle.reply_text.specs.declared.reply.Reply.TheVariants.{Memory}
use Rattle.aggregations.specs.Grouped.{grouped_of}
use Rattle.pipeline_manager.specs.Conditions.{is_open}
use Rattle.pipeline_manager.specs.Lives.{Lives, life_of}
use Rattle.core_state.specs.Answers.{IsRight}
use Rattle.core_state.specs.Sound.{IsSound}
use Rattle.core_state.specs.State.{Seat}
use Rattle.core_state.specs.Submitting as state
use Rattle.core_state.specs.Submitting.{after_taking, next_ready, seat_at}
use Rattle.event_core.specs.CoreParts.{CoreParts, beside_of}
use Rattle.event_core.specs.Seen.{state_of}
use Rattle.event_core.specs.declared.replies.Ready.{Ready}
use Rattle.event_core.specs.declared.replies.Ready.TheVariants.{Whole, Grouped}

-- what may be taken of the core, as code holds it
abbrev pub ready_of : Ready → state.Ready
ready_of (Whole reply) = state.Whole reply
ready_of (Grouped snapshot groups) = state.Grouping snapshot groups

-- the reply that a taken one is: a whole one as it is, or the answer of its groups at its snapshot,
-- whichever rows they are of; where that finds no memory it is `memory`
abbrev pub IsReplyOf : Ready → Reply → Type 0
IsReplyOf (Whole ready) reply = reply ≡ ready
IsReplyOf (Grouped snapshot groups) reply = (reply ≡ Memory) ⊎
    ((query : Query) (rows : List Joined) → groups ≡ grouped_of query rows
    → reply ≡ answer_reply snapshot (answer_of query rows))

-- what a call leaves that takes the next reply of a seat, and what it gives. Where the seat has
-- none that may be taken, nothing has changed
pub record TakesReply (seat : ℕ) (old new : CoreParts) (result : Option Ready) : Type 0 where
  pub ready : option_map ready_of result ≡ next_ready (state_of old) seat
  pub taken : IsSome result → state_of new ≡ after_taking seat (state_of old)
  pub none : result ≡ None → new ≡ old
  pub beside : beside_of new ≡ beside_of old
  pub right : IfSome result (λ ready.
      IfSome (slice_get (seat_at (state_of old) seat).pending 0) (λ pending.
      IsRight (state_of old) pending.statement pending.awaited (ready_of ready)))
  pub sound : IsSound (state_of new)

-- the number of the first query that a seat waits for and that may still be answered
abbrev pub first_open : Lives → Seat → Option ℕ
first_open lives seat = option_map (λ pending. pending.statement)
    (find (λ pending. option_map_or is_open (life_of lives pending.statement) false) seat.pending)
