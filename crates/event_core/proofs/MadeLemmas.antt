-- What events that were taken make of a core, where they leave the seats.
use Rattle.event_core.proofs.Words.{◌∷◌, [], All, All-head, All-tail, Build, Distribute, Event, IsEnabled, IsLed, List, State, subst, sym, TookAll, ⊎_elim}
use Rattle.std.proofs.lemmas.List.Elements.{All-weaker}
use Rattle.core_state.specs.Events.{LeavesSeats, after_want}
use Rattle.core_state.proofs.WholeFrameLemmas.{Frame, Makes, frame-all, frame-then, makes-distributed, makes-done, makes-unbuilt}
use Rattle.event_core.specs.Took.{IsSpoilt, Took}

-- one at which queries found no memory
makes-spoilt : (event : Event) (old new : State) → IsEnabled old event → IsSpoilt event old new → Makes event old new
unfolding after_want
makes-spoilt (Build query dimension) old new may spoilt =
    subst (Makes (Build query dimension) old) (sym spoilt) (makes-unbuilt query dimension old may)
makes-spoilt (Distribute batch) old new may spoilt =
    subst (Makes (Distribute batch) old) (sym spoilt.2) (makes-distributed batch spoilt.0 old spoilt.1.each)
makes-spoilt other old new may spoilt = absurd spoilt

-- one that was taken
pub makes-taken : (event : Event) (old new : State) → LeavesSeats event → Took event old new → Makes event old new
makes-taken event old new leaves took = ⊎_elim
    (λ done. subst (Makes event old) (sym done) (makes-done event old leaves took.enabled))
    (λ spoilt. makes-spoilt event old new took.enabled spoilt)
    took.after

-- and what all leave, one after the other
pub frame-taken : (events : List Event) (old new : State) → All LeavesSeats events → TookAll events old new → Frame old new
frame-taken [] old new leaves took = subst (Frame old) (sym took) (frame-all old)
frame-taken (event ∷ events) old new leaves took =
    frame-then old took.0 new (makes-taken event old took.0 (All-head LeavesSeats event events leaves) took.1).frame
    (frame-taken events took.0 new (All-tail LeavesSeats event events leaves) took.2)

pub frame-led : (IsOne : Event → Type 0) → ((event : Event) → IsOne event → LeavesSeats event) → (old new : State) → IsLed IsOne old new → Frame old new
frame-led IsOne each old new led = frame-taken led.events old new (All-weaker IsOne LeavesSeats each led.events led.each) led.took
