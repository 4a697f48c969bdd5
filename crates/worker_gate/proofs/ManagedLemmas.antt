-- What is made of a core by the events that a worker makes where no batch wants a filter.
use Rattle.std.proofs.Common.{◌≡◌, ℕ, ◌+◌, ◌<◌, Bool, true, false, List, Option, Some, None, Result, Err, Ok, OnOk, refl, sym, ap, ◌∙◌, subst, arith, eq-eqb}
use Rattle.std.proofs.lemmas.Bool.{ne_eqb}
use Rattle.std.proofs.lemmas.List.{get_or-take, length-take}
use Rattle.std.proofs.lemmas.Option.{get_or_from_slice_get, slice_get_within}
use Rattle.std.specs.List.{AllWithin}
use Rattle.std.specs.Prelude.{◌↔◌, ◌%◌, All, IsErrOf, IsSome, take}
use Rattle.core_state.specs.Events.{IsEnabled}
use Rattle.core_state.specs.Found.{flight_at}
use Rattle.core_state.specs.Sound.{IsSound}
use Rattle.core_state.specs.State.{Flight, State}
use Rattle.core_state.specs.Tables.{tables_by, tables_of}
use Rattle.core_state.specs.declared.event.Event.{Event}
use Rattle.core_state.specs.declared.event.Event.TheVariants.{Clear, Distribute, Reorder, Submit}
use Rattle.event_core.specs.Chosen.{IsManaged, kind_of}
use Rattle.event_core.specs.CoreParts.{Beside, CoreParts, beside_of, loan_of}
use Rattle.event_core.specs.Seen.{state_of}
use Rattle.event_core.specs.Took.{MayWantMemory, Took}
use Rattle.event_core.specs.declared.choosing.EventKind.{EventKind}
use Rattle.event_core.specs.declared.choosing.EventKind.TheVariants as kind
use Rattle.event_core.specs.declared.marks.Marks.{Marks}
use Rattle.event_core.specs.declared.stepping.StepFault.{StepFault}
use Rattle.event_core.specs.declared.stepping.StepFault.TheVariants.{Memory, NotEnabled}
use Rattle.event_core.proofs.ChoosingLemmas.{all-managed}
use Rattle.event_core.proofs.MadeLemmas.{makes-taken}
use Rattle.worker_gate.specs.Left.{LeavesAllLoans, LeavesRows}
use Rattle.worker_gate.specs.Managed.{IsFirstOf, ClearsNext, Manages, OrdersIf, counted_by, is_sixteenth, managed_kinds}
use Rattle.worker_gate.proofs.LeftLemmas.{MovesOne, leaves-kind, leaves-same, leaves-taken, leaves-then}

-- Steps.

-- an event that may come and was not taken wants memory
refused : {T : Type 0} (result : Result T StepFault) (fault : StepFault) (state : State) (event : Event) → result ≡ Err fault
    → IsEnabled state event → IsErrOf result NotEnabled ↔ (IsEnabled state event → ⊥)
    → (IsErrOf result Memory → IsEnabled state event × MayWantMemory event) → MayWantMemory event
refused result NotEnabled state event is may disabled memory = absurd (disabled.0 is may)
refused result Memory state event is may disabled memory = (memory is).1

-- one that wants none was taken
pub was-taken : {T : Type 0} (result : Result T StepFault) (old new : CoreParts) (event : Event) → IsEnabled (state_of old) event
    → (MayWantMemory event → ⊥) → OnOk result (Took event (state_of old) (state_of new))
    → IsErrOf result NotEnabled ↔ (IsEnabled (state_of old) event → ⊥)
    → (IsErrOf result Memory → IsEnabled (state_of old) event × MayWantMemory event) → Took event (state_of old) (state_of new)
was-taken (Ok x) old new event may none taken disabled memory = taken
was-taken (Err fault) old new event may none taken disabled memory =
    absurd (none (refused (Err fault) fault (state_of old) event refl may disabled memory))

-- Which comes first.

-- what holds up to a place holds of what stands before it
pub all-before : (P : EventKind → Type 0) (kinds : List EventKind) (place : ℕ) → AllWithin P kinds 0 place → All P (take place kinds)
all-before P kinds place within = λ k d low.
    let long = length-take place kinds in
    let before : k < place = omega arith in
    subst P (sym (get_or-take place kinds k d before)) (within k d (omega arith) before)

-- the kinds that a worker asks for are managed
each-managed : All IsManaged managed_kinds
each-managed = all-managed managed_kinds (tt, (tt, (tt, (tt, (tt, (tt, (tt, (tt, tt))))))))

-- so is that of the first event that may come
pub managed-first : (state : State) (of_kind : EventKind) (event : Event) → IsFirstOf managed_kinds state of_kind event
    → IsManaged (kind_of event)
managed-first state of_kind event first =
    subst IsManaged (get_or_from_slice_get managed_kinds first.place of_kind of_kind first.stands ∙ sym first.is_of)
    (each-managed first.place of_kind (slice_get_within managed_kinds first.place of_kind first.stands))

-- the first event that may come, and that wants memory, clears a filter
first-clears : (state : State) (of_kind : EventKind) (event : Event) → IsFirstOf managed_kinds state of_kind event → MayWantMemory event
    → ClearsNext state
first-clears state of_kind (Submit seat statement) first wants = absurd (managed-first state of_kind (Submit seat statement) first)
first-clears state of_kind (Clear slot dimension) first wants =
    record {
      event = Clear slot dimension;
      first = subst (λ one. IsFirstOf managed_kinds state one (Clear slot dimension)) (sym first.is_of) first;
    }
first-clears state of_kind other first wants = absurd wants

-- so does one that was not taken
pub to-clear : {T : Type 0} (result : Result T StepFault) (fault : StepFault) (state : State) (of_kind : EventKind) (event : Event)
    → result ≡ Err fault → IsFirstOf managed_kinds state of_kind event → IsErrOf result NotEnabled ↔ (IsEnabled state event → ⊥)
    → (IsErrOf result Memory → IsEnabled state event × MayWantMemory event) → ClearsNext state
to-clear result fault state of_kind event is first disabled memory =
    first-clears state of_kind event first (refused result fault state event is first.enabled disabled memory)

-- The filters are ordered.

-- what is not missing is there
some-by : {X : Type 0} (o : Option X) → (o ≡ None → ⊥) → IsSome o
some-by None never = absurd (never refl)
some-by (Some x) never = refl

-- a batch that is in flight is one of a fact table
fact-flown : (state : State) (batch : ℕ) → IsSound state → IsSome (flight_at state.scan.flights batch) → IsSome (tables_of state).schema.fact
fact-flown state batch sound there = some-by (tables_of state).schema.fact (λ none.
    let both : false ≡ true = subst (λ (flights : List Flight). IsSome (flight_at flights batch)) (sound.quiet none).1 there in cc)

-- so the filters may be ordered behind a Distribute
pub fact-distributed : (event : Event) (old new : State) → kind_of event ≡ kind.Distribute → IsSound old → Took event old new
    → IsSome (tables_of new).schema.fact
fact-distributed (Distribute batch) old new is sound took =
    subst (λ entries. IsSome (tables_by entries).schema.fact) (sym (makes-taken (Distribute batch) old new tt took).frame.entries)
    (fact-flown old batch sound took.enabled.there)
fact-distributed other old new is sound took = absurd (let both : kind_of other ≡ kind.Distribute = is in cc)

-- an order leaves the rows
pub leaves-ordered : MovesOne → (test : Bool) (old new : State) → IsSound old → OrdersIf test old new → LeavesRows old new
leaves-ordered law true old new sound took = leaves-taken law Reorder old new tt sound took (λ seat. tt)
leaves-ordered law false old new sound same = leaves-same old new same

-- of other kinds none is counted
pub counted-other : (of_kind : EventKind) (marks : Marks) → (of_kind ≡ kind.Distribute → ⊥) → counted_by of_kind marks ≡ marks
counted-other kind.Distribute marks apart = absurd (apart refl)
counted-other other marks apart = refl

-- and behind them none is made
pub orders-other : (of_kind : EventKind) (marks : Marks) (state : State) → (of_kind ≡ kind.Distribute → ⊥)
    → OrdersIf (is_sixteenth of_kind marks) state state
orders-other kind.Distribute marks state apart = absurd (apart refl)
orders-other other marks state apart = refl

-- where the count comes round one is made
pub orders-zero : (marks : Marks) (n : ℕ) (old new : State) → n ≡ (marks.distributed + 1) % 16 → n ≡ 0 → Took Reorder old new
    → OrdersIf (is_sixteenth kind.Distribute marks) old new
orders-zero marks n old new count zero took =
    subst (λ test. OrdersIf test old new) (sym (eq-eqb ((marks.distributed + 1) % 16) 0 (sym count ∙ zero))) took

-- and else none
pub orders-more : (marks : Marks) (n : ℕ) (old new : State) → n ≡ (marks.distributed + 1) % 16 → (n ≡ 0 → ⊥) → new ≡ old
    → OrdersIf (is_sixteenth kind.Distribute marks) old new
orders-more marks n old new count more same =
    subst (λ test. OrdersIf test old new) (sym (ne_eqb ((marks.distributed + 1) % 16) 0 (λ zero. more (count ∙ zero)))) same

-- A Distribute is counted.

-- the marks tell it
pub counted-up : (n : ℕ) (old new : CoreParts) → n ≡ (old.marks.distributed + 1) % 16
    → new ≡ record old { marks = record old.marks { distributed = n } } → new.marks ≡ counted_by kind.Distribute old.marks
counted-up n old new count same =
    ap (λ (parts : CoreParts). parts.marks) same ∙ ap (λ number. record old.marks { distributed = number }) count

-- and nothing else has changed
pub state-counted : (n : ℕ) (old new : CoreParts) → new ≡ record old { marks = record old.marks { distributed = n } } → state_of new ≡ state_of old
state-counted n old new same = ap state_of same

-- nor has what is lent
pub loans-counted : (n : ℕ) (old new : CoreParts) → new ≡ record old { marks = record old.marks { distributed = n } } → LeavesAllLoans old new
loans-counted n old new same seat = ap (λ (parts : CoreParts). loan_of parts seat) same

-- One event, and what is behind it.

-- the marks are as they were where what is beside the state is
pub marks-stay : (old new : CoreParts) → beside_of new ≡ beside_of old → new.marks ≡ old.marks
marks-stay old new beside = ap (λ (b : Beside). b.marks) beside

-- the event was made and counted, and the filters were ordered if it was time
pub manages-by : (of_kind : EventKind) (event : Event) (old between new : CoreParts) → IsFirstOf managed_kinds (state_of old) of_kind event
    → Took event (state_of old) (state_of between) → beside_of between ≡ beside_of old → new.marks ≡ counted_by of_kind between.marks
    → OrdersIf (is_sixteenth of_kind between.marks) (state_of between) (state_of new) → Manages of_kind old new
manages-by of_kind event old between new first took beside counted orders =
    let marks : between.marks ≡ old.marks = marks-stay old between beside in
    record {
      event = event;
      between = state_of between;
      first = first;
      took = took;
      counted = counted ∙ ap (counted_by of_kind) marks;
      orders = subst (λ (m : Marks). OrdersIf (is_sixteenth of_kind m) (state_of between) (state_of new)) marks orders;
    }

-- and it leaves the rows
pub leaves-managed : MovesOne → (of_kind : EventKind) (event : Event) (marks : Marks) (old between new : State) → IsManaged (kind_of event)
    → IsSound old → IsSound between → Took event old between → OrdersIf (is_sixteenth of_kind marks) between new → LeavesRows old new
leaves-managed law of_kind event marks old between new managed sound sound' took orders =
    leaves-then old between new (leaves-kind law event old between managed sound took)
    (leaves-ordered law (is_sixteenth of_kind marks) between new sound' orders)
