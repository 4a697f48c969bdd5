-- A front whose core was given nothing.
use Rattle.script_run.proofs.Words.{◌<◌, ◌≡◌, All-nil, ap, arith, count_by, empty_core, empty_seat, get_or, is_query, IsCounted, KnowsCore, Pending, refl, RunSettings, Seat, seat_at, State, state_of, subst, suc, sym, zero, ℕ}
use Rattle.core_state.specs.Settings.{AreWithin}
use Rattle.event_core.specs.CoreParts.{CoreParts}
use Rattle.script_run.specs.Counted.{IsCalm}
use Rattle.std.proofs.Common.{replicate}

-- the front of a new core waits for nothing, and took nothing
pub new-seat : (settings : RunSettings) → seat_at (empty_core settings) 0 ≡ empty_seat
new-seat settings = by_count settings.seats
  where
    by_count : (n : ℕ) → get_or (replicate n empty_seat) 0 empty_seat ≡ empty_seat
    by_count zero = refl
    by_count (suc n) = refl

-- there are slots
pub some-slots : (settings : RunSettings) → AreWithin settings → 0 < settings.slots
some-slots settings within = let slots = within.slots in omega (arith, slots)

-- no batch of it is in a hand, no query is open, and no statement is waited for
new-calm : (settings : RunSettings) → IsCalm 0 (empty_core settings)
new-calm settings = record {
  idle = All-nil _;
  waits = All-nil _;
  unfinished = refl;
  awaited = ap (λ (s : Seat). count_by (λ (p : Pending). is_query p.awaited) s.pending) (new-seat settings);
}

-- what the front knows of it
pub new-knows : (settings : RunSettings) (core : State) → AreWithin settings → core ≡ empty_core settings → KnowsCore settings 0 core
new-knows settings core within is = subst (KnowsCore settings 0) (sym is) (record {
  some = some-slots settings within;
  settings = refl;
  submitted = refl;
  hands = All-nil _;
})

-- and it counted none
pub new-counted : (settings : RunSettings) (core : CoreParts) → state_of core ≡ empty_core settings
    → IsCounted (record { core = core; unfinished = 0 })
new-counted settings core is = record {
  calm = subst (IsCalm 0) (sym is) (new-calm settings);
  few = omega arith;
}
