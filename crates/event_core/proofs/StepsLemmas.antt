-- What a call leaves that takes the submission of a statement, if it may come.
use Rattle.event_core.proofs.Words.{◌<◌, ◌≡◌, after_submitting, ap, CoreParts, length, refl, state_of, Statement, subst, sym}
use Rattle.std.proofs.Common.{Bool, false, Err, Ok, inl, ℕ}
use Rattle.std.specs.Prelude.{◌↔◌, All, IsTrue, None}
use Rattle.star_store.specs.Text.{may_change_tables, meaning_of}
use Rattle.core_state.specs.Events.{after_event}
use Rattle.core_state.specs.Sound.{IsSound}
use Rattle.event_core.specs.CoreParts.{beside_of}
use Rattle.event_core.specs.Took.{Submits}
use Rattle.event_core.specs.declared.stepping.SubmitFault.TheVariants.{NotEnabled, Busy, Memory}

-- a seat that is not there may not submit
pub submits-refused : (seat : ℕ) (statement : Statement) (core : CoreParts) (has : Bool) → IsTrue has ↔ (seat < length (state_of core).seats)
    → has ≡ false → IsSound (state_of core) → Submits seat statement core core (Err NotEnabled)
submits-refused seat statement core has tells none sound = record {
  disabled = (λ _ enabled. let there = tells.1 enabled in cc (there, none), λ _. refl);
  taken = tt;
  err = refl;
  busy = λ busy. cc busy;
  beside = refl;
  sound = sound;
}

-- the statement was submitted
pub submits-taken : (seat : ℕ) (statement : Statement) (old new : CoreParts) → seat < length (state_of old).seats
    → state_of new ≡ after_submitting seat statement (state_of old) → beside_of new ≡ beside_of old → IsSound (state_of new)
    → Submits seat statement old new (Ok tt)
unfolding after_event
submits-taken seat statement old new there is beside sound = record {
  disabled = (λ refused. cc refused, λ never. absurd (never there));
  taken = record { enabled = there; after = inl is };
  err = tt;
  busy = λ busy. cc busy;
  beside = beside;
  sound = sound;
}

-- there was no memory for it
pub submits-wanting : (seat : ℕ) (statement : Statement) (old new : CoreParts) → seat < length (state_of old).seats → new ≡ old
    → IsSound (state_of old) → Submits seat statement old new (Err Memory)
submits-wanting seat statement old new there same sound = record {
  disabled = (λ refused. cc refused, λ never. absurd (never there));
  taken = tt;
  err = same;
  busy = λ busy. cc busy;
  beside = ap beside_of same;
  sound = subst (λ (parts : CoreParts). IsSound (state_of parts)) (sym same) sound;
}

-- groups or tables are out, and it may change the tables
pub submits-busy : (seat : ℕ) (statement : Statement) (old new : CoreParts) → seat < length (state_of old).seats → new ≡ old
    → IsSound (state_of old)
    → (¬ (All (λ lending. lending ≡ None) (beside_of old).out)) × IsTrue (may_change_tables (meaning_of statement))
    → Submits seat statement old new (Err Busy)
submits-busy seat statement old new there same sound waits = record {
  disabled = (λ refused. cc refused, λ never. absurd (never there));
  taken = tt;
  err = same;
  busy = λ _. waits;
  beside = ap beside_of same;
  sound = subst (λ (parts : CoreParts). IsSound (state_of parts)) (sym same) sound;
}
