-- Parts whose state is known are those of a core where they fit that state.
use Rattle.event_core.proofs.Words.{after_step, All, AreTablesOf, attached_for, attached_to, Becomes, CoreParts, frame_words, frames_of, IsCore, IsScannedAs, IsSome, IsSound, List, MayStep, Option, State, state_of, Step, subst, sym}
use Rattle.std.specs.Prelude.{◌≡◌, None}
use Rattle.shared_distributor.specs.Shared.{Lending}

-- each step keeps a core sound
abbrev pub KeepSound : Type 0
KeepSound = (step : Step) (state : State) → MayStep state step → IsSound state → IsSound (after_step step state)

-- parts that fit a state
pub record AreOf (parts : CoreParts) (state : State) : Type 0 where
  pub sound : IsSound state
  pub tables : AreTablesOf state parts.tables
  pub scanned : IsScannedAs state parts.scan
  pub attached : parts.attached ≡ attached_to state
  pub beside : All (λ asked. IsSome (attached_for parts.lives parts.attached asked.number) → asked.kept ≡ None) parts.asked
  pub frames : parts.pool.made ≡ frames_of parts.settings
  pub words : parts.pool.words ≡ frame_words state

-- parts that fit the state that they stand for
core-of : (parts : CoreParts) → AreOf parts (state_of parts) → IsCore parts
core-of parts are = record {
  sound = are.sound;
  tables = are.tables;
  scanned = are.scanned;
  attached = are.attached;
  beside = are.beside;
  frames = are.frames;
  words = are.words;
}

-- parts that stand for a state and fit it
pub becomes-of : (parts : CoreParts) (after : State) → state_of parts ≡ after → AreOf parts after → Becomes parts after
becomes-of parts after same are = record {
  state = same;
  core = core-of parts (subst (AreOf parts) (sym same) are);
}

-- what is out with seats is no part of the state
pub becomes-out : (parts : CoreParts) (out : List (Option Lending)) (after : State) → Becomes parts after → Becomes (record parts { out = out }) after
becomes-out parts out after becomes = record {
  state = becomes.state;
  core = record {
    sound = becomes.core.sound;
    tables = becomes.core.tables;
    scanned = becomes.core.scanned;
    attached = becomes.core.attached;
    beside = becomes.core.beside;
    frames = becomes.core.frames;
    words = becomes.core.words;
  };
}
