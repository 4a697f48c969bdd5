-- What a door tells, and what each call does to it.
use Rattle.std.specs.Prelude.{◌≡◌, ℕ, Bool, true, false, MatchResult, Result, Ok, Err, Option, Some, None}
use Rattle.star_io.specs.Faults.{TellsFault, next_count}

-- what a door tells: how many calls failed, whether the last one did, the port of the last `listen`,
-- whether the door listens, how many links it gave out, and whether an `accept` answered `None`
pub record DoorSide : Type 0 where
  pub faults : ℕ
  pub failed : Bool
  pub asked : Option ℕ
  pub listening : Bool
  pub given : ℕ
  pub ended : Bool

-- a door listens after a `listen` that answered Ok, and after no other
abbrev pub Listens : {A E : Type 0} → Bool → Result A E → Type 0
Listens listening result = MatchResult result (λ _. listening ≡ true) (λ _. listening ≡ false)

-- how many links a door has given out, after an `accept` with this result
abbrev pub given_after : {L E : Type 0} → ℕ → Result (Option L) E → ℕ
given_after given (Ok (Some _)) = next_count given
given_after given (Ok None) = given
given_after given (Err _) = given

-- whether a door has ended: it had before, or this `accept` answered `None`
abbrev pub ended_after : {L E : Type 0} → Bool → Result (Option L) E → Bool
ended_after ended (Ok (Some _)) = ended
ended_after ended (Ok None) = true
ended_after ended (Err _) = ended

-- what a `listen` at this port does: it is the port that was last asked for, and the door listens
-- exactly if the call did not fail
pub record ListensAt {A E : Type 0} (port : ℕ) (old new : DoorSide) (result : Result A E)
    : Type 0 where
  pub fault : TellsFault old.faults new.faults new.failed result
  pub asked : new.asked ≡ Some port
  pub listens : Listens new.listening result
  pub given : new.given ≡ old.given
  pub ended : new.ended ≡ old.ended

-- what an `accept` does: it counts a link that it gives out, and notes the end
pub record Accepts {L E : Type 0} (old new : DoorSide) (result : Result (Option L) E)
    : Type 0 where
  pub fault : TellsFault old.faults new.faults new.failed result
  pub asked : new.asked ≡ old.asked
  pub listening : new.listening ≡ old.listening
  pub given : new.given ≡ given_after old.given result
  pub ended : new.ended ≡ ended_after old.ended result

-- a door that listens no more, and tells else what it told
abbrev pub closed : DoorSide → DoorSide
closed side = record side { listening = false }
