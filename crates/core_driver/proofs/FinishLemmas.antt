-- What turn after turn leaves, from the call on.
use Rattle.core_driver.proofs.Words.{◌*◌, ◌+◌, ◌-◌, ◌∷◌, ◌≡◌, ◌≤◌, [], Admits, All, All-weaker, AreTurns, arith, count_by, false, find, find-none, HasLap, inl, inr, is_to_start, is_unfinished, IsDriven, IsFinished, IsLanded, IsLed, IsLedCutting, IsOfAdmission, IsOfLanding, IsOfRound, IsRunning, IsSound, IsTurn, IsWholeTurn, LandsAndTurns, length, Life, List, MayGoOn, None, NoneIsToStart, Option, QueryLife, refl, SharesLap, Some, SomeRuns, State, StepsKeep, subst, true, unfinished_in, versions_in, ℕ, ⊎_elim}
use Rattle.std.proofs.Common.{◌++◌}
use Rattle.pipeline_manager.specs.declared.life.Life.TheVariants as life
use Rattle.event_core.specs.declared.choosing.EventKind.TheVariants as kind
use Rattle.core_driver.specs.Driven.{FinishesAll}
use Rattle.core_driver.proofs.CuttingLemmas.{admission-cuts, count-led, cutting-joined, cutting-wider, cuts-nothing, landing-cuts, led-of}
use Rattle.core_driver.proofs.DoneLemmas.{answers-all}
use Rattle.core_driver.proofs.KindLemmas.{some-of-first, some-of-more}
use Rattle.core_driver.proofs.LapCountLemmas.{count-one}
use Rattle.core_driver.proofs.LapLandingLemmas.{led-lands}
use Rattle.core_driver.proofs.LapQueryLemmas.{none-any}
use Rattle.core_driver.proofs.LapRestLemmas.{rests-land}
use Rattle.core_driver.proofs.LapStartLemmas.{none-enabled}
use Rattle.core_driver.proofs.LapTurnLemmas.{lap-goes, lap-lands}
use Rattle.core_driver.proofs.LedLemmas.{led-sound}
use Rattle.core_driver.proofs.PhaseLemmas.{led-round, round-landing}
use Rattle.core_driver.proofs.RoundLemmas.{settled-landed}
use Rattle.core_driver.proofs.SettleLemmas.{finishes}
use Rattle.core_driver.proofs.WholeLemmas.{goes-by}

-- what was in flight landed, whole turns followed, and the lap goes on within its bound, as far as it is said at the call
pub record HasGone (first now : State) : Type 0 where
  pub cut : ℕ
  pub led : IsLedCutting IsDriven cut first now
  pub landed : IsLanded now
  pub turns : LandsAndTurns first now
  pub none : unfinished_in first ≡ 0 → (unfinished_in now ≡ 0) × (cut ≡ 0)
  pub once : unfinished_in first ≤ length first.lives.slots → (SomeRuns first → ⊥) → (cut ≤ versions_in first) × HasLap (versions_in first - cut) now
  pub twice : unfinished_in first ≤ length first.lives.slots → (cut ≤ 2 * versions_in first) × HasLap (2 * versions_in first - cut) now

-- the driver's events so far
pub gone-driven : (first now : State) → HasGone first now → IsLed IsDriven first now
gone-driven first now gone = led-of IsDriven gone.cut first now gone.led

-- the driver takes events of a landing, which cut nothing
landing-driven : (old new : State) → IsLed IsOfLanding old new → IsLedCutting IsDriven 0 old new
landing-driven old new led =
    cutting-wider IsOfLanding IsDriven (λ event one. inr (round-landing event one)) 0 old new (cuts-nothing IsOfLanding landing-cuts old new led)

-- a lap of which nothing was cut has all of its bound left
all-left : (bound : ℕ) (state : State) → HasLap bound state → (0 ≤ bound) × HasLap (bound - 0) state
all-left bound state has = ((omega arith), subst (λ n. HasLap n state) (let same : bound ≡ bound - 0 = omega arith in same) has)

-- once what was in flight landed
pub gone-first : StepsKeep → (first now : State) → IsSound first → IsLed IsOfLanding first now → IsLanded now → HasGone first now
gone-first keep first now sound led landed = record {
  cut = 0;
  led = landing-driven first now led;
  landed = landed;
  turns = record { landed = now; turns = []; lands = led; each = refl };
  none = λ none. let fewer = (rests-land first now (led-lands first now led)).unfinished in ((omega arith), refl);
  once = λ few none. all-left (versions_in first) now (lap-lands keep (versions_in first) first now sound led landed few (inr (refl, none)));
  twice = λ few. all-left (2 * versions_in first) now (lap-lands keep (2 * versions_in first) first now sound led landed few (inl refl));
}

-- where it breaks off
pub first-lap : (first now : State) → IsLed IsOfLanding first now → SharesLap first now
first-lap first now led = record {
  cut = 0;
  led = landing-driven first now led;
  none = λ none. refl;
  once = λ few none. omega arith;
  twice = λ few. omega arith;
}

-- where none is unfinished, each query is finished
none-unfinished : (queries : List QueryLife) → count_by (λ entry. is_unfinished entry.life) queries ≡ 0
    → All (λ entry. is_unfinished entry.life ≡ false) queries
none-unfinished queries none = by_found (find (λ entry. is_unfinished entry.life) queries) refl
  where
    by_found : (o : Option QueryLife) → find (λ entry. is_unfinished entry.life) queries ≡ o → All (λ entry. is_unfinished entry.life ≡ false) queries
    by_found None found = find-none (λ entry. is_unfinished entry.life) queries found
    by_found (Some first) found =
        let one = count-one (λ entry. is_unfinished entry.life) queries first found in
        absurd (omega arith)

-- what is finished is not to begin to run
to-start : (now : Life) → is_unfinished now ≡ false → is_to_start now ≡ false
to-start life.Waiting is = is
to-start life.Building is = is
to-start other is = refl

-- nor does it run
never-runs : (now : Life) → is_unfinished now ≡ false → IsRunning now → ⊥
never-runs (life.Running start left) is runs = let both : true ≡ false = is in cc
never-runs other is runs = runs

-- where no query is unfinished, none may go on
never-goes : (state : State) → unfinished_in state ≡ 0 → MayGoOn state → ⊥
never-goes state none may = ⊎_elim
    (λ one. none-enabled one.0 state starts one.1.0 one.1.1)
    (λ cuts. none-any (λ entry. IsRunning entry.life) state.lives.queries
    (All-weaker (λ entry. is_unfinished entry.life ≡ false) (λ entry. IsRunning entry.life → ⊥) (λ entry. never-runs entry.life) state.lives.queries all)
    cuts.running)
    (goes-by state may)
  where
    all : All (λ entry. is_unfinished entry.life ≡ false) state.lives.queries
    all = none-unfinished state.lives.queries none

    starts : NoneIsToStart state
    starts = All-weaker (λ entry. is_unfinished entry.life ≡ false) (λ entry. is_to_start entry.life ≡ false) (λ entry. to-start entry.life)
        state.lives.queries all

-- whole turns and one more
turns-more : (turns : List State) (old mid new : State) → AreTurns turns old mid → IsWholeTurn mid new → AreTurns (turns ++ new ∷ []) old new
turns-more [] old mid new same turn = (subst (λ state. IsWholeTurn state new) same turn, refl)
turns-more (next ∷ rest) old mid new turns turn = (turns.0, turns-more rest next mid new turns.1 turn)

-- an admission and a round cut what the round cuts
halves-cut : (cut : ℕ) (old mid new : State) → IsLed IsOfAdmission old mid → IsLedCutting IsOfRound cut mid new → IsLedCutting IsDriven cut old new
halves-cut cut old mid new admits round =
    subst (λ n. IsLedCutting IsDriven n old new) (let same : 0 + cut ≡ cut = omega arith in same)
    (cutting-joined IsDriven 0 cut old mid new
    (cutting-wider IsOfAdmission IsDriven (λ event one. inl one) 0 old mid (cuts-nothing IsOfAdmission admission-cuts old mid admits))
    (cutting-wider IsOfRound IsDriven (λ event one. inr one) cut mid new round))

-- what is left of a lap after more was cut
less-left : (bound cut more : ℕ) (state : State) → (more ≤ bound - cut) × HasLap (bound - cut - more) state → cut ≤ bound
    → (cut + more ≤ bound) × HasLap (bound - (cut + more)) state
less-left bound cut more state left low =
    let most = left.0 in
    ((omega arith), subst (λ n. HasLap n state) (let same : bound - cut - more ≡ bound - (cut + more) = omega arith in same) left.1)

-- a turn behind turns, of which the round cut so many
gone-round : StepsKeep → (bound : ℕ) (first old mid new : State) (gone : HasGone first old) (more : ℕ) → IsSound old
    → (gone.cut ≤ bound) × HasLap (bound - gone.cut) old → Admits old mid → IsLedCutting IsOfRound more mid new
    → (gone.cut + more ≤ bound) × HasLap (bound - (gone.cut + more)) new
gone-round keep bound first old mid new gone more sound left admits round =
    less-left bound gone.cut more new (lap-goes keep more (bound - gone.cut) old mid new sound left.1 admits round) left.0

-- after one turn more
pub gone-on : StepsKeep → (first old new : State) → IsSound first → HasGone first old → MayGoOn old → IsWholeTurn old new → HasGone first new
gone-on keep first old new sound gone may whole =
    let so_sound : IsSound old = led-sound keep IsDriven first old (gone-driven first old gone) sound in
    let round = count-led IsOfRound whole.mid new (led-round whole.mid new whole.round) in
    record {
      cut = gone.cut + round.0;
      led = cutting-joined IsDriven gone.cut round.0 first old new gone.led
          (halves-cut round.0 old whole.mid new whole.admits.led round.1);
      landed = settled-landed new whole.settled;
      turns = record {
        landed = gone.turns.landed;
        turns = gone.turns.turns ++ new ∷ [];
        lands = gone.turns.lands;
        each = turns-more gone.turns.turns gone.turns.landed old new gone.turns.each whole;
      };
      none = λ none. absurd (never-goes old (gone.none none).0 may);
      once = λ few none. gone-round keep (versions_in first) first old whole.mid new gone round.0 so_sound (gone.once few none) whole.admits round.1;
      twice = λ few. gone-round keep (2 * versions_in first) first old whole.mid new gone round.0 so_sound (gone.twice few) whole.admits round.1;
    }

-- where a turn breaks off
pub gone-lap : StepsKeep → (first old new : State) → IsSound first → HasGone first old → MayGoOn old → IsTurn old new → SharesLap first new
gone-lap keep first old new sound gone may turn =
    let so_sound : IsSound old = led-sound keep IsDriven first old (gone-driven first old gone) sound in
    let more = count-led IsOfRound turn.mid new turn.round in
    record {
      cut = gone.cut + more.0;
      led = cutting-joined IsDriven gone.cut more.0 first old new gone.led (halves-cut more.0 old turn.mid new turn.admits.led more.1);
      none = λ none. absurd (never-goes old (gone.none none).0 may);
      once = λ few none. (gone-round keep (versions_in first) first old turn.mid new gone more.0 so_sound (gone.once few none) turn.admits more.1).0;
      twice = λ few. (gone-round keep (2 * versions_in first) first old turn.mid new gone more.0 so_sound (gone.twice few) turn.admits more.1).0;
    }

-- the lap so far
pub gone-shares : (first now : State) → HasGone first now → SharesLap first now
gone-shares first now gone = record {
  cut = gone.cut;
  led = gone.led;
  none = λ none. (gone.none none).1;
  once = λ few none. (gone.once few none).0;
  twice = λ few. (gone.twice few).0;
}

-- where queries may not go on, all is done
gone-finishes : StepsKeep → (first now : State) → IsSound first → HasGone first now → (MayGoOn now → ⊥) → IsFinished now
gone-finishes keep first now sound gone stops =
    finishes now (led-sound keep IsDriven first now (gone-driven first now gone) sound) gone.landed
    (λ event is enabled. stops (event, (some-of-first kind.Reserve (kind.Build ∷ kind.Start ∷ kind.Cut ∷ []) event is, enabled)))
    (λ event is enabled. stops (
      event,
      (
        some-of-more kind.Reserve (kind.Build ∷ kind.Start ∷ kind.Cut ∷ []) event
            (some-of-first kind.Build (kind.Start ∷ kind.Cut ∷ []) event is),
        enabled,
      ),
    ))
    (λ event is enabled. stops (
      event,
      (
        some-of-more kind.Reserve (kind.Build ∷ kind.Start ∷ kind.Cut ∷ []) event
            (some-of-more kind.Build (kind.Start ∷ kind.Cut ∷ []) event (some-of-first kind.Start (kind.Cut ∷ []) event is)),
        enabled,
      ),
    ))
    (λ event is enabled. stops (
      event,
      (
        some-of-more kind.Reserve (kind.Build ∷ kind.Start ∷ kind.Cut ∷ []) event
            (some-of-more kind.Build (kind.Start ∷ kind.Cut ∷ []) event
            (some-of-more kind.Start (kind.Cut ∷ []) event (some-of-first kind.Cut [] event is))),
        enabled,
      ),
    ))

-- and each query that was open is answered, or found no memory
pub gone-all : StepsKeep → (first now : State) → IsSound first → HasGone first now → (MayGoOn now → ⊥) → FinishesAll first now
gone-all keep first now sound gone stops =
    let finished = gone-finishes keep first now sound gone stops in
    record {
      turns = gone.turns;
      finished = finished;
      answers = answers-all keep first now sound (gone-driven first now gone) finished;
    }
