-- The events of a round leave a scan that is on its way on its way.
use Rattle.core_driver.proofs.Words.{◌-◌, ◌∙◌, ◌≡◌, ◌≤◌, after_cutting, All, ap, arith, BeganAt, CameRound, Cut, first_in, first_of, inl, inr, IsEnd, IsLedCutting, IsLeftBetween, IsOfRound, IsOnItsWay, IsSound, IsToComeRound, EndsWithin, MayCut, positions_of, State, StepsKeep, subst, sym, Took, versions_in, ℕ, ⊎_elim}
use Rattle.core_driver.proofs.CuttingLemmas.{SpendsEach, landing-cuts, led-spends}
use Rattle.core_driver.proofs.LapCutLemmas.{CutsOn, cut_of, cuts-on}
use Rattle.core_driver.proofs.LapEndsLemmas.{all-ends, over-began, over-between}
use Rattle.core_driver.proofs.LapLandingLemmas.{Lands, lands-taken}
use Rattle.core_driver.proofs.LapRestLemmas.{by-round, cut-done, rests-land, runs-land}
use Rattle.core_driver.proofs.LedLemmas.{took-sound}

-- the table has as many versions
versions-land : (old new : State) → Lands old new → versions_in new ≡ versions_in old
versions-land old new lands = (rests-land old new lands).versions

-- the next cut begins where it did
first-land : (old new : State) → Lands old new → first_in new ≡ first_in old
first-land old new lands =
    ap (λ position. first_of position (versions_in new)) lands.position ∙ ap (first_of old.scan.position) (versions-land old new lands)

-- the way ends where it did
end-land : (end : ℕ) (old new : State) → Lands old new → IsEnd end old → IsEnd end new
end-land end old new lands is_end = record {
  within = subst (λ n. end ≤ n) (sym (versions-land old new lands)) is_end.within;
  is = ⊎_elim (λ last. inl (last ∙ sym (versions-land old new lands))) (λ began. inr (
    began.0,
    all-ends (λ entry. BeganAt end entry.life) (λ entry. over-began end entry.life) old.lives.queries new.lives.queries lands.ends began.1,
  )) is_end.is;
}

-- a scan that is to come round is still to
coming-land : (end most : ℕ) (old new : State) → Lands old new → IsToComeRound end most old → IsToComeRound end most new
coming-land end most old new lands coming = record {
  is_end = end-land end old new lands coming.is_end;
  enough =
      let versions = versions-land old new lands in
      let first = first-land old new lands in
      let all = coming.enough in
      omega arith;
}

-- one that came round has as much left
came-land : (end most : ℕ) (old new : State) → Lands old new → CameRound end most old → CameRound end most new
came-land end most old new lands came = record {
  is_end = end-land end old new lands came.is_end;
  left = subst (λ first. All (λ entry. IsLeftBetween first end entry.extent entry.life) new.lives.queries) (sym (first-land old new lands))
      (all-ends (λ entry. IsLeftBetween (first_in old) end entry.extent entry.life)
      (λ entry. over-between (first_in old) end entry.extent entry.life) old.lives.queries new.lives.queries lands.ends came.left);
  enough = let first = first-land old new lands in let all = came.enough in omega arith;
}

-- an event other than a cut leaves the way
pub way-land : (end most : ℕ) (old new : State) → Lands old new → IsOnItsWay end most old → IsOnItsWay end most new
way-land end most old new lands way = ⊎_elim
    (λ none. inl (runs-land old new lands none))
    (λ on. inr (⊎_elim
    (λ coming. inl (coming-land end most old new lands coming))
    (λ came. inr (came-land end most old new lands came)) on)) way

-- the way ends within as many positions
within-land : (left : ℕ) (old new : State) → Lands old new → EndsWithin left old → EndsWithin left new
within-land left old new lands within = record {
  end = within.end;
  most = within.most;
  way = way-land within.end within.most old new lands within.way;
  enough = within.enough;
}

-- a cut takes its positions from the way
within-cut : (left : ℕ) (old : State) → IsSound old → MayCut old → IsSound (after_cutting old) → EndsWithin left old
    → (positions_of Cut old ≤ left) × EndsWithin (left - positions_of Cut old) (after_cutting old)
within-cut left old sound may later within =
    let on : CutsOn within.end within.most old = cuts-on within.end within.most old sound may later within.way in
    let all = within.enough in
    let enough = on.enough in
    ((omega arith), record { end = within.end; most = within.most - cut_of old; way = on.way; enough = omega arith })

-- an event of a round
within-round : StepsKeep → SpendsEach IsOfRound EndsWithin
within-round keep event left old new one sound =
    by-round (λ event. Took event old new → EndsWithin left old
    → (positions_of event old ≤ left) × EndsWithin (left - positions_of event old) new)
    (λ took within.
    let done = cut-done old new took in
    let later : IsSound (after_cutting old) = subst IsSound done (took-sound keep Cut old new took sound) in
    let cut = within-cut left old sound took.enabled later within in
    (cut.0, subst (EndsWithin (left - positions_of Cut old)) (sym done) cut.1))
    (λ other landing took within.
    let none = landing-cuts other old landing in (
      (omega arith),
      subst (λ n. EndsWithin n new) (let same : left ≡ left - positions_of other old = omega arith in same)
          (within-land left old new (lands-taken other old new landing took) within),
    ))
    event one

-- a round leaves the scan on its way, by as many positions as were cut
pub round-within : StepsKeep → (cut left : ℕ) (old new : State) → IsLedCutting IsOfRound cut old new → IsSound old → EndsWithin left old
    → (cut ≤ left) × EndsWithin (left - cut) new
round-within keep = led-spends keep IsOfRound EndsWithin (within-round keep)
