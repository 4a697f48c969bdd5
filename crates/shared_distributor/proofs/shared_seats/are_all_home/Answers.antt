use Rattle.std.proofs.Common.{◌<◌, ◌∙◌, ap, arith, get_or, inl, inr, length, map, refl, sym}
use Rattle.std.specs.Prelude.{None, IsTrue}
use Rattle.std.proofs.lemmas.Bool.{cases_eq}
use Rattle.std.proofs.lemmas.List.{length-map}
use Rattle.shared_distributor.specs.Seats.{lending_in}
use Rattle.shared_distributor.proofs.LoopLemmas.{same_read}
use Rattle.shared_distributor.proofs.SeatLemmas.{lending-get}
use Rattle.shared_distributor.proofs.shared_seats.are_all_home.Goals as goal

pub returns-then-not-is_home : goal.returns-then-not-is_home
returns-then-not-is_home c = (
  λ never. absurd (cc never),
  λ all.
      let long = length-map c.args.seats.now lending_in in
      let low : c.loop-k.k < length c.args.seats.now = omega arith in
      let home = ap lending_in c.index-seats-k.is ∙ sym (lending-get c.args.seats.now c.loop-k.k c.index-seats-k.result low)
      ∙ all c.loop-k.k None (omega (arith, long, low)) in
      let yes : IsTrue c.is_home.result = c.is_home.ensures.1 home in
      sym c.if-not-is_home.true ∙ yes,
)

pub loop-k-preserved : goal.loop-k-preserved
loop-k-preserved c j under = elim (cases_eq j c.loop-k.k) [
  | inl e ↦
      let low : c.loop-k.k < length c.args.seats.now = omega arith in
      ap (λ n. get_or (map lending_in c.args.seats.now) n None) e
      ∙ lending-get c.args.seats.now c.loop-k.k c.index-seats-k.result low
      ∙ sym (ap lending_in c.index-seats-k.is)
      ∙ c.is_home.ensures.0 c.if-not-is_home.false
  | inr apart ↦ c.loop-k.invariant j (omega arith)
]

pub returns : goal.returns
returns c = (
  λ yes k d low.
      let long = length-map c.args.seats.now lending_in in
      same_read (map lending_in c.args.seats.now) k d None low ∙ c.loop-k.invariant k (omega (arith, long, low)),
  λ all. refl,
)
