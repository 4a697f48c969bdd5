use Rattle.std.proofs.Common.{◌≡◌, ◌-◌, ◌++◌, ◌∙◌, length, take, replicate, ap, subst, sym}
use Rattle.std.specs.Prelude.{None}
use Rattle.std.proofs.lemmas.List.{length-take-le}
use Rattle.continuous_scan.specs.Inside.{AreUsed}
use Rattle.continuous_scan.proofs.UsedLemmas.{used-split}
use Rattle.continuous_scan.proofs.slots.Slots.in_use.Goals as goal

pub returns-clause-used : goal.returns-clause-used
returns-clause-used c =
    let used = c.self.inside.used in
    let running = c.self.inside.running in
    let long : length (take used c.as_slice.result.now) ≡ used =
    ap (λ slots. length (take used slots)) c.as_slice.ensures ∙ length-take-le used running c.self.invariant.below.within in
    subst (AreUsed (length (take used c.as_slice.result.now))) c.self.view_is
    (subst (λ n. AreUsed n running) (sym long) c.self.invariant)

pub returns-clause-split : goal.returns-clause-split
returns-clause-split c =
    let used = c.self.inside.used in
    subst (λ all. all ≡ take used c.as_slice.result.now ++ replicate (length all - length (take used c.as_slice.result.now)) None) c.self.view_is
    (subst (λ all. c.self.inside.running ≡ take used all ++ replicate (length c.self.inside.running - length (take used all)) None) (sym c.as_slice.ensures)
    (used-split used c.self.inside.running c.self.invariant.below))
