use Rattle.std.proofs.Common.{◌≡◌, true, option_map, sym, arith}
use Rattle.star_plan.specs.Fits.{some_test_fits}
use Rattle.star_values.specs.Value.{kinds_in}
use Rattle.star_plan.specs.Test.{test_of}
use Rattle.star_store.proofs.EndLemmas.{IsEndedTo-start, IsEndedTo-passed, IsEndedTo-ended, IsEndedTo-all, fits_behind}
use Rattle.star_store.proofs.ends.end_versions.Goals as goal
use Rattle.star_store.proofs.ends.end_versions.Goals.{then-is_ended_by, else-is_ended_by}

pub positions-init : goal.positions-init
positions-init c =
    IsEndedTo-start (option_map (λ p. test_of p.now) c.args.condition) c.args.commit c.args.facts.now.items
    c.len-position-end.result c.len-position-end.ensures.count

pub version-requires : goal.version-requires
version-requires c =
    let all = c.positions.invariant.all in
    let kept = c.positions.invariant.kept in
    let low = c.positions-test.true in omega arith

pub is_ended_by-requires : goal.is_ended_by-requires
is_ended_by-requires c =
    let condition = option_map (λ p. test_of p.now) c.args.condition in
    fits_behind condition c.args.commit c.args.facts.now.items c.positions.facts.items c.positions.position
    c.len-position-end.result c.positions.ended c.version.result.now
    (λ version. some_test_fits (kinds_in version.row) condition ≡ true) c.positions.invariant c.version.ensures
    c.positions-test.true c.requires.fits

pub end_at-requires-clause-within : goal.end_at-requires-clause-within
end_at-requires-clause-within c =
    let all = c.positions.invariant.all in
    let kept = c.positions.invariant.kept in
    let low = c.positions-test.true in omega arith

pub overflow_add-ended : goal.overflow_add-ended
overflow_add-ended c =
    let few = c.positions.invariant.few in
    let low = c.positions-test.true in
    let bound = c.len-position-end.type_inv in omega arith

pub positions-preserved : goal.positions-preserved
positions-preserved c =
    let condition = option_map (λ p. test_of p.now) c.args.condition in
    elim c.if-is_ended_by.branch [
      | then-is_ended_by w ↦
          rw (w.facts-is, w.end_at.ensures, w.ended-is)
          (IsEndedTo-ended condition c.args.commit c.args.facts.now.items c.positions.facts.items c.positions.position
          c.len-position-end.result c.positions.ended c.version.result.now c.positions.invariant c.positions-test.true
          c.version.ensures (sym w.if-is_ended_by.ensures))
      | else-is_ended_by w ↦
          rw (w.facts-is, w.ended-is)
          (IsEndedTo-passed condition c.args.commit c.args.facts.now.items c.positions.facts.items c.positions.position
          c.len-position-end.result c.positions.ended c.version.result.now c.positions.invariant c.positions-test.true
          c.version.ensures (sym w.if-is_ended_by.ensures))
    ]

pub returns-clause-versions : goal.returns-clause-versions
returns-clause-versions c =
    (IsEndedTo-all (option_map (λ p. test_of p.now) c.args.condition) c.args.commit c.args.facts.now.items c.positions.facts.items
    c.positions.position c.len-position-end.result c.positions.ended c.positions.invariant
    (let over = c.positions-test.false in omega arith)).0

pub returns-clause-count : goal.returns-clause-count
returns-clause-count c =
    (IsEndedTo-all (option_map (λ p. test_of p.now) c.args.condition) c.args.commit c.args.facts.now.items c.positions.facts.items
    c.positions.position c.len-position-end.result c.positions.ended c.positions.invariant
    (let over = c.positions-test.false in omega arith)).1
