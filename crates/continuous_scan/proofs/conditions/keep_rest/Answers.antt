use Rattle.std.proofs.Common.{◌∙◌, ap, sym}
use Rattle.std.specs.List.{list_all}
use Rattle.star_plan.specs.Test.{query_of}
use Rattle.fact_versions.specs.declared.version.Version.{Version}
use Rattle.star_plan.specs.declared.condition.Condition.{Condition}
use Rattle.continuous_scan.specs.Stamped.{passes_version}
use Rattle.std.specs.Prelude.{Some}
use Rattle.continuous_scan.specs.ByValue.{lets_rest, lets_unless_met}
use Rattle.continuous_scan.specs.Inside.{kept}
use Rattle.continuous_scan.proofs.KeptLemmas.{kept-always}
use Rattle.continuous_scan.proofs.conditions.keep_rest.Goals as goal

pub returns-in-Always : goal.returns-in-Always
returns-in-Always c =
    let fact = (query_of c.args.query.now.query).fact in
    sym (kept-always c.args.slot c.args.versions.now c.args.bits.now c.requires.count)
    ∙ ap (λ (condition : Condition). kept c.args.slot (λ (version : Version). lets_rest c.args.met condition fact version.row) c.args.versions.now c.args.bits.now)
    (sym c.in-Always.is)

pub returns-in-Ranges : goal.returns-in-Ranges
returns-in-Ranges c =
    let fact = (query_of c.args.query.now.query).fact in
    c.keep_in_ranges.ensures
    ∙ ap (λ tests. kept c.args.slot (λ (version : Version). list_all (lets_unless_met c.args.met version.row) tests) c.args.versions.now c.args.bits.now) c.as_slice.ensures
    ∙ ap (λ (condition : Condition). kept c.args.slot (λ (version : Version). lets_rest c.args.met condition fact version.row) c.args.versions.now c.args.bits.now)
    (sym c.in-Ranges.is)

pub returns-in-Tree : goal.returns-in-Tree
returns-in-Tree c =
    let fact = (query_of c.args.query.now.query).fact in
    c.keep_passing.ensures
    ∙ ap (λ versions. kept c.args.slot (λ (version : Version). passes_version version (Some c.args.query.now)) versions c.args.bits.now) c.as_slice-in-Tree.ensures
    ∙ ap (λ (condition : Condition). kept c.args.slot (λ (version : Version). lets_rest c.args.met condition fact version.row) c.args.versions.now c.args.bits.now)
    (sym c.in-Tree.is)
