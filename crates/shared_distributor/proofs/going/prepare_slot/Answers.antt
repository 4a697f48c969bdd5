use Rattle.std.proofs.Common.{rules, ◌≡◌, ◌<◌, ◌∙◌, length, get_or, sym, arith}
use Rattle.std.specs.Prelude.{None, Some, option_map}
use Rattle.aggregations.specs.Absorbing.{without_rows}
use Rattle.shared_distributor.proofs.ComingLemmas.{at-set, moved-fresh, none-of}
use Rattle.shared_distributor.proofs.going.prepare_slot.Goals as goal

pub returns-clause-moved : goal.returns-clause-moved
returns-clause-moved c =
    let home = get_or c.args.home.now c.args.slot None in
    let own = get_or c.args.own.now c.args.slot None in
    let long = c.requires.long in
    let low = c.requires.slot in
    let its : c.args.slot < length c.args.own.now = omega arith in
    let none : own ≡ None = none-of own (λ some. let yes = c.has-2.ensures.1 some in search rules) in
    let like : Some c.in-Some.groups ≡ option_map without_rows home = sym c.in-Some.is ∙ c.in_ok-groups.ensures in
    moved-fresh home own (get_or c.attach.new.self c.args.slot None) c.count_at-first.ensures.first none
    (at-set c.args.own.now c.attach.new.self c.args.slot (Some c.in-Some.groups) its c.attach.ensures ∙ like)
