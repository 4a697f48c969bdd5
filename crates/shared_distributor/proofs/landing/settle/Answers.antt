use Rattle.std.proofs.Common.{◌<◌, length, get_or, sym, arith}
use Rattle.std.specs.Prelude.{None}
use Rattle.shared_distributor.proofs.ComingLemmas.{at-set, leaves-absorbed, leaves-set, rows-given, settled}
use Rattle.shared_distributor.proofs.landing.settle.Goals as goal

pub returns-clause-settled : goal.returns-clause-settled
returns-clause-settled c =
    let long = c.requires.long in
    let low = c.requires.slot in
    let its : c.args.slot < length c.args.own.now = omega arith in
    settled c.absorb_at-taken.result c.args.home.now c.absorb_at-taken.new.self c.args.slot c.in-Some.groups c.absorb_at-taken.ensures.taken c.absorb_at-taken.ensures.err
    (get_or c.args.own.now c.args.slot None) (get_or c.detach.new.self c.args.slot None) (sym c.in-Some.ensures.groups)
    (at-set c.args.own.now c.detach.new.self c.args.slot None its c.detach.ensures.left) low c.absorb_at-taken.ensures.known

pub returns-clause-others : goal.returns-clause-others
returns-clause-others c =
    let rows = rows-given (get_or c.args.home.now c.args.slot None) (get_or c.args.own.now c.args.slot None) c.in-Some.groups
    (sym c.in-Some.ensures.groups) c.requires.rows in (
      leaves-absorbed c.absorb_at-taken.result c.args.home.now c.absorb_at-taken.new.self c.args.slot c.in-Some.groups c.absorb_at-taken.ensures.taken
          c.absorb_at-taken.ensures.err
          rows.0 rows.1,
      leaves-set c.args.own.now c.detach.new.self c.args.slot None c.detach.ensures.left,
    )
