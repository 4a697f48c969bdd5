use Rattle.std.proofs.Common.{get_or, sym, rules}
use Rattle.std.specs.Prelude.{None}
use Rattle.shared_distributor.proofs.ComingLemmas.{leaves-back, moved-back}
use Rattle.shared_distributor.proofs.seats.take_back.Goals as goal

pub returns-in_default-clause-taken : goal.returns-in_default-clause-taken
returns-in_default-clause-taken c = record { moved = search rules; others = search rules }

pub returns-clause-taken : goal.returns-clause-taken
returns-clause-taken c =
    let absorbed = c.absorb_at.ensures in
    let own = get_or c.args.own.now c.args.slot None in
    record {
      moved =
          moved-back c.absorb_at.result c.args.home.now c.absorb_at.new.self c.args.slot c.in-Some.groups absorbed.taken absorbed.err
          c.rows_fold_apart.ensures c.requires.home own (sym c.in-Some.ensures.groups) c.requires.pair absorbed.known;
      others =
          leaves-back c.absorb_at.result c.args.home.now c.absorb_at.new.self c.args.slot c.in-Some.groups absorbed.taken absorbed.err
          own (sym c.in-Some.ensures.groups) c.requires.pair;
    }
