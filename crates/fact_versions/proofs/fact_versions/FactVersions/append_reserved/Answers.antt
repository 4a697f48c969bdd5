use Rattle.std.proofs.Common.{◌<◌, ap, arith, length}
use Rattle.fact_versions.specs.declared.version.TheConstants.{MAX_VERSIONS}
use Rattle.fact_versions.proofs.BesideLemmas.{beside_more, room_less}
use Rattle.fact_versions.proofs.fact_versions.FactVersions.append_reserved.Goals as goal

pub invariant_of-self : goal.invariant_of-self
invariant_of-self c =
    let many = ap (λ roomy. length roomy.items) c.self.view_is in
    let few : length c.self.inside.versions.items < MAX_VERSIONS = omega arith in
    let room = ap (λ roomy. roomy.room) c.self.view_is in
    let some : 0 < c.self.inside.room = omega arith in (
      beside_more c.self.inside.versions.items c.push_reserved.new.self.items c.args.version c.len-before.result
          c.self.inside.integers c.append.new.self c.self.inside.keys.columns c.append-2.new.self.columns
          _ _ c.push_reserved.ensures.items c.len-before.ensures few
          c.append.ensures.first c.append-2.ensures.count c.append-2.ensures.more c.append-3.ensures.whole c.self.invariant.0,
      room_less c.self.inside.room c.args.version c.self.inside.versions c.push_reserved.new.self
          c.self.inside.keys.columns c.append-2.new.self.columns _ _ some
          c.push_reserved.ensures.items c.push_reserved.ensures.room c.append-2.ensures.more c.append-3.ensures.room c.self.invariant.1,
    )
