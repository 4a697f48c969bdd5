use Rattle.std.proofs.Common.{◌<◌, ◌≡◌, ap, arith, length, refl, subst, sym, List, ◌∙◌}
use Rattle.std.specs.Prelude.{IfSome, slice_get}
use Rattle.star_values.specs.Roomy.{Roomy}
use Rattle.fact_versions.proofs.BesideLemmas.{beside_ended, room_stays}
use Rattle.fact_versions.proofs.EndsLemmas.{length-with_end, lent-with_end}
use Rattle.fact_versions.specs.declared.version.Version.{Version}
use Rattle.fact_versions.proofs.fact_versions.FactVersions.end_at.Goals as goal

pub returns : goal.returns
returns c =
    let many = ap (λ roomy. length roomy.items) c.self.view_is in
    let within : c.args.position < length c.self.inside.versions.items = omega (arith, c.requires.within, many) in
    lent-with_end (record { items = c.self.inside.versions.items; room = c.self.inside.room }) c.args.self.now c.as_mut_slice.result.now c.args.position c.args.commit
    c.index-as_mut_slice-position.result c.self.view_is c.as_mut_slice.ensures.members within

pub invariant_of-self : goal.invariant_of-self
invariant_of-self c =
    let many = ap (λ roomy. length roomy.items) c.self.view_is in
    let within : c.args.position < length c.self.inside.versions.items = omega (arith, c.requires.within, many) in
    let ended = ap (λ (roomy : Roomy Version). roomy.items) (returns c) in
    let same = ap (λ roomy. roomy.items) c.self.view_is in
    let live =
    subst (λ (versions : List Version). IfSome (slice_get versions c.args.position) (λ version. version.end ≡ 0)) (sym same) c.requires.live in (
      beside_ended c.self.inside.versions.items _ c.args.self.now.items c.args.position c.args.commit c.self.inside.integers c.self.inside.keys.columns
          c.self.inside.blocks.blocks.items c.end_at.new.self.blocks.items same ended
          (c.end_at.ensures.whole c.self.inside.versions.items within live c.self.invariant.0.whole_blocks) c.self.invariant.0,
      room_stays c.self.inside.room c.self.inside.versions _ c.self.inside.keys.columns c.self.inside.blocks.blocks c.end_at.new.self.blocks
          (ap length ended ∙ length-with_end c.args.self.now.items c.args.position c.args.commit ∙ sym many) refl c.end_at.ensures.count c.end_at.ensures.room
          c.self.invariant.1,
    )
