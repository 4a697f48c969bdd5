use Rattle.std.proofs.Common.{ap}
use Rattle.fact_versions.proofs.BlockLemmas.{seen_if_answered}
use Rattle.fact_versions.proofs.fact_versions.FactVersions.are_all_seen.Goals as goal

pub returns : goal.returns
returns c =
    seen_if_answered c.self.inside.versions.items c.args.self.now.items c.self.inside.blocks.blocks.items c.args.first c.args.end c.args.commit c.are_all_seen.result
    (ap (λ roomy. roomy.items) c.self.view_is) c.requires.within c.self.invariant.0.whole_blocks c.are_all_seen.ensures.some
