use Rattle.std.proofs.Common.{◌/◌, ◌∙◌, ap, false, get_or}
use Rattle.fact_versions.specs.Blocks.{with_end_by}
use Rattle.fact_versions.proofs.BlockLemmas.{ended_blocks, refill-block}
use Rattle.fact_versions.proofs.version_blocks.VersionBlocks.end_at.Goals as goal

pub returns-clause-whole : goal.returns-clause-whole
returns-clause-whole c = λ versions within live kept.
    let lent = c.as_mut_slice.ensures.members in
    ended_blocks versions c.args.position c.args.commit c.args.self.now.blocks.items _ c.note_end.new.block (record { begin = 0; ended = false }) within live
    (refill-block c.args.self.now.blocks.items c.as_mut_slice.result.now (c.args.position / 256) c.note_end.new.block lent)
    (c.note_end.ensures ∙ ap (λ blocks. with_end_by (get_or blocks (c.args.position / 256) (record { begin = 0; ended = false })) c.args.commit) lent) kept
