use Rattle.make_load.specs.Script.{dimensions}
use Rattle.make_load.proofs.lines.dimensions.Goals as goal

pub returns : goal.returns
unfolding dimensions
returns c =
    rw (
      ← c.in_ok-say.ensures,
      ← c.in_ok-named_rows.ensures,
      ← c.in_ok-say-2.ensures,
      ← c.in_ok-named_rows-2.ensures,
      ← c.in_ok-say-3.ensures,
      ← c.in_ok-named_rows-3.ensures,
      ← c.in_ok-days.ensures,
      ← c.in_ok-say-4.ensures,
    ) c.named_rows-4.ensures
