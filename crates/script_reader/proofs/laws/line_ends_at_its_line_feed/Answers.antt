use Rattle.script_reader.proofs.LineLemmas.{lines_of-append}
use Rattle.script_reader.proofs.laws.line_ends_at_its_line_feed.Goals as goal

pub returns : goal.returns
returns c = lines_of-append
