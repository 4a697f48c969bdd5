use Rattle.make_load.proofs.RunLemmas.{short-made}
use Rattle.make_load.proofs.made.made_text.Goals as goal

pub returns-clause-short : goal.returns-clause-short
returns-clause-short c =
    short-made c.args.seed c.args.rows c.make_script.result c.requires c.made_scripts_are_within_the_limit.ensures c.make_script.ensures
