use Rattle.make_load.proofs.line.sum_up.Goals as goal

pub line_of-requires-clause-text : goal.line_of-requires-clause-text
line_of-requires-clause-text c = c.requires.text c.in_ok-refused.refused c.in_ok-refused.ensures
