use Rattle.script_reader.proofs.reader.ScriptReader.next_statement.Goals as goal

pub returns-clause-answers : goal.returns-clause-answers
returns-clause-answers c = rw (← c.self.view_is) (c.take_next.ensures.answers c.self.inside.fed)

pub returns-clause-short : goal.returns-clause-short
returns-clause-short c = c.take_next.ensures.short c.self.inside.fed
