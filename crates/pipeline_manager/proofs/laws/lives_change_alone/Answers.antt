use Rattle.pipeline_manager.proofs.LifeLemmas.{life_in-same, life_in-other, life_in-cut}
use Rattle.pipeline_manager.proofs.laws.lives_change_alone.Goals as goal

pub returns-clause-written : goal.returns-clause-written
returns-clause-written c = λ query life queries. life_in-same queries query life

pub returns-clause-others : goal.returns-clause-others
returns-clause-others c = λ query other life queries apart. life_in-other queries query other life apart

pub returns-clause-cut : goal.returns-clause-cut
returns-clause-cut c = λ first last query lives. life_in-cut first last lives.queries query
