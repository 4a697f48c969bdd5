use Rattle.pipeline_manager.proofs.CallLemmas.{sound-after_submit, sound-after_run, sound-after_cut, sound-after_spoil, sound-after_abandon}
use Rattle.pipeline_manager.proofs.laws.calls_on_queries_keep_lives_sound.Goals as goal

pub returns-clause-submit : goal.returns-clause-submit
returns-clause-submit c = sound-after_submit

pub returns-clause-run : goal.returns-clause-run
returns-clause-run c = λ query start lives can. sound-after_run query start lives can.building

pub returns-clause-cut : goal.returns-clause-cut
returns-clause-cut c = λ first last lives can. sound-after_cut first last lives

pub returns-clause-spoil : goal.returns-clause-spoil
returns-clause-spoil c = λ query lives can. sound-after_spoil query lives

pub returns-clause-abandon : goal.returns-clause-abandon
returns-clause-abandon c = λ query lives can. sound-after_abandon query lives
