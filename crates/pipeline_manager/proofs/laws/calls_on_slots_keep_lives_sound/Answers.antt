use Rattle.pipeline_manager.proofs.LawLemmas.{sound-after_reserve, sound-after_built, sound-after_end, sound-after_cleared, sound-after_free}
use Rattle.pipeline_manager.proofs.laws.calls_on_slots_keep_lives_sound.Goals as goal

pub returns-clause-reserve : goal.returns-clause-reserve
returns-clause-reserve c = sound-after_reserve

pub returns-clause-built : goal.returns-clause-built
returns-clause-built c = sound-after_built c.numbers_go_in_and_out.ensures.put_in

pub returns-clause-ends : goal.returns-clause-ends
returns-clause-ends c = sound-after_end

pub returns-clause-cleared : goal.returns-clause-cleared
returns-clause-cleared c = λ slot dimension lives within can. sound-after_cleared c.numbers_go_in_and_out.ensures.taken_out slot dimension lives within

pub returns-clause-free : goal.returns-clause-free
returns-clause-free c = sound-after_free
