use Rattle.script_run.proofs.Words.{FrontParts, IsSound, state_of, subst}
use Rattle.script_run.proofs.front.every_front_is_sound.Goals as goal

pub returns : goal.returns
returns c = subst (λ (front : FrontParts). IsSound (state_of front.core)) c.front.view_is c.every_core_is_sound.ensures
