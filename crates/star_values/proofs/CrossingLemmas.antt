-- That lists whose members have no bytes may be sent to another thread. Their types lead to each other, so what is found of others is shown here.
use denote.RattleType.{RattleType}
use denote.Param.Send.{IsSend, sendable}
use Rattle.std.proofs.Crossing.{crosses}
use Rattle.star_values.proofs.trail.Trail.TheLaws.TheKnot as trails
use Rattle.star_values.specs.contracts.trail.Trail as trail
use Rattle.star_values.specs.contracts.fading.Fading as fading

-- what was pushed, where it may
pub trail_send : (T : RattleType) → IsSend T → IsSend (trail.the_row T)
trail_send T sent = search (sendable, crosses, trails.crosses) depth 20

-- and a list whose front is gone, where its members may
pub fading_send : (T : RattleType) → IsSend T → IsSend (fading.the_row T)
fading_send T sent = search (sendable, crosses, trails.crosses) depth 20
