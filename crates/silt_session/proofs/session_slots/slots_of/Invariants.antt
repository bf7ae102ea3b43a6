use Rattle.silt_session.proofs.Common.{◌≡◌, ◌+◌, vec_len}
use Rattle.silt_session.proofs.session_slots.slots_of.Given as goal

-- each feeder that was taken out has a slot
abbrev pub invariant-loop-feeder : goal.invariant-loop-feeder
invariant-loop-feeder g l = vec_len l.slots + vec_len l.feeders ≡ vec_len l.fn.feeders

abbrev pub decreases-loop-feeder : goal.decreases-loop-feeder
decreases-loop-feeder g l = vec_len l.feeders
