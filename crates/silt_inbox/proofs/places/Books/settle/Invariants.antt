use Rattle.std.proofs.Common.{◌≡◌, ◌+◌, vec_len}
use Rattle.silt_inbox.specs.Books.{jobs_of}
use Rattle.silt_inbox.proofs.places.Books.settle.Given as goal

-- the parts and amounts of the places taken out so far are joined
abbrev pub invariant-loop-feeder : goal.invariant-loop-feeder
invariant-loop-feeder g l = (l.all.parts + vec_len l.feeders ≡ vec_len l.fn.feeders) × (l.all.amount + jobs_of l.feeders.items ≡ jobs_of l.fn.feeders.items)

abbrev pub decreases-loop-feeder : goal.decreases-loop-feeder
decreases-loop-feeder g l = vec_len l.feeders
