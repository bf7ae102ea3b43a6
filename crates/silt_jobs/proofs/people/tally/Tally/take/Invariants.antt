use Rattle.silt_jobs.proofs.Common.{◌≡◌, take, tally_of}
use Rattle.silt_jobs.proofs.people.tally.Tally.take.Given as goal

abbrev pub invariant-loop-byte : goal.invariant-loop-byte
invariant-loop-byte l = l.self ≡ tally_of l.fn.self (take l.byte-index l.bytes)
