use Rattle.silt_desk.proofs.Common.{◌≡◌, ◌≤◌, take, length, vec_capacity}
use Rattle.silt_desk.proofs.kept.filled.Given as goal

-- the bytes so far are in the buffer, which has room for all of them
abbrev pub invariant-loop-byte : goal.invariant-loop-byte
invariant-loop-byte l = (l.room.items ≡ take l.byte-index l.bytes) × (length l.bytes ≤ vec_capacity l.room)
