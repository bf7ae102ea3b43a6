use Rattle.std.proofs.Common.{◌≡◌, ◌≤◌, length}
use Rattle.silt.proofs.standard_streams.fill_from.Given as goal

-- so many bytes are filled
abbrev pub invariant-loop : goal.invariant-loop
invariant-loop g l = (l.count ≤ length l.buffer) × (length l.buffer ≡ length l.initial.buffer)
