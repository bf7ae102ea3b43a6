use Rattle.std.proofs.Common.{◌≡◌, ◌*◌, ◌%◌, drop}
use Rattle.silt_hasher.specs.States.{taken_of}
use Rattle.silt_hasher.specs.Taking.{taken_after}
use Rattle.silt_hasher.proofs.state.Sha1State.add_blocks.Given as goal

-- with the bytes to come, all are taken in
abbrev pub invariant-each : goal.invariant-each
invariant-each l = (l.self.total % 64 ≡ 0) × (taken_after (taken_of l.self) (drop (64 * l.i) l.bytes) ≡ taken_after (taken_of l.fn.self) l.bytes)
