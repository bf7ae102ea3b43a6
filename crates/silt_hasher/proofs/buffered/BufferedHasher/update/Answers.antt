use Rattle.std.proofs.Common.{ℕ, ◌+◌, ◌-◌, ◌≤◌, length, take, refl, arith}
use Rattle.silt_hasher.specs.Taking.{taken_after}
use Rattle.silt_hasher.proofs.Taking.{has_grown, pended, taken_none}
use Rattle.silt_hasher.proofs.buffered.BufferedHasher.update.Goals as goal

pub returns-then-bytes-self : goal.returns-then-bytes-self
returns-then-bytes-self c =
    let a = c.self.inside in
    let bytes = c.args.bytes.now in
    let end : ℕ = a.len + length bytes in
    let fits : end ≤ a.bytes.len = omega (arith, c.if-bytes-self.true, c.self.invariant.0, c.self.invariant.1) in
    rw (← c.self.view_is) (has_grown _ _ bytes
    (rw (c.copy_from_slice.ensures.after, c.deref_mut.ensures.value) (pended a.hasher a.bytes bytes a.len (end - a.len) end fits (omega arith) refl)))

pub returns : goal.returns
returns c =
    let a = c.self.inside in
    rw (← c.self.view_is) (has_grown _ _ c.args.bytes.now
    (rw (c.update-2.ensures, c.update.ensures, c.deref.ensures.value) (taken_none (taken_after a.hasher (take a.len a.bytes.items)) c.args.bytes.now)))
