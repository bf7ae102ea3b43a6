use Rattle.std.proofs.Common.{◌-◌, ◌≤◌, length, take, refl, ap, ◌∙◌, arith}
use Rattle.silt_hasher.proofs.Taking.{few_of, returned}
use Rattle.silt_hasher.proofs.buffered.BufferedHasher.take_back.Goals as goal

pub returns : goal.returns
returns c =
    let a = c.self.inside in
    let lent = c.args.lent.now.bytes in
    let found = c.in-Some.ensures in
    let fits : a.len ≤ length a.bytes.items = omega (arith, c.self.invariant.0, c.self.inside.bytes.ok.0) in
    rw (← c.self.view_is) (returned a.hasher c.in-Some.hasher a.bytes.items c.copy_within.new.self.items lent a.len _
    fits (few_of a.len a.bytes.items lent fits (rw c.deref.ensures.value at found.1)) found.0 (found.2 ∙ ap (λ b. take (length lent) (take a.len b)) c.deref.ensures.value)
    (ap (λ b. a.len - length b) c.bytes-start.ensures) (c.copy_within.ensures.items ∙ rw c.bytes-start.ensures refl))
