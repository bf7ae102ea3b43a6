use Rattle.std.proofs.Common.{◌≡◌, ◌++◌, take, refl, sym, subst, ◌∙◌}
use Rattle.silt_hasher.specs.Taking.{HasTaken, taken_after}
use Rattle.silt_hasher.proofs.Taking.{has_more}
use Rattle.silt_hasher.proofs.buffered.BufferedHasher.digest_with.Goals as goal

pub returns : goal.returns
returns c =
    let a = c.self.inside in
    let hashed : c.update.new.self ≡ taken_after a.hasher (take a.len a.bytes.items) = c.update.ensures ∙ rw (c.copy-all.ensures, c.deref.ensures.value) refl in
    rw (← c.self.view_is) (λ taken has.
    c.finalize.ensures (taken ++ c.args.bytes.now) (subst (λ t. HasTaken t (taken ++ c.args.bytes.now)) (sym c.update-2.ensures)
    (has_more c.update.new.self taken c.args.bytes.now (subst (λ t. HasTaken t taken) (sym hashed) has))))
