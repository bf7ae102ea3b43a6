use Rattle.silt_manifest.proofs.Common.{◌≡◌, false, Some, refl, sym, ap, subst, ◌∙◌, arith, slot_at, wrote_err, wrote_ok, long_record, IsCurrent, with_current, spare_slot, wrote_at}
use Rattle.silt_manifest.proofs.CommitExits.{commit_fails, all_committed}
use Rattle.silt_manifest.proofs.manifest.Manifest.commit_next.Goals as goal

pub returns-in_err-write_commit-clause-wrote : goal.returns-in_err-write_commit-clause-wrote
returns-in_err-write_commit-clause-wrote g c =
    wrote_err c.in_err-write_commit.was c.from_residual.ensures.1 (omega arith) (omega arith) (wrote_at (ap slot_at c.spare_slot.ensures.value) refl c.write_commit.ensures.wrote)

pub returns-in_err-write_commit-clause-each : goal.returns-in_err-write_commit-clause-each
returns-in_err-write_commit-clause-each g c =
    let ready = c.requires.prepared in
    commit_fails c.args.self.now ready.next ready.digests _ _ (slot_at c.spare_slot.result) c.requires.size ready.prepared (ap slot_at c.spare_slot.ensures.value)
    c.in_err-write_commit.ensures.wrote.changes

pub returns-clause-wrote : goal.returns-clause-wrote
returns-clause-wrote g c = wrote_ok c.in_ok-write_commit.was (wrote_at (ap slot_at c.spare_slot.ensures.value) refl c.write_commit.ensures.wrote)

pub returns-clause-each : goal.returns-clause-each
returns-clause-each g c =
    let ready = c.requires.prepared in
    commit_fails c.args.self.now ready.next ready.digests _ _ (slot_at c.spare_slot.result) c.requires.size ready.prepared (ap slot_at c.spare_slot.ensures.value)
    c.in_ok-write_commit.ensures.wrote.changes

pub returns-clause-current : goal.returns-clause-current
returns-clause-current g c =
    let m = c.args.self.now in
    let ready = c.requires.prepared in
    let held : m.prepared ≡ Some c.in-Some.next = sym (ap (λ state. state.prepared) c.self.view_is) ∙ c.in-Some.is in
    let was : m.prepared ≡ Some (long_record ready.next ready.digests) = ready.prepared.is in
    let same : long_record ready.next ready.digests ≡ c.in-Some.next = cc in
    let shape : m.shape ≡ c.self.inside.geometry = sym (ap (λ state. state.shape) c.self.view_is) in
    let final = all_committed m ready.next ready.digests _ _ (slot_at c.spare_slot.result) c.requires.size ready.prepared
    (ap slot_at c.spare_slot.ensures.value) c.in_ok-write_commit.ensures.written c.in_ok-write_commit.ensures.rests in
    subst (λ s. IsCurrent (with_current s c.in-Some.next false) (g.D.Disk.content c.write_commit.new.disk)) shape
    (subst (λ b. IsCurrent (with_current m.shape b false) (g.D.Disk.content c.write_commit.new.disk)) same final)
