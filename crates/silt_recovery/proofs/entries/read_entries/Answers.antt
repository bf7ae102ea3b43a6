use Rattle.silt_recovery.proofs.Common.{ℕ, List, ap, sym, ◌∙◌, digest_findings, bytes_said}
use Rattle.silt_recovery.proofs.EntrySearches.{other_sorted, sound_sorted, unsound_entry}
use Rattle.silt_recovery.proofs.entries.read_entries.Goals as goal

pub returns-then-is_other-clause-cause : goal.returns-then-is_other-clause-cause
returns-then-is_other-clause-cause g c = λ h.
    other_sorted (g.D.Disk.content c.args.disk.now) c.args.geometry c.args.said.now c.args.region c.args.count c.in-Ok.store.sorted
    c.in-Ok.store.digest c.in-Ok.ensures.store c.in-Ok.ensures.digested c.in-Ok.ensures.rising
    (bytes_said c.sorted_said.result) c.sorted_said.ensures c.is_other.result
    (λ place. ap (λ (d : List ℕ). digest_findings place (bytes_said c.sorted_said.result) d) (sym c.digest.ensures) ∙ c.is_other.ensures place) c.if-is_other.true h

pub returns-else-is_other-clause-sound : goal.returns-else-is_other-clause-sound
returns-else-is_other-clause-sound g c = λ h.
    sound_sorted (g.D.Disk.content c.args.disk.now) c.args.geometry c.args.said.now c.args.region c.args.count c.in-Ok.store.sorted
    c.in-Ok.store.digest c.in-Ok.ensures.store c.in-Ok.ensures.digested c.in-Ok.ensures.rising
    (bytes_said c.sorted_said.result) c.sorted_said.ensures c.is_other.result
    (λ place. ap (λ (d : List ℕ). digest_findings place (bytes_said c.sorted_said.result) d) (sym c.digest.ensures) ∙ c.is_other.ensures place) c.if-is_other.false h

pub returns-in-Err-Damaged-clause-cause : goal.returns-in-Err-Damaged-clause-cause
returns-in-Err-Damaged-clause-cause g c = λ h.
    let refused = rw c.in-Err-Damaged.field-0-is at c.in-Err-Damaged.ensures.err in
    unsound_entry (g.D.Disk.content c.args.disk.now) c.args.geometry c.args.said.now c.args.region c.args.count c.in-Err-Damaged.place (refused.1 h)
