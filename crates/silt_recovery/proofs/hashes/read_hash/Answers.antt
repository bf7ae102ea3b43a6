use Rattle.silt_recovery.proofs.Common.{ℕ, List, ap, sym, ◌∙◌, digest_findings, bytes_said}
use Rattle.silt_recovery.proofs.HashSearches.{damaged_slot, other_digest, sound_hash}
use Rattle.silt_recovery.proofs.hashes.read_hash.Goals as goal

pub returns-in-Err-Damaged-clause-cause : goal.returns-in-Err-Damaged-clause-cause
returns-in-Err-Damaged-clause-cause g c = λ h.
    let refused = rw c.in-Err-Damaged.field-0-is at c.in-Err-Damaged.ensures.err in
    rw c.in-Err-Damaged.field-0-is (damaged_slot (g.D.Disk.content c.args.disk.now) c.args.geometry c.args.region (bytes_said c.args.said) c.in-Err-Damaged.slot (refused h))

pub returns-then-is_other-clause-cause : goal.returns-then-is_other-clause-cause
returns-then-is_other-clause-cause g c = λ h.
    other_digest (g.D.Disk.content c.args.disk.now) c.args.geometry c.args.region (bytes_said c.args.said) c.in-Ok.rebuilt.store c.in-Ok.ensures.region.0 c.in-Ok.ensures.region.1
    (let rebuilt = c.in-Ok.ensures.rebuilt h in rebuilt.stands) c.is_other.result
    (λ place. ap (λ (d : List ℕ). digest_findings place (bytes_said c.args.said) d) (sym c.digest.ensures) ∙ c.is_other.ensures place) c.if-is_other.true h

pub returns-else-is_other-clause-sound : goal.returns-else-is_other-clause-sound
returns-else-is_other-clause-sound g c = λ h.
    sound_hash (g.D.Disk.content c.args.disk.now) c.args.geometry c.args.region (bytes_said c.args.said) c.in-Ok.rebuilt.store c.in-Ok.ensures.region.0 c.in-Ok.ensures.region.1
    (let rebuilt = c.in-Ok.ensures.rebuilt h in rebuilt.stands) c.is_other.result
    (λ place. ap (λ (d : List ℕ). digest_findings place (bytes_said c.args.said) d) (sym c.digest.ensures) ∙ c.is_other.ensures place) c.if-is_other.false h

pub returns-else-is_other-clause-read : goal.returns-else-is_other-clause-read
returns-else-is_other-clause-read g c = record {
  hash = record { has_shape = c.in-Ok.ensures.region.0; held = c.region-known.ensures.held };
  stands = record {
    sound = λ h. let rebuilt = c.in-Ok.ensures.rebuilt h in rebuilt.stands.sound h;
    tagged = λ h. let rebuilt = c.in-Ok.ensures.rebuilt h in rebuilt.stands.tagged h;
    counted = λ h. let rebuilt = c.in-Ok.ensures.rebuilt h in rebuilt.stands.counted h;
    digested = λ h. let rebuilt = c.in-Ok.ensures.rebuilt h in rebuilt.stands.digested h;
  };
}
