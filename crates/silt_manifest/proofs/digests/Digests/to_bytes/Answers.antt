use Rattle.silt_manifest.proofs.Common.{rules, ◌≡◌, [], length, get_or, refl, ap, arith, Digest, get_or_default}
use Rattle.silt_manifest.proofs.DigestBytes.{all_digests, more_digests, more_long}
use Rattle.silt_manifest.proofs.digests.Digests.to_bytes.Goals as goal

pub loop-k-preserved : goal.loop-k-preserved
loop-k-preserved c =
    let d = c.args.self.now in
    let count : length d.hashed ≡ 16 = search rules in
    let same : (get_or d.hashed c.loop-k.k (record { 0 = [] })).0 ≡ (get_or d.hashed c.loop-k.k d.sorted).0 =
    ap (λ (digest : Digest). digest.0) (get_or_default d.hashed c.loop-k.k (record { 0 = [] }) d.sorted (omega arith)) in
    record {
      size = search rules;
      so_far = more_digests c.loop-k.bytes c.put_digest.new.bytes d.hashed d.sorted c.loop-k.k _ c.loop-k.invariant.so_far c.put_digest.ensures.written same (omega arith);
      long = more_long d.hashed d.sorted c.loop-k.k _ c.loop-k.invariant.long same c.put_digest.ensures.long;
    }

pub returns-clause-value : goal.returns-clause-value
returns-clause-value c =
    let d = c.args.self.now in
    let end : c.loop-k.k ≡ 16 = omega arith in
    let count : length d.hashed ≡ 16 = search rules in
    all_digests c.loop-k.bytes c.put_digest-2.new.bytes d d.sorted.0 count (search rules) (rw end at c.loop-k.invariant.so_far) c.put_digest-2.ensures.written refl
