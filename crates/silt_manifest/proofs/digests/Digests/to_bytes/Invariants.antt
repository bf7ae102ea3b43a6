use Rattle.silt_manifest.proofs.Common.{◌≡◌, ◌*◌, ◌<◌, ℕ, get_or, length, take, digest_bytes}
use Rattle.silt_manifest.proofs.digests.Digests.to_bytes.Given as goal

abbrev pub invariant-loop-k : goal.invariant-loop-k
invariant-loop-k l = record {
  size : length l.bytes ≡ 340;
  so_far : take (20 * l.k) l.bytes ≡ digest_bytes (take l.k l.self.hashed);
  long : (j : ℕ) → j < l.k → length (get_or l.self.hashed j l.self.sorted).0 ≡ 20;
}
