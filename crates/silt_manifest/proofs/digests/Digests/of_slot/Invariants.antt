use Rattle.silt_manifest.proofs.Common.{◌≡◌, ◌+◌, ◌*◌, length, take, map, range_with_len, digest_at}
use Rattle.silt_manifest.proofs.digests.Digests.of_slot.Given as goal

abbrev pub invariant-loop-k : goal.invariant-loop-k
invariant-loop-k l = record {
  so_far : take l.k l.hashed ≡ map (λ k. digest_at (121 + 20 * k) l.slot) (range_with_len 0 l.k);
  room : length l.hashed ≡ 16;
}
