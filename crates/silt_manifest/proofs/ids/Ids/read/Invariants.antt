use Rattle.silt_manifest.proofs.Common.{◌≡◌, ℕ, ◌+◌, ◌*◌, ◌≤◌, length, take, map, get_or, range_with_len, number_at}
use Rattle.silt_manifest.proofs.ids.Ids.read.Given as goal

abbrev pub invariant-loop-k : goal.invariant-loop-k
invariant-loop-k l = record {
  so_far : take l.k l.numbers ≡ map (λ k. number_at 4 (l.fn.at + 4 + 4 * k) l.slot) (range_with_len 0 l.k);
  room : length l.numbers ≡ 16;
  zeros : (j : ℕ) → l.k ≤ j → get_or l.numbers j 0 ≡ 0;
}
