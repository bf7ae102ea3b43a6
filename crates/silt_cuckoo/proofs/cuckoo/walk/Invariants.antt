-- The turns so far, the bucket after them, and that no walk has ended yet.
use Rattle.silt_cuckoo.proofs.Common.{◌≡◌, ℕ, ◌+◌, ◌*◌, ◌≤◌, ◌<◌, length, Some, None, unpacked_all, ended_walk, bucket_after, turns}
use Rattle.silt_cuckoo.proofs.cuckoo.walk.Given as goal

abbrev pub invariant-loop-turn : goal.invariant-loop-turn
invariant-loop-turn l = record {
  first : l.path.first ≡ l.fn.path.first;
  second : l.path.second ≡ l.fn.path.second;
  so_far : turns (unpacked_all l.slots) l.fn.path.first l.turn ≡ Some l.path.slots;
  long : length l.path.slots ≡ l.turn;
  here : l.bucket ≡ bucket_after (unpacked_all l.slots) l.fn.path.first l.path.slots;
  inside : 4 * l.bucket + 4 ≤ length l.slots;
  not_ended : (n : ℕ) → 1 ≤ n → n < l.turn + 1 → ended_walk (unpacked_all l.slots) l.fn.path.first n ≡ None;
}
