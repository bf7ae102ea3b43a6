-- The slots of the earlier turns of the loop cannot move.
use Rattle.silt_cuckoo.proofs.Common.{◌≡◌, ℕ, ◌+◌, ◌*◌, ◌%◌, ◌≤◌, ◌<◌, false, unpacked_all, can_move}
use Rattle.silt_cuckoo.proofs.cuckoo.turn_victim.Given as goal

abbrev pub invariant-loop-k : goal.invariant-loop-k
invariant-loop-k l = record {
  starts : l.start ≡ 4 * l.bucket;
  none : (j : ℕ) → 0 ≤ j → j < l.k → can_move (unpacked_all l.slots) l.path.slots l.bucket (4 * l.bucket + (l.turn + j) % 4) ≡ false;
}
