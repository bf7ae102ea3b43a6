-- The entries from this slot of the path on have moved.
use Rattle.silt_cuckoo.proofs.Common.{◌≡◌, ◌-◌, drop, unpacked_all, moved_along}
use Rattle.silt_cuckoo.proofs.cuckoo.move_along.Given as goal

abbrev pub invariant-loop-k : goal.invariant-loop-k
invariant-loop-k l = unpacked_all l.slots ≡ moved_along (unpacked_all l.initial.slots) (drop (l.k - 1) l.path)
