use Rattle.silt_hash_store.proofs.Common.{◌≡◌, ℕ, ◌*◌, ◌≤◌, ◌<◌, false, IsTrue, Some, length, is_row_of, slot_row, slot_tag}
use Rattle.silt_hash_store.proofs.lookup.find_in.Given as goal

-- the buffer keeps its length, and the slots that were passed have no row of the key
abbrev pub invariant-loop-slot : goal.invariant-loop-slot
invariant-loop-slot g l = record {
  long : length l.front ≡ length l.initial.front;
  lack : IsTrue (g.D.Disk.content l.disk).honest → (slot : ℕ) → 4 * l.bucket ≤ slot → slot < l.slot → slot_tag l.tags slot ≡ Some l.sought.tag
      → is_row_of l.sought.key.0 (slot_row l.region.geometry l.region.number (g.D.Disk.content l.disk).shown slot) ≡ false;
}
