use Rattle.silt_hash_store.proofs.Common.{◌≡◌, ◌-◌, ◌≤◌, IsTrue, length, IsFed, IsGrown}
use Rattle.silt_hash_store.proofs.rebuild.Rebuilt.add_all.Given as goal

-- the slots so far were taken
abbrev pub invariant-loop-slot : goal.invariant-loop-slot
invariant-loop-slot g l = record {
  upto : l.slot ≤ l.count;
  room : length l.buffer ≡ length l.initial.buffer;
  shape : l.self.store.shape ≡ l.initial.self.store.shape;
  number : l.self.store.region ≡ l.initial.self.store.region;
  puts : l.self.store.puts ≤ l.self.rows;
  rows : l.self.rows ≤ l.slot;
  grown : IsTrue (g.D.Disk.content l.disk).honest → IsGrown l.initial.self (g.D.Disk.content l.disk).shown 0 → IsGrown l.self (g.D.Disk.content l.disk).shown l.slot;
  fed : IsTrue (g.D.Disk.content l.disk).honest → IsFed l.hasher l.initial.self.store (g.D.Disk.content l.disk).shown l.slot;
}

abbrev pub decreases-loop-slot : goal.decreases-loop-slot
decreases-loop-slot g l = l.count - l.slot
