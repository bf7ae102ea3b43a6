use Rattle.silt_hash_store.proofs.Common.{◌≡◌, ◌+◌, ◌≤◌, IsTrue, IsGrown, HoldsSlots}
use Rattle.silt_hash_store.proofs.rebuild.Rebuilt.add_slots.Given as goal

-- the slots so far were taken
abbrev pub invariant-loop-i : goal.invariant-loop-i
invariant-loop-i g l = record {
  shape : l.self.store.shape ≡ l.initial.self.store.shape;
  number : l.self.store.region ≡ l.initial.self.store.region;
  puts : l.self.store.puts ≤ l.self.rows;
  rows : l.self.rows ≤ l.first + l.i;
  grown : IsTrue (g.D.Disk.content l.disk).honest → HoldsSlots l.initial.self.store.shape l.initial.self.store.region (g.D.Disk.content l.disk).shown l.first l.count l.bytes
      → IsGrown l.initial.self (g.D.Disk.content l.disk).shown l.first → IsGrown l.self (g.D.Disk.content l.disk).shown (l.first + l.i);
}
