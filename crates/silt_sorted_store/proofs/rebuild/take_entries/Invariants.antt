use Rattle.silt_sorted_store.proofs.Common.{◌≡◌, ◌-◌, ◌≤◌, IsTrue, length, take, Holds, entries_bytes, IsIndexing, entries_of}
use Rattle.silt_sorted_store.proofs.rebuild.take_entries.Given as goal

-- the entries so far were taken, and their bytes were digested
abbrev pub invariant-loop-place : goal.invariant-loop-place
invariant-loop-place g l = record {
  upto : l.place ≤ l.entries.count;
  room : length l.buffer ≡ length l.initial.buffer;
  counted : l.builder.building.count ≡ l.place;
  hashed : IsTrue (g.D.Disk.content l.disk).honest → Holds l.hasher (entries_bytes (take l.place (entries_of (g.D.Disk.content l.disk) l.entries)));
  taken : IsTrue (g.D.Disk.content l.disk).honest → IsIndexing (entries_of (g.D.Disk.content l.disk) l.entries) l.place l.builder.building;
}

abbrev pub decreases-loop-place : goal.decreases-loop-place
decreases-loop-place g l = l.entries.count - l.place
