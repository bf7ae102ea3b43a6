use Rattle.silt_sorted_store.proofs.Common.{◌≡◌, ◌+◌, ◌≤◌, List, length, StoredRow, HoldsKeys, IsIndexing}
use Rattle.silt_sorted_store.proofs.rebuild.take_keys.Given as goal

-- the keys so far were taken
abbrev pub invariant-loop-i : goal.invariant-loop-i
invariant-loop-i l = record {
  counted : l.builder.building.count ≡ l.first + l.i;
  taken : (rows : List StoredRow) → l.first + l.count ≤ length rows → HoldsKeys rows l.first l.count l.len l.bytes
      → IsIndexing rows l.first l.initial.builder.building → IsIndexing rows (l.first + l.i) l.builder.building;
}
