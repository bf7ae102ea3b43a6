use Rattle.silt_log_store.proofs.Common.{IsTrue, IsKeyIndexOf, IsOfRows}
use Rattle.silt_log.specs.Rows.{first_rows}
use Rattle.silt_log_store.proofs.rebuild.index_rows.Given as goal

abbrev pub invariant-loop-place : goal.invariant-loop-place
invariant-loop-place g l = record {
  index : IsKeyIndexOf l.log.shape l.place l.index;
  rows : IsTrue (g.D.Disk.content l.disk).honest → IsOfRows (first_rows l.log.shape l.log.region (g.D.Disk.content l.disk).shown l.place) l.index;
}
