use Rattle.silt_recovery.proofs.Common.{◌≡◌, ◌≤◌, ◌*◌, take, sum_by}
use Rattle.silt_recovery.proofs.Reports.{used_rows}
use Rattle.silt_recovery.proofs.report.row_count.Given as goal

-- the rows of the logs so far
abbrev pub invariant-loop-store : goal.invariant-loop-store
invariant-loop-store l = record {
  counted : l.count ≡ sum_by used_rows (take l.store-index l.stores);
  most : l.count ≤ l.store-index * 131072;
}
