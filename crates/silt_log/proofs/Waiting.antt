-- For the crates above: the rows that wait after each call.
use Rattle.silt_log.proofs.Common.{◌≡◌, ◌≤◌, IsTrue, List, [], ◌++◌, sym, ◌∙◌, arith, append-nil, Content, StoredRow, LogState, IsLog, settled_rows, waiting_rows, all_rows, KeepsRows}
use Rattle.silt_log.proofs.Common.{append_assoc, append_cancel_left}
use Rattle.silt_log.specs.Rows.{rows_from}
use Rattle.silt_log.proofs.Elsewhere.{all_are_settled_and_waiting}

-- all rows and the settled ones determine the waiting rows
waiting_from : (old new : Content) (before after : LogState) (more : List StoredRow) → before.settled ≤ before.used → after.settled ≤ after.used
    → settled_rows new after ≡ settled_rows old before → all_rows new after ≡ all_rows old before ++ more
    → waiting_rows new after ≡ waiting_rows old before ++ more
waiting_from old new before after more order order_after settled all = search (arith, append_cancel_left, all_are_settled_and_waiting, append_assoc)

-- if the log is unchanged, the same rows wait
pub waiting_kept : (old new : Content) (before after : LogState) → IsLog old before → IsTrue old.honest → KeepsRows old new before after → waiting_rows new after ≡ waiting_rows old before
waiting_kept old new before after is honest keeps =
    waiting_from old new before after [] is.bounds.order keeps.stands.bounds.order (keeps.settled honest) (keeps.all honest ∙ sym (append-nil (all_rows old before)))
    ∙ append-nil (waiting_rows old before)

-- once the commit bytes are open no row waits
pub none_waiting : (content : Content) (log : LogState) → log.settled ≡ log.used → waiting_rows content log ≡ []
unfolding rows_from
none_waiting content log same = search arith
