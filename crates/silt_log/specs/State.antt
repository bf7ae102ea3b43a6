-- A log in memory, and what the disk has of it.
use Rattle.std.specs.Prelude.{◌≡◌, ℕ, ◌+◌, ◌-◌, ◌≤◌, ◌<◌, Bool, false, IsTrue, List, replicate}
use Rattle.silt_disk.specs.Disk.{Content, LeavesOnly, splice}
use Rattle.silt_disk.specs.Layout.{Shape, commits_at}
use Rattle.silt_frame.specs.Commit.{commit_open}
use Rattle.silt_log.specs.Rows.{CommitsAre, rows_from, first_rows, log_rows, open_count, has_stale_commit}
use Rattle.silt_frame.specs.Rows.{StoredRow}

-- A log: its region, how many of its rows have an open commit byte that is settled, how many rows it has with the waiting ones, and
-- whether a commit byte past the first closed one is open.
pub record LogState : Type 0 where
  pub shape : Shape
  pub region : ℕ
  pub settled : ℕ
  pub used : ℕ
  pub stale : Bool

-- the numbers of a log are within its region
pub record InBounds (log : LogState) : Type 0 where
  pub region : log.region < log.shape.logs
  pub order : log.settled ≤ log.used
  pub room : log.used ≤ log.shape.log_capacity
  pub gap : IsTrue log.stale → log.used < log.shape.log_capacity

-- a log whose numbers are within its region, with room for each commit byte
pub record IsHeld (log : LogState) (buffer_len : ℕ) : Type 0 where
  pub bounds : InBounds log
  pub buffer : buffer_len ≡ log.shape.log_capacity

-- the rows whose commit bytes are open and settled
abbrev pub settled_rows : Content → LogState → List StoredRow
settled_rows content log = first_rows log.shape log.region content.shown log.settled

-- the rows after them, whose commit bytes are still closed
abbrev pub waiting_rows : Content → LogState → List StoredRow
waiting_rows content log = rows_from log.shape log.region content.shown log.settled (log.used - log.settled)

-- both, in order from the oldest
abbrev pub all_rows : Content → LogState → List StoredRow
all_rows content log = first_rows log.shape log.region content.shown log.used

-- what is shown, with the commit bytes of the waiting rows open
abbrev pub opened_image : Content → LogState → List ℕ
opened_image content log = splice (commits_at log.shape log.region + log.settled) (replicate (log.used - log.settled) commit_open) content.shown

-- A log that matches the disk: each possible crash image has exactly the settled rows, and what is shown, with the commit bytes of the
-- waiting rows open, has all rows.
pub record IsLog (content : Content) (log : LogState) : Type 0 where
  pub bounds : InBounds log
  pub sealed : log.stale ≡ false
  pub images : LeavesOnly content (λ image. log_rows log.shape log.region image ≡ settled_rows content log)
  pub full : IsTrue content.honest → log_rows log.shape log.region (opened_image content log) ≡ all_rows content log
  pub commits : LeavesOnly content (CommitsAre (commits_at log.shape log.region) log.shape.log_capacity log.settled)

-- a log that was scanned on a disk: its rows are those before the first closed commit byte
pub record IsScanned (content : Content) (log : LogState) : Type 0 where
  pub settled : log.settled ≡ open_count log.shape log.region content.shown
  pub used : log.used ≡ open_count log.shape log.region content.shown
  pub stale : log.stale ≡ has_stale_commit log.shape log.region content.shown
