-- What the calls of a log do to it and to the disk.
use Rattle.std.specs.Prelude.{◌≡◌, ℕ, ◌+◌, ◌≤◌, ◌⊎◌, false, IsTrue, List, [], ◌∷◌, ◌++◌, length, take}
use Rattle.silt_disk.specs.Disk.{Content, Torn, Left, LeavesOnly}
use Rattle.silt_log.specs.Rows.{log_rows}
use Rattle.silt_frame.specs.Rows.{StoredRow}
use Rattle.silt_log.specs.State.{LogState, IsLog, settled_rows, waiting_rows, all_rows, opened_image}

-- A sync and then a write to this range, as far as they got: each possible crash image was possible before, or is what was shown,
-- torn in the range.
pub record SyncsAndTears (at count : ℕ) (old new : Content) : Type 0 where
  pub honest : new.honest ≡ old.honest
  pub shown : IsTrue old.honest → Torn at count old.shown new.shown
  pub left : IsTrue old.honest → (image : List ℕ) → Left new image → Left old image ⊎ Torn at count old.shown image

-- the log has no rows, and each possible crash image has none
pub record Empties (new : Content) (before after : LogState) : Type 0 where
  pub log : after ≡ record before { settled = 0; used = 0; stale = false }
  pub stands : IsLog new after
  pub images : LeavesOnly new (λ image. log_rows before.shape before.region image ≡ [])

-- one more row waits
pub record Appends (row : StoredRow) (old new : Content) (before after : LogState) : Type 0 where
  pub log : after ≡ record before { used = before.used + 1 }
  pub stands : IsLog new after
  pub settled : IsTrue old.honest → settled_rows new after ≡ settled_rows old before
  pub all : IsTrue old.honest → all_rows new after ≡ all_rows old before ++ row ∷ []

-- the log is as before, with the same rows
pub record KeepsRows (old new : Content) (before after : LogState) : Type 0 where
  pub log : after ≡ before
  pub stands : IsLog new after
  pub settled : IsTrue old.honest → settled_rows new after ≡ settled_rows old before
  pub all : IsTrue old.honest → all_rows new after ≡ all_rows old before
  pub full : IsTrue old.honest → log_rows before.shape before.region (opened_image new before) ≡ all_rows old before

-- the rows that waited are settled
pub record OpensCommits (old new : Content) (before after : LogState) : Type 0 where
  pub log : after ≡ record before { settled = before.used }
  pub stands : IsLog new after
  pub settled : IsTrue old.honest → settled_rows new after ≡ all_rows old before
  pub all : IsTrue old.honest → all_rows new after ≡ all_rows old before

-- an image has the settled rows and then a prefix of the waiting ones
abbrev pub HasBeginning : Content → LogState → List ℕ → Type 0
HasBeginning content log image =
    (n : ℕ) × (n ≤ length (waiting_rows content log))
    × (log_rows log.shape log.region image ≡ settled_rows content log ++ take n (waiting_rows content log))

-- some commit bytes of the waiting rows may be open, and with all of them open the rows are the same
pub record OpensSome (old new : Content) (before after : LogState) : Type 0 where
  pub log : after ≡ before
  pub images : LeavesOnly new (HasBeginning old before)
  pub full : IsTrue old.honest → log_rows before.shape before.region (opened_image new before) ≡ all_rows old before

-- all commit bytes past the first closed one are closed, and the rows are the same
pub record Seals (old new : Content) (before after : LogState) : Type 0 where
  pub log : after ≡ record before { stale = false }
  pub stands : IsLog new after
  pub settled : IsTrue old.honest → settled_rows new after ≡ settled_rows old before
