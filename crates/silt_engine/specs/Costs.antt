-- How many writes and syncs the calls of the stores make.
use Rattle.std.specs.Prelude.{◌≡◌, ◌≢◌, ◌≤◌, ◌+◌, ◌*◌, ℕ, nat_lt, cond, Option, Some, None}
use Rattle.silt_disk.specs.Disk.{Makes}
use Rattle.silt_disk.specs.declared.disk.Disk.{Ghosts}
use Rattle.silt_event.specs.declared.progress.Progress.{Progress}
use Rattle.silt_event.specs.declared.progress.Progress.TheVariants.{Moved, Finished}
use Rattle.silt_merge.specs.State.{MergeState}
use Rattle.silt_standing.specs.State.{EngineState}

-- 1 if a row waits for a flush, and 0 if none does
abbrev pub row_waits : EngineState → ℕ
row_waits s = cond (nat_lt s.active.log.settled s.active.log.used) 1 0

-- the writes of a freeze and of the row after it: a flush if a row waits, the commit bytes of the new log, the manifest, the row
abbrev pub freeze_writes : EngineState → ℕ
freeze_writes s = row_waits s + 6

-- its syncs: two of a flush, one of the commit bytes, three of the manifest
abbrev pub freeze_syncs : EngineState → ℕ
freeze_syncs s = 2 * row_waits s + 4

-- the writes of a background step that is due: one slot or entry, or the manifest
abbrev pub step_writes : Progress → ℕ
step_writes Moved = 1
step_writes Finished = 3
step_writes progress = 0

-- its syncs: the manifest's, and before it that of what the steps wrote
abbrev pub step_syncs : Progress → ℕ
step_syncs Finished = 4
step_syncs progress = 0

-- how many entries a merge has written
abbrev pub written_by_merge : Option MergeState → ℕ
written_by_merge None = 0
written_by_merge (Some merge) = merge.written

module _ {D F : Type 0} (facts : Ghosts D F) (old new : D) (before after : EngineState) where
  -- a row costs two writes, or as much as a freeze if the manifest changes
  abbrev pub RowMakes : Type 0
  RowMakes = (after.manifest.current ≡ before.manifest.current → Makes facts.writes facts.syncs 2 0 old new)
      × (after.manifest.current ≢ before.manifest.current → Makes facts.writes facts.syncs (freeze_writes before) (freeze_syncs before) old new)

  -- a step of merging that goes on costs one write if it writes an entry, and none if not
  abbrev pub StepMakes : Progress → Type 0
  StepMakes Moved = (count : ℕ) × (count ≤ 1) × (written_by_merge after.merging ≡ written_by_merge before.merging + count)
      × Makes facts.writes facts.syncs count 0 old new
  StepMakes progress = Makes facts.writes facts.syncs (step_writes progress) (step_syncs progress) old new
