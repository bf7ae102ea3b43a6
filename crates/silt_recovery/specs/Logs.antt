-- Logs as they are read from a device.
use Rattle.std.specs.Prelude.{◌≡◌, ℕ, IsTrue, List, [], ◌∷◌, ◌++◌, All, map, flat_map, sum_by}
use Rattle.silt_disk.specs.Disk.{Content}
use Rattle.silt_disk.specs.Layout.{Shape}
use Rattle.silt_image.specs.Laws.{FirstFinding}
use Rattle.silt_log_store.specs.Findings.{log_findings}
use Rattle.silt_frame.specs.Rows.{put_count, StoredRow}
use Rattle.silt_log.specs.Parts.{log_part}
use Rattle.silt_event.specs.declared.damage.Finding.{Finding}
use Rattle.silt_log.specs.Rows.{log_rows}
use Rattle.silt_log.specs.State.{InBounds, IsScanned}
use Rattle.silt_log_store.specs.State.{LogStoreState, IsIndexed}
use Rattle.silt_standing.specs.State.{region_of}

-- nothing is found in these logs of an image
abbrev pub AreSoundLogs : Shape → List ℕ → List ℕ → Type 0
AreSoundLogs shape image regions = flat_map (log_findings shape) (map (log_part shape image) regions) ≡ []

-- how many rows of these logs of an image are puts
abbrev pub put_rows : Shape → List ℕ → List ℕ → ℕ
put_rows shape image regions = sum_by (λ region. put_count (log_rows shape region image)) regions

-- this is the first finding in these logs of an image, in their order
pub record HasFirstFinding (shape : Shape) (image regions : List ℕ) (finding : Finding) : Type 0 where
  pub before : List ℕ
  pub region : ℕ
  pub after : List ℕ
  pub all : regions ≡ before ++ region ∷ after
  pub sound : AreSoundLogs shape image before
  pub place : ℕ
  pub row : StoredRow
  pub first : FirstFinding shape (log_part shape image region) place row finding

-- a log with the rows that are shown before the first closed commit byte, all of them settled, and with the table of their keys
pub record IsReadLog (content : Content) (shape : Shape) (store : LogStoreState) : Type 0 where
  pub has_shape : store.log.shape ≡ shape
  pub bounds : InBounds store.log
  pub settled : store.log.settled ≡ store.log.used
  pub scanned : IsTrue content.honest → IsScanned content store.log
  pub indexed : IsIndexed content store

-- these are the logs of these regions as they were read; nothing is found in them, and this many of their rows are puts
pub record AreReadLogs (content : Content) (shape : Shape) (regions : List ℕ) (stores : List LogStoreState) (puts : ℕ) : Type 0 where
  pub has_regions : map region_of stores ≡ regions
  pub each : All (IsReadLog content shape) stores
  pub sound : IsTrue content.honest → AreSoundLogs shape content.shown regions
  pub counted : IsTrue content.honest → puts ≡ put_rows shape content.shown regions
