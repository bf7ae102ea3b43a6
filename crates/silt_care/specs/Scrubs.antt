-- What a pass over a store says.
use Rattle.std.specs.Prelude.{◌≡◌, ◌≢◌, ◌≤◌, ℕ, ◌+◌, ◌-◌, ◌/◌, List, [], ◌++◌, length, Option, Some, None, false, true}
use Rattle.sha1.specs.Sha1.{sha1}
use Rattle.silt_care.specs.Extents.{extent_of, part_at, place_of}
use Rattle.silt_care.specs.declared.extent.Extent.{Extent}
use Rattle.silt_care.specs.declared.extent.Part.{Part}
use Rattle.silt_care.specs.declared.finds.Finding.{Finding}
use Rattle.silt_care.specs.declared.finds.Finding.TheVariants as finding
use Rattle.silt_care.specs.declared.finds.Finds.{Ghosts as FindsOf}
use Rattle.silt_care.specs.declared.pass.Scrubbed.{Scrubbed}
use Rattle.silt_care.specs.declared.pass.Verdict.{Verdict}
use Rattle.silt_care.specs.declared.pass.Verdict.TheVariants.{Unnamed, Sound, Damaged, Unread, Moved, Ended}
use Rattle.silt_disk.specs.Layout.{Shape}
use Rattle.silt_manifest.specs.declared.body.Body.{Body}
use Rattle.silt_manifest.specs.declared.digests.Digests.{Digests}
use Rattle.silt_view.specs.declared.view.View.{Ghosts as ViewOf}

-- these bytes were read from there on, one piece behind the other
pub data Pieces (gave : ℕ → List ℕ → Type 0) (at : ℕ) : List ℕ → Type 0 where
  none : Pieces gave at []
  more : {bytes piece : List ℕ} → Pieces gave at bytes → gave (at + length bytes) piece → Pieces gave at (bytes ++ piece)

module _ {V G : Type 0} (view : ViewOf V G) (seen : V) where
  -- all bytes were read
  abbrev pub AreRead : Extent → List ℕ → Type 0
  AreRead extent bytes = Pieces (view.gave seen) extent.at bytes × (length bytes ≡ extent.len)

  -- a read within these bytes failed
  abbrev pub IsUnread : Extent → Type 0
  IsUnread extent = (fault : G) × (at : ℕ) × (len : ℕ) × view.faulted seen fault at len × (extent.at ≤ at) × (at + len ≤ extent.at + extent.len)

  -- at some moment the record named these bytes for the part, with this digest
  abbrev pub Names : Shape → Part → Extent → Type 0
  Names shape part extent = (named : Body × Digests) × view.has_named seen named × (extent_of shape named part ≡ Some extent)

-- The bytes that were read of the store have its digest (`Sound`). Or they have another one, or could not be read: then the record
-- still names the store as before (`Damaged`, `Unread`), or no longer (`Moved`).
abbrev pub IsVerdict : {V G F : Type 0} → ViewOf V G → FindsOf F → V → Shape → F → Part → Verdict → Type 0
IsVerdict view finds seen shape finder part Unnamed = (named : Body × Digests) × view.has_named seen named × (extent_of shape named part ≡ None)
IsVerdict view finds seen shape finder part (Sound len) =
    (extent : Extent) × (bytes : List ℕ) × Names view seen shape part extent × AreRead view seen extent bytes × (sha1 bytes ≡ extent.digest.0) × (len ≡ extent.len)
IsVerdict view finds seen shape finder part (Damaged len) =
    (extent : Extent) × (bytes : List ℕ) × Names view seen shape part extent × AreRead view seen extent bytes × (sha1 bytes ≢ extent.digest.0) × (len ≡ extent.len)
IsVerdict view finds seen shape finder part Unread = (extent : Extent) × Names view seen shape part extent × IsUnread view seen extent
IsVerdict view finds seen shape finder part Moved =
    (extent : Extent) × (named : Body × Digests) × Names view seen shape part extent × view.has_named seen named × (extent_of shape named part ≢ Some extent)
IsVerdict view finds seen shape finder part Ended = finds.has_stopped finder

-- how many microseconds it takes at least to read bytes at this many megabytes a second
abbrev pub least_micros : ℕ → ℕ → ℕ
least_micros rate bytes = (bytes + (rate - 1)) / rate

-- the finding that a verdict is, if it is one
abbrev pub finding_of : Part → Verdict → Option Finding
finding_of part (Damaged len) = Some (finding.Damaged (place_of part))
finding_of part Unread = Some (finding.Unread (place_of part))
finding_of part verdict = None

-- how many bytes a verdict counts
abbrev pub verdict_len : Verdict → ℕ
verdict_len (Sound len) = len
verdict_len (Damaged len) = len
verdict_len verdict = 0

-- a pass that has said nothing yet
abbrev pub nothing : Scrubbed
nothing = record { stores = 0; bytes = 0; skipped = 0; findings = 0; first = None; has_ended = false }

-- the first finding stays the first
abbrev pub first_of : Option Finding → Finding → Option Finding
first_of None finding = Some finding
first_of (Some first) finding = Some first

-- one store more was compared
abbrev pub with_store : Scrubbed → ℕ → Scrubbed
with_store so_far len = record so_far { stores = so_far.stores + 1; bytes = so_far.bytes + len }

-- there is one finding more
abbrev pub with_finding : Scrubbed → Finding → Scrubbed
with_finding so_far finding = record so_far { findings = so_far.findings + 1; first = first_of so_far.first finding }

-- a pass with one verdict more
abbrev pub with_verdict : Scrubbed → Part → Verdict → Scrubbed
with_verdict so_far part Unnamed = so_far
with_verdict so_far part (Sound len) = with_store so_far len
with_verdict so_far part (Damaged len) = with_finding (with_store so_far len) (finding.Damaged (place_of part))
with_verdict so_far part Unread = with_finding so_far (finding.Unread (place_of part))
with_verdict so_far part Moved = record so_far { skipped = so_far.skipped + 1 }
with_verdict so_far part Ended = record so_far { has_ended = true }

-- the finder heard of the finding, if there was one
abbrev pub Hears : {F : Type 0} → FindsOf F → F → Option Finding → F → Type 0
Hears finds finder None after = after ≡ finder
Hears finds finder (Some finding) after = finds.heard finder finding after

module _ {V G F : Type 0} (view : ViewOf V G) (finds : FindsOf F) (seen : V) (shape : Shape) (first : F) where
  -- the first parts of a pass, this many, got their verdicts in order, and each finding was heard before the next part
  pub data Passes : ℕ → Scrubbed → F → Type 0 where
    begins : Passes 0 nothing first
    goes_on : {parts : ℕ} {so_far : Scrubbed} {now after : F} (verdict : Verdict) → Passes parts so_far now → IsVerdict view finds seen shape now (part_at shape parts) verdict
        → Hears finds now (finding_of (part_at shape parts) verdict) after → Passes (parts + 1) (with_verdict so_far (part_at shape parts) verdict) after

  -- what a pass did: each part of the device got its verdict, unless the pass was ended
  pub record IsPass (scrubbed : Scrubbed) (last : F) : Type 0 where
    pub parts : ℕ
    pub passes : Passes parts scrubbed last
    pub whole : scrubbed.has_ended ≡ false → parts ≡ shape.hashes + 1
