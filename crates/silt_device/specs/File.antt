-- The content of a disk in a file.
use Rattle.std.specs.Prelude.{◌≡◌, ℕ, zero, suc, ◌+◌, IsTrue, cond, List, length}
use Rattle.std.specs.Fs.{metadata_len}
use Rattle.std.specs.declared.fs.attrs.Metadata.{Metadata}
use Rattle.silt_disk.specs.Disk.{Content, Settles, size}
use Rattle.silt_disk.specs.declared.disk.Call.{Call}
use Rattle.silt_disk.specs.declared.disk.Disk.{Ghosts}
use Rattle.std.specs.declared.fs.File.{File}
use Rattle.silt_assumption.specs.Files.{system_content, unpromised}
use Rattle.silt_device.specs.Calls.{no_calls}
use Rattle.silt_device.specs.System.{Resizes}
use Rattle.silt_device.specs.declared.calls.Calls.{Calls}
use Rattle.silt_device.specs.declared.file.FileFault.{FileFault}

-- an open file, the length of the disk in it, and how many writes and syncs the disk was asked for
pub record FileState (F : Type 0) : Type 0 where
  pub file : F
  pub len : ℕ
  pub calls : Calls

-- the content of a file, if the file behaves; else a content of this length that promises nothing
abbrev pub kept_content : Content → ℕ → Content
kept_content file len = cond file.honest file (unpromised len)

-- the content of a disk in a file, from that of the file
abbrev pub random_access_content : {F : Type 0} → (F → Content) → FileState F → Content
random_access_content content disk = kept_content (content disk.file) disk.len

-- the content of a disk in a file of the system: nothing shows whether the file behaves
abbrev pub file_content : FileState File → Content
file_content = random_access_content system_content

-- how many writes the disk was asked for
abbrev pub file_writes : {F : Type 0} → FileState F → ℕ
file_writes disk = disk.calls.writes

-- how many syncs
abbrev pub file_syncs : {F : Type 0} → FileState F → ℕ
file_syncs disk = disk.calls.syncs

-- a file that behaves has this length
abbrev pub HasLength : Content → ℕ → Type 0
HasLength file len = IsTrue file.honest → size file ≡ len

-- the fault has its call, its range and the disk's number of failures at that time
abbrev pub file_gave : {F : Type 0} → FileState F → FileFault → Call → ℕ → ℕ → Type 0
file_gave disk fault call at count = (fault.call ≡ call) × (fault.at ≡ at) × (fault.count ≡ count) × (fault.failures ≡ disk.calls.failures)

-- what the trait says of a disk in a file, from the content of the file
abbrev pub random_access_disk : {F : Type 0} → (F → Content) → Ghosts (FileState F) FileFault
random_access_disk content = record { content = random_access_content content; failures = λ disk. disk.calls.failures; writes = file_writes; syncs = file_syncs; gave = file_gave }

-- a disk of this length, whose content is its file's if the file behaves, and which was asked for no write and no sync
pub record IsOpened {F : Type 0} (content : F → Content) (count : ℕ) (disk : FileState F) : Type 0 where
  pub bytes : size (random_access_content content disk) ≡ count
  pub same : IsTrue (content disk.file).honest → random_access_content content disk ≡ content disk.file
  pub calls : disk.calls ≡ no_calls

-- a disk in a file that was found, locked and synced, of the length that the system reported: the file's bytes are settled
pub record IsOpenedFile {F : Type 0} (content : F → Content) (found : F → Type 0) (locked : F → F → Type 0) (measured : F → Metadata → Type 0) (synced : F → F → Type 0)
    (disk : FileState F) : Type 0 where
  pub first : F
  pub second : F
  pub there : found first
  pub owned : locked first second
  pub settled : synced second disk.file
  pub holds : Settles (content first) (content disk.file)
  pub metadata : Metadata
  pub told : measured disk.file metadata
  pub opened : IsOpened content (metadata_len metadata) disk

-- a disk in a file that was opened and then locked, of the length that the system reported: it has the file's bytes
pub record IsFoundFile {F : Type 0} (content : F → Content) (found : F → Type 0) (locked : F → F → Type 0) (measured : F → Metadata → Type 0)
    (disk : FileState F) : Type 0 where
  pub first : F
  pub there : found first
  pub held : locked first disk.file
  pub holds : content disk.file ≡ content first
  pub metadata : Metadata
  pub told : measured disk.file metadata
  pub opened : IsOpened content (metadata_len metadata) disk

-- a file that was given this length and then synced: its old bytes up to this length are settled, followed by zeros
pub record IsResizedFile {F : Type 0} (content : F → Content) (resized : F → ℕ → F → Type 0) (synced : F → F → Type 0) (old : F) (len : ℕ) (new : F) : Type 0 where
  pub mid : F
  pub sized : resized old len mid
  pub settled : synced mid new
  pub cut : Resizes len (content old) (content mid)
  pub holds : Settles (content mid) (content new)

-- the system wrote the first bytes of a file, so many, in so many pieces one behind the other
unfoldable pub Rewrites : {F : Type 0} → (F → ℕ → List ℕ → F → Type 0) → ℕ → F → ℕ → F → Type 0
Rewrites written_at zero old len new = (len ≡ 0) × (new ≡ old)
Rewrites {F} written_at (suc pieces) old len new =
    (mid : F) × (at : ℕ) × (bytes : List ℕ) × Rewrites written_at pieces old at mid × written_at mid at bytes new × (len ≡ at + length bytes)

-- the system wrote the first bytes of a file, so many
abbrev pub IsWritten : {F : Type 0} → (F → ℕ → List ℕ → F → Type 0) → F → ℕ → F → Type 0
IsWritten written_at old len new = (pieces : ℕ) × Rewrites written_at pieces old len new

-- A file that was given this length, of which all bytes were written, and which was then synced: its old bytes up to this length are
-- settled, followed by zeros.
pub record IsFilledFile {F : Type 0} (content : F → Content) (written_at : F → ℕ → List ℕ → F → Type 0) (synced : F → F → Type 0) (old : F) (len : ℕ) (new : F) : Type 0 where
  pub first : F
  pub last : F
  pub mid : F
  pub written : IsWritten written_at first len last
  pub settled : synced mid new
  pub cut : Resizes len (content old) (content mid)
  pub holds : Settles (content mid) (content new)

-- a file that was made, locked, given this length and synced: its old bytes up to this length are settled, followed by zeros
pub record IsMadeFile {F : Type 0} (content : F → Content) (made : F → Type 0) (locked : F → F → Type 0) (resized : F → ℕ → F → Type 0) (synced : F → F → Type 0)
    (len : ℕ) (file : F) : Type 0 where
  pub first : F
  pub second : F
  pub third : F
  pub opened : made first
  pub owned : locked first second
  pub sized : resized second len third
  pub settled : synced third file
  pub same : content second ≡ content first
  pub cut : Resizes len (content second) (content third)
  pub holds : Settles (content third) (content file)
