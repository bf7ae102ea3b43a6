-- The content of a disk in memory.
use Rattle.std.specs.Prelude.{◌≡◌, ℕ, List, [], true, false, get_or}
use Rattle.silt_disk.specs.Disk.{Content, Rests}
use Rattle.silt_device.specs.Calls.{no_calls}
use Rattle.silt_device.specs.Lives.{filled, next_life}
use Rattle.silt_disk.specs.declared.disk.Call.{Call}
use Rattle.silt_disk.specs.declared.disk.Disk.{Ghosts}
use Rattle.silt_device.specs.declared.memory.MemDisk.{MemDisk}
use Rattle.silt_device.specs.declared.memory.MemFault.{MemFault}

-- what is shown, settled and pending: a disk in memory is honest, it obeys the crash model
abbrev pub memory_content : MemDisk → Content
memory_content disk = record {
  honest = true;
  shown = disk.shown.items;
  settled = disk.settled.items;
  pending = λ place. get_or disk.pending place false;
  sizes = disk.sizes;
  agrees = disk.agrees;
}

-- the fault has its call, its range and the disk's number of failures at that time
abbrev pub memory_gave : MemDisk → MemFault → Call → ℕ → ℕ → Type 0
memory_gave disk fault call at count = (fault.call ≡ call) × (fault.at ≡ at) × (fault.count ≡ count) × (fault.failures ≡ disk.calls.failures)

-- how many writes it was asked for
abbrev pub memory_writes : MemDisk → ℕ
memory_writes disk = disk.calls.writes

-- how many syncs
abbrev pub memory_syncs : MemDisk → ℕ
memory_syncs disk = disk.calls.syncs

-- how many of both have failed
abbrev pub memory_failures : MemDisk → ℕ
memory_failures disk = disk.calls.failures

-- what the trait says of it
abbrev pub memory_disk : Ghosts MemDisk MemFault
memory_disk = record { content = memory_content; failures = memory_failures; writes = memory_writes; syncs = memory_syncs; gave = memory_gave }

-- the disk shows these bytes, nothing is pending, it was asked for no write and no sync, and none will fail
pub record IsFresh (bytes : List ℕ) (disk : MemDisk) : Type 0 where
  pub shown : disk.shown.items ≡ bytes
  pub rests : Rests (memory_content disk)
  pub calls : disk.calls ≡ no_calls
  pub lives : disk.lives ≡ next_life []

-- this image has, at each pending place of the disk, the byte that the fill of its life leaves there
pub record IsFilled (disk : MemDisk) (image : List ℕ) : Type 0 where
  pub place : (place : ℕ) → get_or disk.pending place false ≡ true → get_or image place 0 ≡ filled disk.lives.life.fill place (get_or disk.shown.items place 0) (get_or disk.settled.items place 0)
