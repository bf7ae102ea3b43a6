-- New stores on disks in memory.
use Rattle.std.specs.Prelude.{◌≡◌, List}
use Rattle.silt_jobs.specs.Common.{empty, GaveAny, LeavesOnly, size, Shape, device_size, memory_content, memory_gave, Stop, MemDisk, MemFault, StandsFor, Refusal}
use Rattle.silt_jobs.specs.Common.{Device}
use Rattle.silt_device.specs.Lives.{next_life}
use Rattle.silt_event.specs.declared.refusal.Refusal.TheVariants.{NoMemory}

-- the disk has the length of this shape, each possible crash image is an empty store of it, and these stops end the disk's lives
pub record IsNewStore (shape : Shape) (stops : List Stop) (disk : MemDisk) : Type 0 where
  pub fits : size (memory_content disk) ≡ device_size shape
  pub images : LeavesOnly (memory_content disk) (StandsFor shape empty)
  pub armed : disk.lives ≡ next_life stops

-- A new store is refused if out of memory, or with a fault that a disk of exactly its length gave.
abbrev pub NewStoreCause : Shape → Refusal MemFault → Type 0
NewStoreCause shape NoMemory = Unit {0}
NewStoreCause shape (Device fault) = (disk : MemDisk) × (size (memory_content disk) ≡ device_size shape) × GaveAny memory_gave disk fault
NewStoreCause shape refusal = ⊥
