-- The content of a disk with a fault.
use Rattle.std.specs.Prelude.{◌≡◌, ℕ, ◌-◌, Bool, true, false, if◌then◌else◌}
use Rattle.silt_disk.specs.Disk.{Content}
use Rattle.silt_device.specs.Memory.{memory_content, memory_failures, memory_gave, memory_syncs, memory_writes}
use Rattle.silt_disk.specs.declared.disk.Call.{Call}
use Rattle.silt_disk.specs.declared.disk.Call.TheVariants.{Read, Write, Sync}
use Rattle.silt_disk.specs.declared.disk.Disk.{Ghosts}
use Rattle.silt_device.specs.declared.fault.FaultDisk.{FaultDisk}
use Rattle.silt_device.specs.declared.memory.MemFault.{MemFault}

-- what the disk in memory has as shown, settled and pending
abbrev pub fault_content : FaultDisk → Content
fault_content disk = memory_content disk.disk

-- its count of failures, with the chosen call's own
abbrev pub fault_failures : FaultDisk → ℕ
fault_failures disk = memory_failures disk.disk

-- its count of writes, with the chosen call if it is one
abbrev pub fault_writes : FaultDisk → ℕ
fault_writes disk = memory_writes disk.disk

-- the same of syncs
abbrev pub fault_syncs : FaultDisk → ℕ
fault_syncs disk = memory_syncs disk.disk

-- a fault of the disk in memory
abbrev pub fault_gave : FaultDisk → MemFault → Call → ℕ → ℕ → Type 0
fault_gave disk = memory_gave disk.disk

-- what the trait says of it
abbrev pub fault_disk : Ghosts FaultDisk MemFault
fault_disk = record { content = fault_content; failures = fault_failures; writes = fault_writes; syncs = fault_syncs; gave = fault_gave }

-- the next call, of this kind, is the one that fails
pub record IsNamed (call : Call) (disk : FaultDisk) : Type 0 where
  pub kind : disk.call ≡ call
  pub number : disk.left ≡ 1

-- whether a call is of this kind
abbrev pub is_kind : Call → Call → Bool
is_kind Read Read = true
is_kind Write Write = true
is_kind Sync Sync = true
is_kind _ _ = false

-- the number of calls up to the one that fails, after one more of this kind
abbrev pub left_after : Call → FaultDisk → ℕ
left_after call disk = if is_kind disk.call call then disk.left - 1 else disk.left
