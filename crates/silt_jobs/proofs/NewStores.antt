-- New stores on disks in memory: why one is refused, and which crash images it has.
use Rattle.silt_jobs.proofs.Common.{◌≡◌, ◌∙◌, ℕ, ap, length, List, get_or, IsTrue, subst, GaveAny, size, Content, LeavesOnly, Shape, device_size, memory_content, MemFault, IsSafe, NewStoreCause}
use Rattle.silt_jobs.proofs.Common.{empty, replicate, length-replicate, memory_gave, MemDisk, FormatCause, FormatError, refusal_of_formatting, StandsFor}
use Rattle.silt_disk.specs.Disk.{Stays}
use Rattle.silt_device.specs.Memory.{IsFresh}
use Rattle.silt_standing.specs.Standing.{SameDisk}
use Rattle.silt_recovery.specs.declared.fault.FormatError.TheVariants.{BadGeometry, Device, NoMemory}
use Rattle.silt_disk.proofs.Laws.{leaves_weaker}

-- a new disk of this length, in bytes
pub fresh_size : (len : ℕ) (disk : MemDisk) → IsFresh (replicate len 0) disk → size (memory_content disk) ≡ len
fresh_size len disk fresh = ap length fresh.shown ∙ length-replicate len 0

-- why a format of a disk of the right length is refused
pub format_cause : (shape : Shape) (old new : MemDisk) (error : FormatError MemFault) → size (memory_content old) ≡ device_size shape
    → SameDisk (memory_content old) (memory_content new) → FormatCause memory_content (GaveAny memory_gave) shape old new error → NewStoreCause shape (refusal_of_formatting error)
format_cause shape old new BadGeometry fits same cause = cause.0 fits
format_cause shape old new NoMemory fits same cause = tt
format_cause shape old new (Device fault) fits same cause = (new, same.size ∙ fits, cause.1)

-- an unchanged disk has the same possible crash images
pub stays_leaves : (old new : Content) (P : List ℕ → Type 0) → Stays old new → LeavesOnly old P → LeavesOnly new P
stays_leaves old new P stays leaves = record {
  each = λ honest image left.
      let before : IsTrue old.honest = subst IsTrue stays.honest honest in
      leaves.each before image (record {
        size = left.size ∙ ap length (stays.settled before);
        same = λ place settled. left.same place (stays.pending before place ∙ settled) ∙ ap (λ bytes. get_or bytes place 0) (stays.settled before);
      });
}

-- an image that represents the empty map is safe for it
pub new_is_safe : (content : Content) (shape : Shape) → LeavesOnly content (StandsFor shape empty) → LeavesOnly content (IsSafe shape.value_len empty)
new_is_safe content shape leaves =
    leaves_weaker content (StandsFor shape empty) (IsSafe shape.value_len empty) leaves
    (λ image stands. record { good = stands.good; has_len = ap (λ (s : Shape). s.value_len) stands.has_shape; has_map = stands.has_map })
