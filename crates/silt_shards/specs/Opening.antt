-- Whether files are the shards of one set, and what an opening of all of them gives.
use Rattle.std.specs.Prelude.{◌≡◌, ◌≢◌, ℕ, IsTrue, All, IfSome, List, length, slice_get, Some}
use Rattle.silt_disk.specs.Disk.{Content, GaveAny}
use Rattle.silt_disk.specs.Header.{shape_of}
use Rattle.silt_disk.specs.Layout.{Shape}
use Rattle.silt_disk.specs.declared.disk.Disk.{Ghosts}
use Rattle.silt_event.specs.declared.refusal.Refusal.TheVariants.{Device}
use Rattle.silt_recovery.specs.Opening.{LeavesNoOther}
use Rattle.silt_store_set.specs.CoreState.{CoreState}
use Rattle.silt_store_set.specs.Opening.{OpeningCause}
use Rattle.silt_shards.specs.Marks.{marking_of}
use Rattle.silt_shards.specs.declared.mark.Mark.{Mark}
use Rattle.silt_shards.specs.declared.mark.Marking.{Marking}
use Rattle.silt_shards.specs.declared.mark.Marking.TheVariants as marking
use Rattle.silt_shards.specs.declared.fault.MarkFault.{MarkFault}
use Rattle.silt_shards.specs.declared.fault.MarkFault.TheVariants.{Unmarked, Unknown, InSet, OtherCount, OtherShard, OtherSet, OtherGeometry}
use Rattle.silt_shards.specs.declared.fault.SetCause.{SetCause}
use Rattle.silt_shards.specs.declared.fault.SetCause.TheVariants.{NotDue, Refused}

-- all stores have one geometry
abbrev pub AreOfOneShape : {D : Type 0} → List (CoreState D) → Type 0
AreOfOneShape cores = (shape : Shape) × All (λ core. core.shape ≡ shape) cores

-- the next store has the geometry of the first of these, if there is one
abbrev pub IsLike : {D : Type 0} → List (CoreState D) → CoreState D → Type 0
IsLike cores core = IfSome (slice_get cores 0) (λ first. core.shape ≡ first.shape)

-- the numbers in a mark are not those of the shard that is due, in a set of so many
abbrev pub HasOtherNumbers : ℕ → ℕ → Mark → MarkFault → Type 0
HasOtherNumbers count shard mark (OtherCount found asked) = (found ≡ mark.count) × (asked ≡ count) × (mark.count ≢ count)
HasOtherNumbers count shard mark (OtherShard found of due) = (found ≡ mark.shard) × (of ≡ mark.count) × (due ≡ shard) × (mark.count ≡ count) × (mark.shard ≢ shard)
HasOtherNumbers count shard mark fault = ⊥

-- a device says this of its place in a set, if it is honest (obeys the crash model)
abbrev pub SaysSo : Content → Marking → Type 0
SaysSo content said = IsTrue content.honest → marking_of content.shown ≡ said

-- the mark of a device is of another version, or it makes the device this shard of a set
abbrev pub IsOfSet : Content → MarkFault → Type 0
IsOfSet content Unknown = SaysSo content marking.Unknown
IsOfSet content (InSet shard of) = (set : List ℕ) × SaysSo content (marking.Marked (record { count = of; shard = shard; set = set }))
IsOfSet content fault = ⊥

module _ {D F : Type 0} (facts : Ghosts D F) where
  -- the disk says this of its place in a set
  abbrev pub Says : D → Marking → Type 0
  Says disk said = SaysSo (facts.content disk) said

  -- why a disk of this content is no store of its own: it has a mark, or that could not be read
  abbrev pub IsMarked : Content → D → SetCause F → Type 0
  IsMarked content disk (NotDue fault) = IsOfSet content fault
  IsMarked content disk (Refused (Device fault)) = GaveAny facts.gave disk fault
  IsMarked content disk (Refused refusal) = ⊥

  -- these disks are, in their order, all shards of one set
  pub record AreShards (disks : List D) : Type 0 where
    pub set : List ℕ
    pub each : (shard : ℕ) (disk : D) → slice_get disks shard ≡ Some disk → Says disk (marking.Marked (record { count = length disks; shard = shard; set = set }))

  -- why a disk is not the shard that is due, in a set of so many shards with this first disk
  abbrev pub IsNotDue : ℕ → ℕ → D → D → MarkFault → Type 0
  IsNotDue count shard first disk Unmarked = Says disk marking.Unmarked
  IsNotDue count shard first disk Unknown = Says disk marking.Unknown
  IsNotDue count shard first disk (InSet found of) = ⊥
  IsNotDue count shard first disk (OtherCount found asked) = (mark : Mark) × Says disk (marking.Marked mark) × HasOtherNumbers count shard mark (OtherCount found asked)
  IsNotDue count shard first disk (OtherShard found of due) = (mark : Mark) × Says disk (marking.Marked mark) × HasOtherNumbers count shard mark (OtherShard found of due)
  IsNotDue count shard first disk OtherSet =
      (own : Mark) × (other : Mark) × Says disk (marking.Marked own) × Says first (marking.Marked other) × (own.set ≢ other.set)
  IsNotDue count shard first disk OtherGeometry =
      IsTrue (facts.content first).honest → IsTrue (facts.content disk).honest → shape_of (facts.content disk).shown ≢ shape_of (facts.content first).shown

  -- why the shard that was due is refused, and the disk of it after that: it is not the shard, or no store was opened on it
  abbrev pub CausedAt : ℕ → ℕ → D → D → D → SetCause F → Type 0
  CausedAt count shard first disk left (NotDue fault) = IsNotDue count shard first disk fault
  CausedAt count shard first disk left (Refused refusal) = OpeningCause facts (facts.content disk) left refusal

  -- why disks are not opened as a set: one of them, of this number, is refused, and nothing else may be left on it than before
  pub record IsRefusedSet (disks : List D) (shard : ℕ) (left : D) (cause : SetCause F) : Type 0 where
    pub first : D
    pub disk : D
    pub at_first : slice_get disks 0 ≡ Some first
    pub at_shard : slice_get disks shard ≡ Some disk
    pub caused : CausedAt (length disks) shard first disk left cause
    pub images : LeavesNoOther (facts.content disk) (facts.content left)

  -- the same, before any store is opened: the disk is as it was
  pub record IsRefusedUnopened (disks : List D) (shard : ℕ) (cause : SetCause F) : Type 0 where
    pub disk : D
    pub at_shard : slice_get disks shard ≡ Some disk
    pub refused : IsRefusedSet disks shard disk cause
