-- When there is no opened store.
use Rattle.std.specs.Prelude.{◌≡◌, ◌⊎◌, ℕ, List, Option, None, Result, Ok, Err}
use Rattle.silt_jobs.specs.Common.{IsSomeAnd, Content, Ghosts, Refusal, SaysSo, SetCause, Unmarked, LeavesNoOther, IsMarked, Ended, Why, NoDisk, NotDue}
use Rattle.silt_shards.specs.declared.fault.SetCause.TheVariants.{NotDue as IsNotDue, Refused as IsRefusedSo}
use Rattle.silt_store_set.specs.Opening.{OpeningCause}
use Rattle.silt_jobs.specs.declared.people.ended.Why.TheVariants.{Refused}
use Rattle.silt_jobs.specs.Ended.{Refuses}

-- why a job is refused, by what is wrong with a file
abbrev pub IsWhy : {E F : Type 0} → SetCause F → Why E F → Type 0
IsWhy (IsNotDue fault) why = why ≡ NotDue fault
IsWhy (IsRefusedSo refusal) why = (at : Option ℕ) × (why ≡ Refused refusal at)

module _ {D E F : Type 0} where
  -- the source gave no disk, and the job was refused for that
  abbrev pub RefusesNoDisk : (E → Type 0) → Option D → Ended E F → Option (List ℕ) → Option (List ℕ) → Type 0
  RefusesNoDisk NotGiven given ended before after = (error : E) × NotGiven error × (given ≡ None) × Refuses (NoDisk error) ended before after

  -- the source gave no disk, and the job was refused for that; or it gave this one, and the job was done on it
  abbrev pub OnDisk : (D → Type 0) → (E → Type 0) → (D → Type 0) → Option D → Ended E F → Option (List ℕ) → Option (List ℕ) → Type 0
  OnDisk Given NotGiven Done given ended before after = RefusesNoDisk NotGiven given ended before after ⊎ ((disk : D) × Given disk × Done disk)

module _ {D E F : Type 0} (facts : Ghosts D F) where
  -- no store was opened on a disk of this content, for this reason, and nothing else may be left on it than before
  abbrev pub IsUnopened : Content → D → Why E F → Type 0
  IsUnopened old new why =
      (refusal : Refusal F) × (at : Option ℕ) × (why ≡ Refused refusal at) × OpeningCause facts old new refusal × LeavesNoOther old (facts.content new)

  -- a disk of this content is no store of its own, for this reason: it has a mark, or that could not be read; it is as it was
  abbrev pub IsNotAlone : Content → D → Why E F → Type 0
  IsNotAlone old new why = (cause : SetCause F) × IsMarked facts old new cause × IsWhy cause why × (facts.content new ≡ old)

  -- no store of its own was opened on a disk of this content, for this reason
  abbrev pub IsRefused : Content → D → Why E F → Type 0
  IsRefused old new why = IsNotAlone old new why ⊎ (SaysSo old Unmarked × IsUnopened old new why)

  -- the job on a disk was refused for this kind of reason, and the disk is returned
  abbrev pub RefusesFor : (Content → D → Why E F → Type 0) → D → Option D → Ended E F → Option (List ℕ) → Option (List ℕ) → Type 0
  RefusesFor Is old given ended before after = IsSomeAnd given (λ new. (why : Why E F) × Is (facts.content old) new why × Refuses why ended before after)

  -- no store of its own was opened on a disk, and the job was refused for that
  abbrev pub RefusesDisk : D → Option D → Ended E F → Option (List ℕ) → Option (List ℕ) → Type 0
  RefusesDisk old given ended before after = RefusesFor IsRefused old given ended before after

  -- no store of its own was opened, for this reason: the source gave no disk, or the store on it was not opened, and the disk is returned
  abbrev pub IsNotOpened : Result D E → Option D → Why E F → Type 0
  IsNotOpened (Ok old) left why = IsSomeAnd left (λ new. IsRefused (facts.content old) new why)
  IsNotOpened (Err error) left why = (left ≡ None) × (why ≡ NoDisk error)
