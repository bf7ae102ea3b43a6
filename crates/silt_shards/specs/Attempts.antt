-- What is known of an attempt to open a store on a disk.
use Rattle.std.specs.Prelude.{◌≡◌, MatchResult, Result}
use Rattle.silt_disk.specs.declared.disk.Disk.{Ghosts}
use Rattle.silt_recovery.specs.Opening.{LeavesNoOther}
use Rattle.silt_store_set.specs.CoreState.{CoreState, Opens}
use Rattle.silt_store_set.specs.Opening.{OpeningCause}
use Rattle.silt_store_set.specs.declared.store_core.OpenFault.{OpenFault}
use Rattle.silt_shards.specs.declared.attempt.Attempt.{Attempt}
use Rattle.silt_shards.specs.declared.attempt.Attempt.TheVariants.{Due, Made, Taken}

module _ {D F : Type 0} (facts : Ghosts D F) where
  -- an opening of the store on this disk may give this: the store, or why it is refused; and what is left on the disk then
  abbrev pub GivesFor : D → Result (CoreState D) (OpenFault D F) → Type 0
  GivesFor disk result = MatchResult result
      (λ core. Opens facts (facts.content disk) core × LeavesNoOther (facts.content disk) (facts.content core.disk))
      (λ fault. OpeningCause facts (facts.content disk) fault.disk fault.refusal × LeavesNoOther (facts.content disk) (facts.content fault.disk))

  -- the store on this disk is still to be opened, or an opening of it gave what the attempt has
  abbrev pub IsAttemptOn : D → Attempt D F → Type 0
  IsAttemptOn disk (Due own) = own ≡ disk
  IsAttemptOn disk (Made result) = GivesFor disk result
  IsAttemptOn disk Taken = ⊥
