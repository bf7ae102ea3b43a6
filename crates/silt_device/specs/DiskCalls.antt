-- What a write and a sync of a disk do, as the trait says it: a record for each.
use Rattle.std.specs.Prelude.{◌≡◌, ◌+◌, ◌%◌, ◌^◌, ℕ, List, Result, OnOk, OnErr, MatchResult, length}
use Rattle.silt_disk.specs.Disk.{Makes, Tears, Writes, Settles, Stays, size as size_of}
use Rattle.silt_disk.specs.declared.disk.Call.TheVariants.{Write, Sync}
use Rattle.silt_disk.specs.declared.disk.Disk.{Ghosts}

module _ {D F T : Type 0} (disk : Ghosts D F) where
  -- a write of these bytes from this place on
  pub record WritesBytes (at : ℕ) (bytes : List ℕ) (old new : D) (result : Result T F) : Type 0 where
    -- the disk is as long as before
    pub size : size_of (disk.content new) ≡ size_of (disk.content old)
    -- it counts as one write
    pub made : Makes disk.writes disk.syncs 1 0 old new
    -- only the range has changed, and after Ok it shows the bytes
    pub torn : Tears at (length bytes) (disk.content old) (disk.content new)
    pub written : OnOk result (Writes at bytes (disk.content old) (disk.content new))
    -- after Ok no call has failed, after an error one more has, and the disk gave this fault
    pub failures : MatchResult result (λ _. disk.failures new ≡ disk.failures old)
        (λ fault. (disk.failures new ≡ (disk.failures old + 1) % 2 ^ 64) × disk.gave new fault Write at (length bytes))

  -- a sync
  pub record SyncsAll (old new : D) (result : Result T F) : Type 0 where
    -- the disk is as long as before
    pub size : size_of (disk.content new) ≡ size_of (disk.content old)
    -- it counts as one sync
    pub made : Makes disk.writes disk.syncs 0 1 old new
    -- after Ok all that is shown is settled, after an error nothing has changed
    pub settled : OnOk result (Settles (disk.content old) (disk.content new))
    pub unchanged : OnErr result (Stays (disk.content old) (disk.content new))
    -- after Ok no call has failed, after an error one more has, and the disk gave this fault
    pub failures : MatchResult result (λ _. disk.failures new ≡ disk.failures old)
        (λ fault. (disk.failures new ≡ (disk.failures old + 1) % 2 ^ 64) × disk.gave new fault Sync 0 (size_of (disk.content new)))
