-- What the jobs on each file of a set do.
use Rattle.std.specs.Prelude.{◌≡◌, ◌⊎◌, ℕ, zero, suc, max, Bool, true, false, is_err, List, [], ◌∷◌, ◌++◌, MatchOption, Option, Some, None, Ok, codes, slice_get}
use Rattle.silt_jobs.specs.Common.{decimal, Appends, Ghosts, AreShards, IsShardCount, SetCause, IsRefusedUnopened, Ended, NoJob, Failures}
use Rattle.silt_device.specs.declared.source.DiskSource.{Ghosts as SourceOf}
use Rattle.silt_event.specs.declared.refusal.Refusal.TheVariants.{NoMemory as OutOfMemory}
use Rattle.silt_jobs.specs.declared.people.ended.Ends.{Ends}
use Rattle.silt_jobs.specs.declared.people.ended.Why.TheVariants.{Refused}
use Rattle.silt_jobs.specs.declared.jobs.set_jobs.NoSet.{NoSet}
use Rattle.silt_jobs.specs.declared.jobs.set_jobs.ShardJob.{ShardJob}
use Rattle.silt_jobs.specs.declared.jobs.set_jobs.ShardJob.TheVariants.{Check, Tend}
use Rattle.silt_jobs.specs.Dump.{Dumps}
use Rattle.silt_jobs.specs.Ended.{Refuses, exit_status, none_failed}
use Rattle.silt_jobs.specs.Files.{TendsDisk}
use Rattle.silt_jobs.specs.Jobs.{Checks}
use Rattle.silt_jobs.specs.Openings.{IsWhy}
use Rattle.silt_jobs.specs.SetFiles.{OpensFiles, OpensNot, RefusesAt, at_shard, is_done_so}

-- the line before what is written of a shard
abbrev pub shard_line : ℕ → List ℕ
shard_line shard = codes "shard " ++ (decimal shard ++ codes "\n")

-- a job that only reads shares the files with other readers
abbrev pub is_shared : ShardJob → Bool
is_shared Check = true
is_shared (Tend merge_at) = false

-- a job that was done, with nothing to say
abbrev pub ended_with : {E F : Type 0} → ℕ → Ended E F
ended_with status = record { status = Ok status; why = None; found = None; failures = none_failed }

-- the greatest of this status and those of these parts
abbrev pub worst_status : {E F : Type 0} → ℕ → List (Ended E F) → ℕ
worst_status worst [] = worst
worst_status worst (part ∷ parts) = worst_status (max worst (exit_status part)) parts

-- the job was refused since there is no such set, because of the file of this shard, if of one
abbrev pub RefusesNoSet : {E F : Type 0} → NoSet E F → Ended E F → Option (List ℕ) → Option (List ℕ) → Type 0
RefusesNoSet none ended before after = MatchOption none.shard (Refuses none.why ended before after) (λ shard. RefusesAt shard none.why ended before after)

module _ {S D E F : Type 0} (facts : Ghosts D F) (disks : SourceOf S D E F) (source : S) (shared : Bool) (file : List ℕ) where
  -- there is no such set: the number is that of none, the source opened one of the files not, or one is not the shard that is due
  abbrev pub IsNoSet : ℕ → NoSet E F → Type 0
  IsNoSet count none =
      ((¬ IsShardCount count) × (none.shard ≡ None) × (none.why ≡ NoJob))
      ⊎ (((shard : ℕ) × (none.shard ≡ Some shard) × OpensNot disks source shared file shard none.why)
      ⊎ ((given : List D) × IsShardCount count × OpensFiles disks source shared file count given
      × ((shard : ℕ) × (cause : SetCause F) × (none.shard ≡ Some shard) × IsRefusedUnopened facts given shard cause × IsWhy cause none.why)))

  -- the source opened the files, and they are, in their order, the shards of one set
  abbrev pub OpensSet : ℕ → List D → Type 0
  OpensSet count given = IsShardCount count × OpensFiles disks source shared file count given × AreShards facts given

module _ {D E F : Type 0} (facts : Ghosts D F) (Failed : D → Failures → Type 0) where
  -- the job was done on a disk
  abbrev pub DoesOn : ShardJob → D → Ended E F → Option (List ℕ) → Option (List ℕ) → Type 0
  DoesOn Check disk ended before after = Checks facts disk ended before after
  DoesOn (Tend merge_at) disk ended before after = (given : Option D) × TendsDisk facts Failed merge_at disk given ended before after

  -- the line of a shard was written, and then the job was done on its disk; or that line was not written
  abbrev pub DoesShard : ShardJob → ℕ → D → Ended E F → Option (List ℕ) → Option (List ℕ) → Type 0
  DoesShard job shard disk ended before after =
      ((is_err ended.status ≡ true) × (ended.why ≡ None))
      ⊎ ((between : Option (List ℕ)) × Appends before between (shard_line shard) × DoesOn job disk ended between after)

  -- the job was done on the first so many of these disks, one after the other, and all that it wrote was written; these are its parts
  abbrev pub DoesFirst : ShardJob → List D → ℕ → List (Ended E F) → Option (List ℕ) → Option (List ℕ) → Type 0
  DoesFirst job disks zero parts before after = (parts ≡ []) × (after ≡ before)
  DoesFirst job disks (suc shard) parts before after =
      (front : List (Ended E F)) × (disk : D) × (part : Ended E F) × (between : Option (List ℕ)) × (parts ≡ front ++ part ∷ []) × (slice_get disks shard ≡ Some disk)
      × (is_err part.status ≡ false) × DoesFirst job disks shard front before between × DoesShard job shard disk part between after

  -- The job was done on all these disks, and its status is the worst of its parts; or it was broken off at a shard, since the writer
  -- failed; or memory ran out before it began.
  abbrev pub DoesEach : ShardJob → ℕ → List D → Ends E F → Option (List ℕ) → Option (List ℕ) → Type 0
  DoesEach job count disks ends before after =
      (DoesFirst job disks count ends.parts.items before after × (ends.whole ≡ ended_with (worst_status 0 ends.parts.items)))
      ⊎ (((shard : ℕ) × (disk : D) × (part : Ended E F) × (between : Option (List ℕ)) × DoesFirst job disks shard ends.parts.items before between
      × (slice_get disks shard ≡ Some disk) × (is_err part.status ≡ true) × DoesShard job shard disk part between after × (ends.whole ≡ at_shard shard part))
      ⊎ ((ends.parts.items ≡ []) × Refuses (Refused OutOfMemory None) ends.whole before after))

module _ {D F : Type 0} (facts : Ghosts D F) where
  -- the lines of the first so many of these disks were written, one after the other; the source of disks has errors of this type
  abbrev pub DumpsFirst : (E : Type 0) → List D → ℕ → Option (List ℕ) → Option (List ℕ) → Type 0
  DumpsFirst E disks zero before after = after ≡ before
  DumpsFirst E disks (suc shard) before after =
      (disk : D) × (dumped : Ended E F) × (between : Option (List ℕ)) × (slice_get disks shard ≡ Some disk) × (is_done_so dumped ≡ true)
      × DumpsFirst E disks shard before between × Dumps facts disk dumped between after

module _ {D E F : Type 0} (facts : Ghosts D F) where
  -- the lines of all these disks were written; or the job ended at the first shard of which they were not
  abbrev pub DumpsEach : ℕ → List D → Ended E F → Option (List ℕ) → Option (List ℕ) → Type 0
  DumpsEach count disks ended before after =
      (DumpsFirst facts E disks count before after × (ended ≡ ended_with 0))
      ⊎ ((shard : ℕ) × (disk : D) × (dumped : Ended E F) × (between : Option (List ℕ)) × DumpsFirst facts E disks shard before between
      × (slice_get disks shard ≡ Some disk) × (is_done_so dumped ≡ false) × Dumps facts disk dumped between after × (ended ≡ at_shard shard dumped))

module _ {S D E F : Type 0} (facts : Ghosts D F) (Failed : D → Failures → Type 0) (disks : SourceOf S D E F) (source : S) (file : List ℕ) where
  -- the job was done on each file of a set that the source opened, or there is no such set
  abbrev pub DoesSet : ShardJob → ℕ → Ends E F → Option (List ℕ) → Option (List ℕ) → Type 0
  DoesSet job count ends before after =
      ((none : NoSet E F) × IsNoSet facts disks source (is_shared job) file count none × (ends.parts.items ≡ []) × RefusesNoSet none ends.whole before after)
      ⊎ ((given : List D) × OpensSet facts disks source (is_shared job) file count given × DoesEach facts Failed job count given ends before after)

module _ {S D E F : Type 0} (facts : Ghosts D F) (disks : SourceOf S D E F) (source : S) (file : List ℕ) where
  -- the files of a set that the source opened were dumped in their order, or there is no such set
  abbrev pub DumpsSet : ℕ → Ended E F → Option (List ℕ) → Option (List ℕ) → Type 0
  DumpsSet count ended before after =
      ((none : NoSet E F) × IsNoSet facts disks source true file count none × RefusesNoSet none ended before after)
      ⊎ ((given : List D) × OpensSet facts disks source true file count given × DumpsEach facts count given ended before after)
