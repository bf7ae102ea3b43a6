-- What serving the files of a set does.
use Rattle.std.specs.Prelude.{◌≡◌, ◌⊎◌, ◌<◌, ◌≤◌, ◌++◌, ℕ, All, Bool, true, false, IfOk, is_some, List, [], MatchOption, Option, None, Some, codes, length, map}
use Rattle.std.specs.Prelude.{slice_get, take}
use Rattle.silt.specs.Common.{Appends, AllZip, Shape, Ghosts, BreaksServing, LeavesEach, ServesSetAt, network_text, AreOfOneShape, AreShards, IsRefusedSet}
use Rattle.silt.specs.Common.{IsShardCount, LeavesBegun, CoreState, Opens, Service, Refuses, none_failed, HasFewRegions, HasRegions, OpensFiles, OpensNot, RefusesAt}
use Rattle.silt.specs.Common.{set_value_len, Why, FewRegions, NoJob, Refused, ShortValues, Failures, Urgent}
use Rattle.silt_device.specs.declared.source.DiskSource.{Ghosts as SourceOf}
use Rattle.silt_event.specs.declared.refusal.Refusal.TheVariants.{NoMemory as OutOfMemory}
use Rattle.silt_shards.specs.declared.fault.SetCause.{SetCause}
use Rattle.silt_jobs.specs.Openings.{IsWhy}
use Rattle.silt_jobs.specs.declared.people.ended.Ended.{Ended}
use Rattle.silt.specs.Services.{TellsEntrance}

module _ {D : Type 0} (Failed : D → Failures → Type 0) where
  -- this disk is the first of which a call failed; these are its number and its calls that failed
  abbrev pub IsFirstFailed : List D → ℕ → Failures → Type 0
  IsFirstFailed disks shard failures =
      (disk : D) × (slice_get disks shard ≡ Some disk) × All (λ other. Failed other none_failed) (take shard disks)
      × Failed disk (record { read = failures.read; last = failures.last; shard = None })
      × ((is_some failures.read ≡ true) ⊎ (is_some failures.last ≡ true))

  -- the calls that failed of the first of these disks of which one did, with the number of its shard; or no call of any of them failed
  abbrev pub FailedAmong : List D → Failures → Type 0
  FailedAmong disks failures =
      MatchOption failures.shard ((failures ≡ none_failed) × All (λ disk. Failed disk none_failed) disks) (λ shard. IsFirstFailed disks shard failures)

-- the opened stores of a set have as many hash regions as a merge is to begin with, and values with room for a string's length if clients send strings
abbrev pub AreServable : {D : Type 0} → Service → List (CoreState D) → Type 0
AreServable service cores = HasRegions service.merge_at cores × (service.resp ≡ true → 2 ≤ set_value_len cores)

-- there is no listener: the job ends with that, and nothing is served
abbrev pub LacksEntrance : {D E F : Type 0} → List D → Ended E F → Option (List ℕ) → Option (List ℕ) → Type 0
LacksEntrance left ended before after =
    (left ≡ []) × (ended.why ≡ None) × IfOk ended.status (λ status. (status ≡ 1) × Appends before after (codes "opened\n" ++ network_text))

-- a shard that is not what is due was refused, and the line and the reason say why
abbrev pub RefusesFault : {E F : Type 0} → ℕ → SetCause F → Ended E F → Option (List ℕ) → Option (List ℕ) → Type 0
RefusesFault {E} {F} shard cause ended before after = (why : Why E F) × IsWhy cause why × RefusesAt shard why ended before after

module _ {D F : Type 0} (facts : Ghosts D F) where
  -- A server of so many opened stores ended with this status and left these disks: it served to the end, with nothing to say; or the line says
  -- why it did not, or it did, and meanwhile a store failed or a merge was refused.
  abbrev pub EndsSet : Type 0 → ℕ → ℕ → List D → Option (List ℕ) → Option (List ℕ) → Type 0
  EndsSet Quiet count status left before after =
      ((status ≡ 0) × Quiet × ServesSetAt (λ port. Unit {0}) facts count left before after)
      ⊎ ((status ≡ 1) × (BreaksServing (λ port. Unit {0}) before after ⊎ ServesSetAt (λ port. Unit {0}) facts count left before after))

module _ {D E F : Type 0} (facts : Ghosts D F) (Failed : D → Failures → Type 0) where
  -- so many opened stores were served through a listener, with the calls of their disks that failed; or memory ran out before
  abbrev pub ServesEntered : ℕ → List D → Ended E F → Option (List ℕ) → Option (List ℕ) → Type 0
  ServesEntered count left ended before after =
      ((left ≡ []) × Refuses (Refused OutOfMemory None) ended before after)
      ⊎ (FailedAmong Failed left ended.failures × IfOk ended.status (λ status. EndsSet facts (ended.why ≡ None) count status left before after))

module _ {D E F : Type 0} (facts : Ghosts D F) (Failed : D → Failures → Type 0) (service : Service) where
  -- the job on the opened stores of a set was refused: they have too few hash regions, or too short values
  abbrev pub RefusesStores : List (CoreState D) → Ended E F → Option (List ℕ) → Option (List ℕ) → Type 0
  RefusesStores cores ended before after =
      ((hashes : ℕ) × HasFewRegions service.merge_at cores hashes × Refuses (FewRegions hashes) ended before after)
      ⊎ ((service.resp ≡ true) × (set_value_len cores < 2) × Refuses ShortValues ended before after)

  -- the opened stores of a set were served, if they can be and there was a listener, or the job was refused
  abbrev pub ServesShards : Bool → List (CoreState D) → List D → Ended E F → Option (List ℕ) → Option (List ℕ) → Type 0
  ServesShards bound cores left ended before after =
      ((left ≡ []) × RefusesStores cores ended before after)
      ⊎ (AreServable service cores × (((bound ≡ false) × LacksEntrance left ended before after)
      ⊎ ((bound ≡ true) × ServesEntered facts Failed (length cores) left ended before after)))

  -- One of the disks was refused, as it is not the shard that is due, or no store was opened on it, and no disk is left. Or all are, in their
  -- order, the shards of one set, and their stores were opened and served. Then each possible crash image of each disk that is left represents
  -- one map after some first part of one list of commands, and some calls lead to each of these disks from the store that was opened on it.
  abbrev pub ServesOpening : Bool → List D → List D → Ended E F → Option (List ℕ) → Option (List ℕ) → Type 0
  ServesOpening bound disks left ended before after =
      ((left ≡ []) × ((shard : ℕ) × (kept : D) × (cause : SetCause F) × IsRefusedSet facts disks shard kept cause × RefusesFault shard cause ended before after))
      ⊎ (AreShards facts disks × ((cores : List (CoreState D)) × AreOfOneShape cores × AllZip (λ disk core. Opens facts (facts.content disk) core) disks cores
      × ServesShards bound cores left ended before after × All (λ disk. (shape : Shape) × LeavesBegun (facts.content disk) shape) left × LeavesEach facts cores left))

  -- The port was bound before the opening, or people were told why not. Then the set on these disks was served, each with what the source gave.
  abbrev pub ServesDisks : (List ℕ → Urgent → Type 0) → Type 0 → List D → List D → Ended E F → Option (List ℕ) → Option (List ℕ) → Type 0
  ServesDisks Told Quiet given left ended before after =
      (bound : Bool) × TellsEntrance Told Quiet service bound
      × ((disks : List D) × (map facts.content disks ≡ map facts.content given) × ServesOpening bound disks left ended before after)

module _ {S D E F : Type 0} (facts : Ghosts D F) (Failed : D → Failures → Type 0) (disks : SourceOf S D E F) (source : S) (service : Service) where
  -- the set in the files that the source opened was served, or it opened one not, or there is no such set
  abbrev pub ServesSet : (List ℕ → Urgent → Type 0) → Type 0 → ℕ → List D → Ended E F → Option (List ℕ) → Option (List ℕ) → Type 0
  ServesSet Told Quiet count left ended before after =
      ((left ≡ []) × Quiet × ((¬ IsShardCount count) × Refuses NoJob ended before after))
      ⊎ (((left ≡ []) × Quiet × ((shard : ℕ) × (why : Why E F) × OpensNot disks source false service.file.now shard why × RefusesAt shard why ended before after))
      ⊎ (IsShardCount count × ((given : List D) × OpensFiles disks source false service.file.now count given × ServesDisks facts Failed service Told Quiet given left ended before after)))
