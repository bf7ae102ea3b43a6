-- The merge of the oldest hash stores and the sorted store into a new sorted store, step by step.
use Rattle.std.specs.Prelude.{◌≡◌, ◌≤◌, ◌<◌, ◌+◌, ◌*◌, ◌-◌, ◌^◌, ◌==◌, ◌⊎◌, ℕ, Bool, true, if◌then◌else◌, IsTrue, All, get_or, length, [], take, drop, sum_by, List, Option, Result, Some, None, IfSome}
use Rattle.std.specs.Option.{option_map}
use Rattle.silt_disk.specs.Disk.{Content, GaveAny}
use Rattle.silt_disk.specs.Layout.{entry_len, slots_len}
use Rattle.silt_disk.specs.declared.disk.Disk.{Ghosts}
use Rattle.silt_event.specs.declared.place.Place.{Place}
use Rattle.silt_event.specs.declared.place.Place.TheVariants.{HashDigest}
use Rattle.silt_event.specs.declared.progress.Progress.{Progress}
use Rattle.silt_event.specs.declared.progress.Progress.TheVariants.{Idle, Waiting, Moved, Finished}
use Rattle.silt_frame.specs.Rows.{StoredRow}
use Rattle.silt_image.specs.Stores.{Stores, stores_named}
use Rattle.silt_hash_store.specs.State.{HashState}
use Rattle.silt_manifest.specs.Standing.{ManifestState}
use Rattle.silt_manifest.specs.declared.body.Body.{Body}
use Rattle.silt_manifest.specs.declared.digests.Digests.{Digests}
use Rattle.silt_engine.specs.Replacements.{taken_rows}
use Rattle.silt_merge.specs.Comparing.{HasBytes}
use Rattle.silt_merge.specs.Merging.{IsSameMerge, Seals}
use Rattle.silt_merge.specs.Rows.{key_count, merged_rows, regions_of}
use Rattle.silt_merge.specs.State.{MergeState, is_done, oldest_stores, sorted_in, steps_for, steps_of}
use Rattle.silt_merge.specs.Steps.{TakesMemory, damaged_place}
use Rattle.silt_merge.specs.declared.merge.StepError.{StepError}
use Rattle.silt_merge.specs.declared.merge.StepError.TheVariants as step_error
use Rattle.silt_engine.specs.declared.merge.MergeError.{MergeError}
use Rattle.silt_engine.specs.declared.merge.MergeError.TheVariants.{Spent, NoMemory, Damaged, Read, Write}
use Rattle.silt_engine.specs.Calls.{BreaksOff, IsLastGeneration, WorksBy}
use Rattle.silt_engine.specs.Costs.{StepMakes, step_syncs, step_writes}
use Rattle.silt_engine.specs.Digests.{merged_digests}
use Rattle.silt_engine.specs.Conversion.{is_work}
use Rattle.silt_standing.specs.Standing.{Stands, full_image}
use Rattle.silt_sorted_store.specs.Index.{HasIndex, IndexedState}
use Rattle.silt_sorted_store.specs.State.{HasDigest}
use Rattle.silt_standing.specs.State.{AreWhole, EngineState}

-- the progress of the next step, given the number of hash stores, and whether a merge in progress has decided all keys (none if no merge is
-- in progress)
abbrev pub merge_progress : ℕ → Option Bool → Progress
merge_progress hashes (Some done) = if done then Finished else Moved
merge_progress hashes None = if hashes == 0 then Idle else Moved

-- the next progress of merging
abbrev pub merge_turn : EngineState → Progress
merge_turn s = merge_progress (length s.hashes) (option_map (λ merge. is_done merge s.sorted) s.merging)

-- the record without this many of the oldest hash stores, and with this many entries in this sorted region
abbrev pub merged_body : Body → ℕ → ℕ → ℕ → Body
merged_body body count region written =
    record body { generation = body.generation + 1; hashed = take (length body.hashed - count) body.hashed; sorted = region; sorted_count = written }

-- the merge took one more step, or it is of all hash stores and took its first one
abbrev pub IsNextMerge : EngineState → Option MergeState → MergeState → Type 0
IsNextMerge s (Some before) after = IsSameMerge before after × (steps_of after ≡ steps_of before + 1)
IsNextMerge s None after = (after.stores ≡ length s.hashes) × (steps_of after ≡ 1)

-- what the next step of merging reads: a hash store, from the newest on, and behind all that it takes the sorted store
abbrev pub place_read : List HashState → Option MergeState → Place
place_read hashes None = HashDigest (get_or (regions_of hashes) 0 0)
place_read hashes (Some merge) = damaged_place (oldest_stores merge.stores hashes) merge

-- a merge went one step on, and nothing else is changed
pub record MergesOn (before after : EngineState) : Type 0 where
  pub merge : MergeState
  pub is : after ≡ record before { merging = Some merge }
  pub step : IsNextMerge before before.merging merge
  -- it has found nothing, or that the store that it read is damaged
  pub found : (merge.damaged ≡ None) ⊎ (merge.damaged ≡ Some (place_read before.hashes before.merging))

-- what was read of each of this many of the oldest hash stores has its digest, and so has what was read of the entries, if there are any
pub record AreCompared (s : EngineState) (count : ℕ) : Type 0 where
  pub hashes : All (λ store. HasBytes (slots_len s.manifest.shape) store.digest) (oldest_stores count s.hashes)
  pub entries : 0 < s.sorted.count → HasBytes (s.sorted.count * entry_len s.manifest.shape) s.digest

-- a merge is finished: the next record is current, without the hash stores that were merged and with the new sorted store
pub record EndsMerged (before after : EngineState) : Type 0 where
  pub merge : MergeState
  pub was : before.merging ≡ Some merge
  pub none : after.merging ≡ None
  pub shape : after.manifest.shape ≡ before.manifest.shape
  pub current : after.manifest.current ≡ merged_body before.manifest.current merge.stores merge.region merge.written
  pub active : after.active ≡ before.active
  pub frozen : after.frozen ≡ before.frozen
  pub converting : after.converting ≡ before.converting
  -- on any disk, what the merge read of each of its stores has the digest of that store
  pub compared : AreCompared before merge.stores

-- what a step changes in memory
abbrev pub MergesTo : Progress → EngineState → EngineState → Type 0
MergesTo Idle before after = after ≡ before
MergesTo Waiting before after = ⊥
MergesTo Moved before after = MergesOn before after
MergesTo Finished before after = EndsMerged before after

-- a step returned the progress that was due, and made it
pub record Merges (progress : Progress) (before after : EngineState) : Type 0 where
  pub due : progress ≡ merge_turn before
  pub done : MergesTo progress before after

-- the stores of the full image
abbrev pub full_stores : Content → EngineState → Stores
full_stores content s = stores_named s.manifest.shape s.manifest.current (full_image content s)

-- the rows that a merge of this many of the oldest hash stores takes, the oldest first
abbrev pub merge_sources : ℕ → Stores → List StoredRow
merge_sources count s = taken_rows (drop (length s.hashes - count) s.hashes) s

-- the entries of the new sorted store are the newest rows of the merged stores and the old entries, if they are puts, in key order
abbrev pub HasMergedEntries : Content → Content → EngineState → EngineState → Type 0
HasMergedEntries old new before after =
    IfSome before.merging (λ merge. (full_stores new after).entries ≡ merged_rows (merge_sources merge.stores (full_stores old before)))

-- a merge has decided all keys once it took a step for each slot of its hash stores and for each key of their rows and the entries
abbrev pub IsDoneBySteps : Content → EngineState → MergeState → Type 0
IsDoneBySteps content s merge =
    (is_done merge s.sorted ≡ true → steps_of merge ≡ steps_for merge (key_count (merge_sources merge.stores (full_stores content s))))
    × (steps_of merge ≡ steps_for merge (key_count (merge_sources merge.stores (full_stores content s))) → is_done merge s.sorted ≡ true)

-- the step begins a merge, it gathers the first row of a key, or it decides a key that has a value
abbrev pub MayLackMemory : Content → EngineState → Type 0
MayLackMemory content s = IfSome s.merging (λ merge. TakesMemory content (oldest_stores merge.stores s.hashes) s.sorted merge)

-- the store that the merge in progress has found damaged, if there is one
abbrev pub damaged_in : Option MergeState → Option Place
damaged_in None = None
damaged_in (Some merge) = merge.damaged

-- the error that says why a step of a merge was not done
abbrev pub refusal_of_step : {F : Type 0} → StepError F → MergeError F
refusal_of_step step_error.NoMemory = NoMemory
refusal_of_step (step_error.Read fault) = Read fault
refusal_of_step (step_error.Write fault) = Write fault
refusal_of_step (step_error.Damaged place) = Damaged place

module _ {D F : Type 0} (facts : Ghosts D F) (old new : D) (before after : EngineState) where
  -- why a step was not done, and what was changed
  abbrev pub MergeErrorCause : MergeError F → Type 0
  MergeErrorCause Spent = (after ≡ before) × (new ≡ old) × (merge_turn before ≡ Finished) × IsLastGeneration before
  MergeErrorCause NoMemory = (after ≡ before) × (new ≡ old)
      × (((merge_turn before ≡ Moved) × MayLackMemory (facts.content old) before) ⊎ ((merge_turn before ≡ Finished) × (IsLastGeneration before → ⊥)))
  MergeErrorCause (Damaged place) = (after ≡ before) × (new ≡ old) × (damaged_in before.merging ≡ Some place)
      × (is_work (merge_turn before) ≡ true) × (IsTrue (facts.content old).honest → ⊥)
  MergeErrorCause (Read fault) = (after ≡ before) × (new ≡ old) × (merge_turn before ≡ Moved) × GaveAny facts.gave old fault
  MergeErrorCause (Write fault) = (is_work (merge_turn before) ≡ true) × BreaksOff facts old new before after fault

-- what a step of merging does: it adds no command, and makes the writes and syncs that are due
abbrev pub WorksOfMerge : {D F E : Type 0} → Ghosts D F → D → D → EngineState → EngineState → Result Progress E → Type 0
WorksOfMerge facts old new before after result =
    WorksBy facts (StepMakes facts old new before after) [] (step_writes (merge_turn before)) (step_syncs (merge_turn before)) old new before after result

-- ---- between the steps

-- the index of the merge in progress is made
pub record SealsMerge (before after : EngineState) : Type 0 where
  pub merge : MergeState
  pub was : before.merging ≡ Some merge
  pub sealed : MergeState
  pub seals : Seals merge sealed
  pub is : after ≡ record before { merging = Some sealed }

-- the entries of this sorted store are those of a merge that has decided all keys, its index and its digest are theirs on each disk on
-- which the stores stand, and this record ends the merge, with the digests of the hash stores that stay and that of the entries
pub record EndsMerge (s : EngineState) (body : Body) (digests : Digests) (store : IndexedState) : Type 0 where
  pub merge : MergeState
  pub was : s.merging ≡ Some merge
  pub done : is_done merge s.sorted ≡ true
  pub unspent : s.manifest.current.generation < 2 ^ 63 - 1
  pub entries : store.sorted ≡ sorted_in merge
  pub located : (content : Content) → Stands content s → HasIndex content store.sorted store.index
  pub digested : (content : Content) → Stands content s → HasDigest content store.sorted store.digest
  pub is : body ≡ merged_body s.manifest.current merge.stores merge.region merge.written
  pub digests_are : digests ≡ merged_digests s merge.stores store.digest
  -- its index is made
  pub sealed : merge.index.sealed ≡ Some store.index
  -- it has found no store damaged
  pub sound : merge.damaged ≡ None

-- how many of the rows of hash stores are puts
abbrev pub puts_in : List HashState → ℕ
puts_in stores = sum_by (λ store. store.puts) stores

-- the charge without the puts of this many of the oldest hash stores and without the entries
abbrev pub charge_without : EngineState → ℕ → ℕ
charge_without s count = s.charge - puts_in (oldest_stores count s.hashes) - s.sorted.count

-- in memory: under this manifest, this sorted store replaces the old one and this many of the oldest hash stores, and its entries count in
-- place of their puts
abbrev pub sorted_replaced : EngineState → ManifestState → ℕ → IndexedState → EngineState
sorted_replaced s manifest count store = record {
  manifest = manifest;
  active = s.active;
  frozen = s.frozen;
  hashes = take (length s.hashes - count) s.hashes;
  sorted = store.sorted;
  index = store.index;
  digest = store.digest;
  converting = s.converting;
  merging = None;
  charge = s.charge - ((s.charge - charge_without s count) - store.sorted.count);
}

-- the sorted store of a merge, whose index is made, may replace what was merged, under this manifest
pub record MayStandFor (s : EngineState) (manifest : ManifestState) (store : IndexedState) : Type 0 where
  pub merge : MergeState
  pub was : s.merging ≡ Some merge
  pub entries : store.sorted ≡ sorted_in merge
  pub sealed : merge.index.sealed ≡ Some store.index
  pub most : merge.stores ≤ length s.hashes
  pub whole : AreWhole (sorted_replaced s manifest merge.stores store)
