-- What contracts see of a store, and what its calls do.
use Rattle.std.specs.Prelude.{◌≡◌, ◌≢◌, ◌≤◌, ◌<◌, ◌-◌, ◌*◌, ◌^◌, ◌%◌, ◌/◌, ◌==◌, ◌&&◌, ◌⊎◌, ℕ, ◌+◌, not, nat_lt, if◌then◌else◌, Option, Some, None, Bool, true}
use Rattle.std.specs.Prelude.{false, IsTrue, IsSomeAnd, List, [], ◌∷◌, ◌++◌, drop, filter, flat_map, get_or, length, slice_get, take, is_some, nat_le, ◌||◌}
use Rattle.std.specs.FinMap.{get}
use Rattle.std.specs.Option.{option_map}
use Rattle.silt_disk.specs.Disk.{Content, GaveAny, LeavesOnly, Makes, MakesAtMost}
use Rattle.silt_disk.specs.Layout.{Shape}
use Rattle.silt_frame.specs.declared.key.Key.{Key}
use Rattle.silt_frame.specs.declared.key.Kind.{Kind}
use Rattle.silt_frame.specs.declared.key.Kind.TheVariants as kind
use Rattle.silt_event.specs.Commands.{Begins, Command, Map, WaitsAlone, WaitsBehind, delete, map_after, put}
use Rattle.silt_disk.specs.Header.{shape_of}
use Rattle.silt_disk.specs.declared.disk.Disk.{Ghosts}
use Rattle.silt_image.specs.Meaning.{image_map, IsGood, StandsFor}
use Rattle.silt_image.specs.Stores.{Stores, stores_named}
use Rattle.silt_log.specs.Rows.{log_rows}
use Rattle.silt_event.specs.Rows.{newest_row}
use Rattle.silt_frame.specs.Rows.{StoredRow, has_known_kind, is_put_row}
use Rattle.silt_log.specs.Parts.{part_rows}
use Rattle.silt_manifest.specs.declared.body.Body.{Body}
use Rattle.silt_merge.specs.Rows.{key_count, merged_rows, newest_rows}
use Rattle.silt_merge.specs.State.{MergeState, steps_of}
use Rattle.silt_engine.specs.Calls.{CannotTake, HoldsPrefix}
use Rattle.silt_standing.specs.Standing.{SameDisk}
use Rattle.silt_engine.specs.Conversion.{AreConverted, IsLowestFreeHash, converted_body, is_work, oldest_rows, progress_due}
use Rattle.silt_engine.specs.Costs.{step_syncs, step_writes}
use Rattle.silt_engine.specs.Merge.{merge_progress, merge_sources, merged_body}
use Rattle.silt_engine.specs.NextLog.{IsLowestFree, next_body}
use Rattle.silt_engine.specs.Laws.{IsGoodWith}
use Rattle.silt_event.specs.declared.event.Event.{Event}
use Rattle.silt_event.specs.declared.event.Event.TheVariants.{Put, Delete, Swap, Flush, Get, Convert, Merge}
use Rattle.silt_event.specs.declared.progress.Progress.{Progress as ProgressOf}
use Rattle.silt_event.specs.declared.progress.Progress.TheVariants.{Idle, Waiting, Moved, Finished}
use Rattle.silt_conversion.specs.Conversion.{ConversionState}
use Rattle.silt_hash_store.specs.Slots.{hash_rows}
use Rattle.silt_event.specs.declared.place.Place.{Place}
use Rattle.silt_event.specs.declared.place.Place.TheVariants.{HashDigest, SortedDigest}
use Rattle.silt_event.specs.declared.refusal.Refusal.{Refusal}
use Rattle.silt_event.specs.declared.refusal.Refusal.TheVariants.{Damaged, Device, NoMemory, StoreFull, NoRoom, Failed, Spent}
use Rattle.silt_event.specs.declared.reply.Reply.{Reply}
use Rattle.silt_event.specs.declared.reply.Reply.TheVariants.{Accepted, Acknowledged, Found, Absent, Differs, Progress, Refused}
use Rattle.silt_event.specs.Events.{Step, Counts, accepted_command, accepted_commands, acknowledged_after, is_fault, is_failed, plain, PlainReply}

-- a conversion in progress: the hash region that it writes, and how many of the region's slots are written
pub record ConvertWork : Type 0 where
  pub region : ℕ
  pub written : ℕ

-- a merge in progress: how many of the oldest hash stores it takes, how many steps it took, how many entries it wrote, and the store that
-- it has found damaged, if there is one
pub record MergeWork : Type 0 where
  pub stores : ℕ
  pub steps : ℕ
  pub written : ℕ
  pub damaged : Option Place

-- the contracts' view of a conversion in memory
abbrev pub convert_work : Option ConversionState → Option ConvertWork
convert_work None = None
convert_work (Some conversion) = Some (record { region = conversion.region; written = conversion.next })

-- the contracts' view of a merge in memory
abbrev pub merge_work : Option MergeState → Option MergeWork
merge_work None = None
merge_work (Some merge) = Some (record { stores = merge.stores; steps = steps_of merge; written = merge.written; damaged = merge.damaged })

pub record CoreState (D : Type 0) : Type 0 where
  pub disk : D
  pub shape : Shape
  -- the manifest record: which regions make up the store
  pub body : Body
  -- the device's bytes, with the commit bytes of the waiting rows set
  pub full : List ℕ
  -- the map of the device's bytes, and the commands of the waiting rows; if the store is failed, both are as its failing call began
  pub base : Map
  pub waiting : List Command
  -- the conversion and the merge in progress
  pub converting : Option ConvertWork
  pub merging : Option MergeWork
  -- how many put rows there are
  pub charge : ℕ
  -- how many commands this life has accepted
  pub count : ℕ
  pub failed : Bool

-- the map that gets read: the map of the full image
abbrev pub map_of : {D : Type 0} → CoreState D → Map
map_of core = image_map core.full

-- the greatest number of commands that one life may accept
abbrev pub most_commands : ℕ
most_commands = 2 ^ 63 - 1

-- the last generation of a manifest
abbrev pub last_generation : ℕ
last_generation = 2 ^ 63 - 1

-- the rows of the active log, those that wait included
abbrev pub active_rows : {D : Type 0} → CoreState D → List StoredRow
active_rows core = log_rows core.shape core.body.active core.full

-- ---- why the store gives a reply

-- the next command still has a number
pub record MayCount {D : Type 0} (core : CoreState D) : Type 0 where
  pub working : core.failed ≡ false
  pub count : core.count < most_commands

-- and a put still has room under the greatest charge
pub record MayPut {D : Type 0} (core : CoreState D) : Type 0 where
  pub may_count : MayCount core
  pub charge : core.charge < core.shape.sorted_capacity

-- what a row of this kind needs: a put also room under the greatest charge
abbrev pub MayWrite : {D : Type 0} → Kind → CoreState D → Type 0
MayWrite kind.Put core = MayPut core
MayWrite kind.Delete core = MayCount core

-- the event that writes a row of this kind
abbrev pub row_event : Kind → Key → List ℕ → Event
row_event kind.Put key value = Put key value
row_event kind.Delete key value = Delete key

-- every log region is in use
abbrev pub AreAllInUse : {D : Type 0} → CoreState D → Type 0
AreAllInUse core = length core.body.frozen + 1 ≡ core.shape.logs

-- a log region is free
abbrev pub HasFreeLog : {D : Type 0} → CoreState D → Type 0
HasFreeLog core = ¬ AreAllInUse core

-- how many slots a conversion has written
abbrev pub written_of : Option ConvertWork → Option ℕ
written_of None = None
written_of (Some work) = Some work.written

-- the progress of the next step of conversion
abbrev pub convert_due : {D : Type 0} → CoreState D → ProgressOf
convert_due core = progress_due (length core.body.frozen) (length core.body.hashed) core.shape.hashes (4 * core.shape.buckets) (written_of core.converting)

-- the store is not failed, and there is a step of conversion to be done
abbrev pub wants_convert : {D : Type 0} → CoreState D → Bool
wants_convert core = not core.failed && is_work (convert_due core)

-- one more slot is written than before, or the first slot of the lowest free region
abbrev pub ConvertGoesOn : ℕ → Body → Option ConvertWork → Option ConvertWork → Type 0
ConvertGoesOn hashes body (Some before) (Some after) = (after.region ≡ before.region) × (after.written ≡ before.written + 1)
ConvertGoesOn hashes body None (Some after) = IsLowestFreeHash hashes body after.region × (after.written ≡ 1)
ConvertGoesOn hashes body before None = ⊥

-- the stores of the full image: the device's bytes with the commit bytes of the waiting rows set
abbrev pub stores_of : {D : Type 0} → CoreState D → Stores
stores_of core = stores_named core.shape core.body core.full

-- the rows that a merge takes: the entries, and those of its hash stores
abbrev pub taken_by : {D : Type 0} → CoreState D → MergeWork → List StoredRow
taken_by core work = merge_sources work.stores (stores_of core)

-- a merge has decided all keys: it took a step for each slot of its hash stores, and one for each key of the rows that it takes
abbrev pub has_decided : {D : Type 0} → CoreState D → MergeWork → Bool
has_decided core work = work.steps == work.stores * (4 * core.shape.buckets) + key_count (taken_by core work)

-- a merge took at most one step for each slot of its hash stores and one for each key, so that its last step is still to come
abbrev pub IsWithinSteps : {D : Type 0} → CoreState D → MergeWork → Type 0
IsWithinSteps core work = work.steps ≤ work.stores * (4 * core.shape.buckets) + key_count (taken_by core work)

-- the progress of the next step of merging
abbrev pub merge_due : {D : Type 0} → CoreState D → ProgressOf
merge_due core = merge_progress (length core.body.hashed) (option_map (has_decided core) core.merging)

-- the store is not failed, and there is a step of merging to be done
abbrev pub wants_merge : {D : Type 0} → CoreState D → Bool
wants_merge core = not core.failed && is_work (merge_due core)

-- a conversion waits for a hash region
abbrev pub awaits_region : ProgressOf → Bool
awaits_region Waiting = true
awaits_region progress = false

-- There is a step of merging to do, and it goes on with a merge, or it begins one of at least this many hash stores. If a conversion
-- waits for a hash region, it begins one of those that there are.
abbrev pub may_merge : {D : Type 0} → CoreState D → ℕ → Bool
may_merge core least = wants_merge core && (is_some core.merging || (nat_le least (length core.body.hashed) || awaits_region (convert_due core)))

-- Below, `facts` is what the trait of disks states of a type of disks: its content, how many writes and syncs have failed, and which call
-- gave which fault. A clause at `D: Disk` passes `D.Disk`.

-- A conversion is finished: the manifest names the new hash store before the others, and no longer the oldest log. The slots of the hash
-- store have the last row of each key of that log, and no other row.
pub record IsConverted {D F : Type 0} (facts : Ghosts D F) (old new : CoreState D) : Type 0 where
  pub work : ConvertWork
  pub was : old.converting ≡ Some work
  pub none : new.converting ≡ None
  pub body : new.body ≡ converted_body old.body work.region
  pub rows : IsTrue (facts.content old.disk).honest → AreConverted old.shape (oldest_rows old.shape old.body old.full) (hash_rows old.shape work.region new.full)

-- the next step of merging makes this progress: on any disk it is work exactly if a step is due, and on an honest disk it is exact
pub record IsMergeDue {D F : Type 0} (facts : Ghosts D F) (core : CoreState D) (progress : ProgressOf) : Type 0 where
  pub work : is_work progress ≡ is_work (merge_due core)
  pub exact : IsTrue (facts.content core.disk).honest → progress ≡ merge_due core

-- the next step of merging gathers a slot: the merge begins, or not all slots of its hash stores are gathered
abbrev pub GathersNext : Shape → Option MergeWork → Type 0
GathersNext shape None = Unit {0}
GathersNext shape (Some work) = work.steps < work.stores * (4 * shape.buckets)

-- the rows in the slots of the hash stores that a merge takes, in the order in which the merge reads them
abbrev pub slots_taken : {D : Type 0} → CoreState D → MergeWork → List StoredRow
slots_taken core work = flat_map part_rows (drop (length (stores_of core).hashes - work.stores) (stores_of core).hashes)

-- the next slot, after this many gathered ones, has a row of a known kind, and no gathered slot has a row of its key
pub record HasNewKey (slots : List StoredRow) (gathered : ℕ) : Type 0 where
  pub row : StoredRow
  pub next : slice_get slots gathered ≡ Some row
  pub known : has_known_kind row ≡ true
  pub new_key : newest_row (filter has_known_kind (take gathered slots)) row.key ≡ None

-- a merge begins, or the slot that it gathers next has the first row of a key
abbrev pub GathersNewKey : {D : Type 0} → CoreState D → Option MergeWork → Type 0
GathersNewKey core None = Unit {0}
GathersNewKey core (Some work) = HasNewKey (slots_taken core work) work.steps

-- all slots of the hash stores that a merge takes are gathered, the sorted region that it writes has room, and the key that it decides next
-- has a value
pub record DecidesValue {D F : Type 0} (facts : Ghosts D F) (core : CoreState D) (work : MergeWork) : Type 0 where
  pub gathered : work.stores * (4 * core.shape.buckets) ≤ work.steps
  pub room : work.written < core.shape.sorted_capacity
  pub puts : IsTrue (facts.content core.disk).honest
      → IsSomeAnd (slice_get (newest_rows (taken_by core work)) (work.steps - work.stores * (4 * core.shape.buckets))) (λ row. is_put_row row ≡ true)

-- what the next step of merging reads: the hash store whose slot is due, from the newest on, or behind all that it takes the sorted store
abbrev pub place_due : Shape → Body → Option MergeWork → Place
place_due shape body None = HashDigest (get_or body.hashed 0 0)
place_due shape body (Some work) =
    if nat_lt work.steps (work.stores * (4 * shape.buckets))
    then HashDigest (get_or (drop (length body.hashed - work.stores) body.hashed) (work.steps / (4 * shape.buckets)) 0)
    else SortedDigest

-- the store that the merge in progress has found damaged, if there is one
abbrev pub found_damaged : Option MergeWork → Option Place
found_damaged None = None
found_damaged (Some work) = work.damaged

-- a step that reads this store finds nothing, or finds the store damaged
abbrev pub MayFind : Place → Option MergeWork → Type 0
MayFind place work = (found_damaged work ≡ None) ⊎ (found_damaged work ≡ Some place)

-- one more step is taken, or the first one of a merge of all hash stores
abbrev pub MergeGoesOn : Body → Option MergeWork → Option MergeWork → Type 0
MergeGoesOn body (Some before) (Some after) = (after.stores ≡ before.stores) × (after.steps ≡ before.steps + 1)
MergeGoesOn body None (Some after) = (after.stores ≡ length body.hashed) × (after.steps ≡ 1)
MergeGoesOn body before None = ⊥

-- A merge is finished: the manifest no longer names its hash stores, and the other sorted region has the newest row of each key that it
-- took, if that row is a put, in key order.
pub record IsMerged {D F : Type 0} (facts : Ghosts D F) (old new : CoreState D) : Type 0 where
  pub work : MergeWork
  pub was : old.merging ≡ Some work
  pub none : new.merging ≡ None
  pub body : new.body ≡ merged_body old.body work.stores (1 - old.body.sorted) work.written
  pub entries : IsTrue (facts.content old.disk).honest → (stores_of new).entries ≡ merged_rows (taken_by old work)

-- The write or sync that failed gave this fault in this very call, and the store is failed from now on.
pub record FailsBy {D F : Type 0} (facts : Ghosts D F) (old new : CoreState D) (fault : F) : Type 0 where
  pub given : GaveAny facts.gave new.disk fault
  pub counted : facts.failures new.disk ≡ (facts.failures old.disk + 1) % 2 ^ 64
  pub failed : new.failed ≡ true

-- a read failed in this very call and gave this fault, and nothing changes
pub record FailsRead {D F : Type 0} (facts : Ghosts D F) (old new : CoreState D) (fault : F) : Type 0 where
  pub given : GaveAny facts.gave new.disk fault
  pub working : old.failed ≡ false
  pub same : new ≡ old

-- the active log is frozen and comes before the other frozen logs, and the lowest free region becomes the active log
pub record Freezes (logs : ℕ) (old new : Body) : Type 0 where
  pub lowest : IsLowestFree logs old new.active
  pub is : new ≡ next_body old new.active

module _ {D F : Type 0} (facts : Ghosts D F) (old new : CoreState D) where
  -- the active log cannot take a row of this key: it is full, or the placing rule gives up
  abbrev pub IsStuck : List ℕ → Type 0
  IsStuck key = IsTrue (facts.content old.disk).honest → CannotTake old.shape (active_rows old) key

  -- the active log can take a row of this key, and the same regions are the store
  abbrev pub StaysActive : List ℕ → Type 0
  StaysActive key = (new.body ≡ old.body) × (IsTrue (facts.content old.disk).honest → ¬ CannotTake old.shape (active_rows old) key)

  -- Either the active log takes the row, and its command waits behind the others. Or the log cannot take it and is frozen, a new log
  -- takes the row, and its command alone waits.
  abbrev pub Takes : List ℕ → Command → Type 0
  Takes key command =
      (StaysActive key × (IsTrue (facts.content old.disk).honest → WaitsBehind command old.base new.base old.waiting new.waiting))
      ⊎ ((Freezes old.shape.logs old.body new.body × IsStuck key) × (IsTrue (facts.content old.disk).honest → WaitsAlone command old.base new.base old.waiting new.waiting))

  -- a row of this key with this command is written, and no device call fails
  abbrev pub WritesRow : List ℕ → Command → Type 0
  WritesRow key command = Takes key command × (facts.failures new.disk ≡ facts.failures old.disk)

  -- why a row is not written: a device fault, no free log although a conversion would free one, no further generation, or out of memory
  -- for a new log
  abbrev pub NoRowCause : List ℕ → Refusal F → Type 0
  NoRowCause key NoRoom = IsStuck key × AreAllInUse old × (convert_due old ≢ Idle)
  NoRowCause key Spent = IsStuck key × HasFreeLog old × (old.body.generation ≡ last_generation)
  NoRowCause key NoMemory = IsStuck key × HasFreeLog old × (old.body.generation ≢ last_generation)
  NoRowCause key (Device fault) = FailsRead facts old new fault ⊎ FailsBy facts old new fault
  NoRowCause key refusal = ⊥

  -- a put: counted, and under the greatest charge
  abbrev pub PutCause : List ℕ → List ℕ → Reply F → Type 0
  PutCause key value (Accepted n) = MayPut old × WritesRow key (put key value)
  PutCause key value (Refused Failed) = old.failed ≡ true
  PutCause key value (Refused StoreFull) = MayCount old × (old.charge ≡ old.shape.sorted_capacity)
  PutCause key value (Refused Spent) = (old.failed ≡ false) × ((old.count ≡ most_commands) ⊎ (MayPut old × NoRowCause key Spent))
  PutCause key value (Refused refusal) = MayPut old × NoRowCause key refusal
  PutCause key value reply = ⊥

  -- a delete: as a put, whatever the charge
  abbrev pub DeleteCause : List ℕ → Reply F → Type 0
  DeleteCause key (Accepted n) = MayCount old × WritesRow key (delete key)
  DeleteCause key (Refused Failed) = old.failed ≡ true
  DeleteCause key (Refused Spent) = (old.failed ≡ false) × ((old.count ≡ most_commands) ⊎ (MayCount old × NoRowCause key Spent))
  DeleteCause key (Refused refusal) = MayCount old × NoRowCause key refusal
  DeleteCause key reply = ⊥

  -- a put of this value, or a delete if there is none
  abbrev pub SettingCause : List ℕ → Option (List ℕ) → Reply F → Type 0
  SettingCause key (Some value) = PutCause key value
  SettingCause key None = DeleteCause key

  -- on an honest disk, the key has this value before the call, or none
  abbrev pub HasOldValue : List ℕ → Option (List ℕ) → Type 0
  HasOldValue key value = IsTrue (facts.content old.disk).honest → get (map_of old) key ≡ value

  -- A swap: as a put or a delete, but only if the key has the expected value. A read may fail before that is known.
  abbrev pub SwapCause : List ℕ → Option (List ℕ) → Option (List ℕ) → Reply F → Type 0
  SwapCause key expected value Differs = (old.failed ≡ false) × (new ≡ old)
  SwapCause key expected value (Refused Failed) = old.failed ≡ true
  SwapCause key expected value (Refused (Device fault)) =
      FailsRead facts old new fault ⊎ (HasOldValue key expected × SettingCause key value (Refused (Device fault)))
  SwapCause key expected value reply = HasOldValue key expected × SettingCause key value reply

  -- if no command waits, a flush changes nothing
  abbrev pub FlushCause : Reply F → Type 0
  FlushCause (Acknowledged n) = (old.failed ≡ false) × (facts.failures new.disk ≡ facts.failures old.disk) × (old.waiting ≡ [] → new ≡ old)
  FlushCause (Refused Failed) = old.failed ≡ true
  FlushCause (Refused (Device fault)) = FailsBy facts old new fault
  FlushCause reply = ⊥

  -- if the disk is honest (it obeys the crash model), this key has a value
  abbrev pub HasKey : List ℕ → Type 0
  HasKey key = IsTrue (facts.content old.disk).honest → (value : List ℕ) × (get (map_of old) key ≡ Some value)

  -- a get changes nothing, and needs memory only if it finds a value
  abbrev pub GetCause : List ℕ → Reply F → Type 0
  GetCause key (Found value) = (old.failed ≡ false) × (new ≡ old)
  GetCause key Absent = (old.failed ≡ false) × (new ≡ old)
  GetCause key (Refused Failed) = old.failed ≡ true
  GetCause key (Refused (Device fault)) = FailsRead facts old new fault
  GetCause key (Refused NoMemory) = (old.failed ≡ false) × HasKey key
  GetCause key reply = ⊥

  -- what a successful step of conversion does
  abbrev pub ConvertsTo : ProgressOf → Type 0
  ConvertsTo Idle = new ≡ old
  ConvertsTo Waiting = new ≡ old
  ConvertsTo Moved = (new.body ≡ old.body) × ConvertGoesOn old.shape.hashes old.body old.converting new.converting
  ConvertsTo Finished = IsConverted facts old new

  -- a step of conversion does the next thing that is due; only a first step needs memory, and only the last one writes the manifest
  abbrev pub ConvertCause : Reply F → Type 0
  ConvertCause (Progress progress) = (old.failed ≡ false) × (progress ≡ convert_due old) × ConvertsTo progress × (facts.failures new.disk ≡ facts.failures old.disk)
  ConvertCause (Refused Failed) = old.failed ≡ true
  ConvertCause (Refused Spent) = (old.failed ≡ false) × (convert_due old ≡ Finished) × (old.body.generation ≡ last_generation)
  ConvertCause (Refused NoMemory) = (old.failed ≡ false) × (convert_due old ≡ Moved) × (old.converting ≡ None)
  ConvertCause (Refused (Device fault)) =
      ((convert_due old ≡ Moved) × FailsRead facts old new fault) ⊎ ((is_work (convert_due old) ≡ true) × FailsBy facts old new fault)
  ConvertCause reply = ⊥

  -- what a successful step of merging does: it never waits
  abbrev pub AnswersMerge : ProgressOf → Type 0
  AnswersMerge Idle = new ≡ old
  AnswersMerge Waiting = ⊥
  AnswersMerge Moved = (new.body ≡ old.body) × MergeGoesOn old.body old.merging new.merging × MayFind (place_due old.shape old.body old.merging) new.merging
  AnswersMerge Finished = IsMerged facts old new

  -- why merging is out of memory: the merge begins, it gathers the first row of a key, it decides a key that has a value, or it makes what
  -- the new sorted store keeps
  abbrev pub MergeLacksMemory : Type 0
  MergeLacksMemory =
      (IsMergeDue facts old Moved × GathersNext old.shape old.merging × (IsTrue (facts.content old.disk).honest → GathersNewKey old old.merging))
      ⊎ (IsMergeDue facts old Moved × IsSomeAnd old.merging (DecidesValue facts old))
      ⊎ (IsMergeDue facts old Finished × (old.body.generation ≢ last_generation))

  -- a step of merging does the next thing that is due, and only the last one writes the manifest. A merge that has found a store damaged is
  -- refused at each step, with that store, and no other merge is. On an honest disk none is.
  abbrev pub MergeCause : Reply F → Type 0
  MergeCause (Progress progress) = (old.failed ≡ false) × IsMergeDue facts old progress × AnswersMerge progress
      × (facts.failures new.disk ≡ facts.failures old.disk) × (found_damaged old.merging ≡ None)
  MergeCause (Refused Failed) = old.failed ≡ true
  MergeCause (Refused Spent) = (old.failed ≡ false) × IsMergeDue facts old Finished × (old.body.generation ≡ last_generation) × (found_damaged old.merging ≡ None)
  MergeCause (Refused NoMemory) = (old.failed ≡ false) × MergeLacksMemory × (found_damaged old.merging ≡ None)
  MergeCause (Refused (Damaged place)) =
      (old.failed ≡ false) × (is_work (merge_due old) ≡ true) × (found_damaged old.merging ≡ Some place) × (IsTrue (facts.content old.disk).honest → ⊥)
  MergeCause (Refused (Device fault)) =
      ((IsMergeDue facts old Moved × FailsRead facts old new fault) ⊎ ((is_work (merge_due old) ≡ true) × FailsBy facts old new fault)) × (found_damaged old.merging ≡ None)
  MergeCause reply = ⊥

  -- what is true if the event has this reply
  abbrev pub Cause : Event → Reply F → Type 0
  Cause (Put key value) = PutCause key.0 value
  Cause (Delete key) = DeleteCause key.0
  Cause (Swap key expected value) = SwapCause key.0 expected value
  Cause Flush = FlushCause
  Cause (Get key) = GetCause key.0
  Cause Convert = ConvertCause
  Cause Merge = MergeCause

-- ---- how many writes and syncs an event makes

-- 1 if a command waits, and 0 if none does
abbrev pub some_wait : List Command → ℕ
some_wait [] = 0
some_wait (command ∷ commands) = 1

-- how many entries a merge has written
abbrev pub entries_written : Option MergeWork → ℕ
entries_written None = 0
entries_written (Some work) = work.written

-- The most writes of an event. A row is two. If a log is frozen for it, there are also a flush if a command waits, the commit bytes of the
-- new log, and three of the manifest. A step of conversion or merging that finishes writes the manifest.
abbrev pub most_writes : {D : Type 0} → CoreState D → Event → ℕ
most_writes core Flush = some_wait core.waiting
most_writes core (Get key) = 0
most_writes core Convert = step_writes (convert_due core)
most_writes core Merge = 3
most_writes core event = some_wait core.waiting + 6

-- The most syncs of an event: two of a flush, one of the new log's commit bytes, three of the manifest, and one of what the steps wrote.
abbrev pub most_syncs : {D : Type 0} → CoreState D → Event → ℕ
most_syncs core Flush = 2 * some_wait core.waiting
most_syncs core (Get key) = 0
most_syncs core Convert = step_syncs (convert_due core)
most_syncs core Merge = 4
most_syncs core event = 2 * some_wait core.waiting + 4

module _ {D F : Type 0} (facts : Ghosts D F) (old new : CoreState D) where
  -- the device was asked for so many writes and syncs
  abbrev pub HasMade : ℕ → ℕ → Type 0
  HasMade writes syncs = Makes facts.writes facts.syncs writes syncs old.disk new.disk

  -- two writes, or, if the active log was frozen, as many as that makes
  abbrev pub MakesRow : Type 0
  MakesRow = (new.body ≡ old.body → HasMade 2 0)
      × (new.body ≢ old.body → HasMade (some_wait old.waiting + 6) (2 * some_wait old.waiting + 4))

  -- a step: of a merge that goes on, one write if it writes an entry; of a conversion that goes on, one
  abbrev pub MakesStep : Event → ProgressOf → Type 0
  MakesStep Merge Moved =
      (count : ℕ) × (count ≤ 1) × (entries_written new.merging ≡ entries_written old.merging + count) × HasMade count 0
  MakesStep event progress = HasMade (step_writes progress) (step_syncs progress)

  -- what an event with this reply has made: after a refusal no more than the event can make, and else exactly as much as it must
  abbrev pub MadeFor : Event → Reply F → Type 0
  MadeFor event (Accepted n) = MakesRow
  MadeFor event (Acknowledged n) = HasMade (some_wait old.waiting) (2 * some_wait old.waiting)
  MadeFor event (Progress progress) = MakesStep event progress
  MadeFor event (Refused refusal) = MakesAtMost facts.writes facts.syncs (most_writes old event) (most_syncs old event) old.disk new.disk
  MadeFor event reply = HasMade 0 0

-- ---- what a call leaves

-- A beginning of what waited, and the event's own command, went into the base.
pub record Moves {D : Type 0} (old new : CoreState D) (adds : List Command) : Type 0 where
  pub moved : List Command
  pub rest : moved ++ new.waiting ≡ old.waiting ++ adds
  pub base : new.base ≡ map_after old.base moved

-- what an acknowledging reply promises: no command waits, so the base is the map
abbrev pub Durable : {D F : Type 0} → CoreState D → Reply F → Type 0
Durable new (Acknowledged n) = new.waiting ≡ []
Durable new reply = Unit {0}

-- the reply is a refusal
abbrev pub is_refused : {F : Type 0} → Reply F → Bool
is_refused (Refused refusal) = true
is_refused reply = false

-- the reply finishes a conversion or a merge
abbrev pub is_finished : {F : Type 0} → Reply F → Bool
is_finished (Progress Finished) = true
is_finished reply = false

-- the event is a step of conversion
abbrev pub is_convert : Event → Bool
is_convert Convert = true
is_convert event = false

-- the event is a step of merging
abbrev pub is_merge : Event → Bool
is_merge Merge = true
is_merge event = false

-- What one call does, whatever it returns: its reply, the store after it, and the possible crash images.
pub record Does {D F : Type 0} (facts : Ghosts D F) (old new : CoreState D) (event : Event) (reply : Reply F) : Type 0 where
  -- ---- the reply

  -- the reply has its cause, and the store is as that cause says
  pub cause : Cause facts old new event reply
  -- an accepted command is counted, and the reply returns the count
  pub counts : Counts old.count reply new.count
  -- a plain map gives the same reply
  pub step : old.failed ≡ false → IsTrue (facts.content old.disk).honest → Step (map_of old) event reply (map_of new)
  -- a failed store replies Failed and changes nothing
  pub failed : old.failed ≡ true → (new ≡ old) × (reply ≡ Refused Failed)
  -- only a failed store replies Failed
  pub failed_only : IsTrue (is_failed reply) → old.failed ≡ true
  -- a store fails only if it replies with a fault of its device
  pub faulted : old.failed ≡ false → new.failed ≡ true → IsTrue (is_fault reply)
  -- the device is asked for as many writes and syncs as the event costs, and if it is refused, for no more
  pub made : MadeFor facts old new event reply
  -- ---- the store after the call

  -- the disk keeps its length and whether it is honest, and the store keeps its shape
  pub disk : SameDisk (facts.content old.disk) (facts.content new.disk)
  pub shape : new.shape ≡ old.shape
  -- if the call does not make the store fail, no write or sync fails; if it does, exactly one fails
  pub quiet : new.failed ≡ old.failed → facts.failures new.disk ≡ facts.failures old.disk
  pub counted : old.failed ≡ false → new.failed ≡ true → facts.failures new.disk ≡ (facts.failures old.disk + 1) % 2 ^ 64
  -- a refusal that does not make the store fail changes nothing
  pub stays : IsTrue (is_refused reply) → new.failed ≡ old.failed → new ≡ old
  -- a call that accepts nothing and finishes nothing leaves the manifest record as it is
  pub keeps_body : new.failed ≡ false → accepted_command event reply ≡ [] → is_finished reply ≡ false → new.body ≡ old.body
  -- only steps of conversion change the conversion in progress, and only steps of merging the merge in progress
  pub keeps_converting : new.failed ≡ false → is_convert event ≡ false → new.converting ≡ old.converting
  pub keeps_merging : new.failed ≡ false → is_merge event ≡ false → new.merging ≡ old.merging
  -- the map is the base after the waiting commands
  pub has_map : new.failed ≡ false → IsTrue (facts.content old.disk).honest → map_of new ≡ map_after new.base new.waiting
  -- the numbers by which the store refuses are those of the full image
  pub numbers : new.failed ≡ false → IsTrue (facts.content old.disk).honest → IsGoodWith new.shape new.body new.charge new.full
  -- ---- the possible crash images

  -- some first part of the waiting commands and the accepted one goes into the base, and the rest waits
  pub moves : new.failed ≡ false → IsTrue (facts.content old.disk).honest → Moves old new (accepted_command event reply)
  -- after an acknowledging reply no command waits
  pub settles : IsTrue (facts.content old.disk).honest → Durable new reply
  -- each possible crash image represents the base, or, if the call failed, the old base after a first part of the waiting commands
  pub safe : new.failed ≡ false → LeavesOnly (facts.content new.disk) (StandsFor new.shape new.base)
  pub crash : old.failed ≡ false → new.failed ≡ true → LeavesOnly (facts.content new.disk) (HoldsPrefix old.shape old.base old.waiting)
  -- a store that fails keeps its base and its waiting commands
  pub keeps_basis : old.failed ≡ false → new.failed ≡ true → (new.base ≡ old.base) × (new.waiting ≡ old.waiting)

-- a store that is not failed cannot read a value: a read failed and gave this fault, and nothing changes
abbrev pub IsRefusedRead : {D F : Type 0} → Ghosts D F → CoreState D → Refusal F → Type 0
IsRefusedRead facts core (Device fault) = FailsRead facts core core fault
IsRefusedRead facts core refusal = ⊥

-- why the entries are refused
abbrev pub EntriesCause : {D F : Type 0} → Ghosts D F → CoreState D → Refusal F → Type 0
EntriesCause facts core Failed = core.failed ≡ true
EntriesCause facts core (Device fault) = (core.failed ≡ false) × GaveAny facts.gave core.disk fault
EntriesCause facts core NoMemory = core.failed ≡ false
EntriesCause facts core refusal = ⊥

-- ---- runs

-- one call after the other, each with its event and its reply
abbrev pub Runs : {D F : Type 0} → Ghosts D F → CoreState D → List Event → List (Reply F) → CoreState D → Type 0
Runs facts old [] [] new = new ≡ old
Runs {D} facts old (event ∷ events) (reply ∷ replies) new =
    (next : CoreState D) × Does facts old next event reply × Runs facts next events replies new
Runs facts old events replies new = ⊥

-- What a crash may keep of a run: a first part of the waiting and then accepted commands, with each acknowledged one. Before the run, all
-- counted commands but the waiting ones were settled.
pub record KeepsFrom {F : Type 0} (waiting : List Command) (count : ℕ) (events : List Event) (replies : List (Reply F)) (kept : List Command) : Type 0 where
  pub begins : Begins kept (waiting ++ accepted_commands events replies)
  pub acknowledged : (settled : ℕ) → settled + length waiting ≡ count → acknowledged_after settled replies ≤ settled + length kept

-- the image represents the base after commands that a crash may keep of the run
abbrev pub StandsKept : {D F : Type 0} → CoreState D → List Event → List (Reply F) → List ℕ → Type 0
StandsKept old events replies image = (kept : List Command) × KeepsFrom old.waiting old.count events replies kept × StandsFor old.shape (map_after old.base kept) image

-- ---- opening

-- a store that was opened on a device: it has the device's map, no command waits, and no conversion or merge is in progress
pub record Opens {D F : Type 0} (facts : Ghosts D F) (old : Content) (core : CoreState D) : Type 0 where
  pub disk : SameDisk old (facts.content core.disk)
  pub count : core.count ≡ 0
  pub working : core.failed ≡ false
  pub good : IsTrue old.honest → IsGood old.shown
  pub has_shape : IsTrue old.honest → core.shape ≡ shape_of old.shown
  pub waiting : IsTrue old.honest → core.waiting ≡ []
  pub converting : core.converting ≡ None
  pub merging : core.merging ≡ None
  pub base : IsTrue old.honest → core.base ≡ image_map old.shown
  pub has_map : IsTrue old.honest → map_of core ≡ image_map old.shown
  pub numbers : IsTrue old.honest → IsGoodWith core.shape core.body core.charge core.full
  pub safe : LeavesOnly (facts.content core.disk) (StandsFor core.shape core.base)

-- ---- a store as an answerer

module _ {D F : Type 0} (facts : Ghosts D F) where
  -- the store does the event, and this is its reply without the device's fault
  abbrev pub DoesPlain : CoreState D → CoreState D → Event → PlainReply → Type 0
  DoesPlain old new event reply = (told : Reply F) × Does facts old new event told × (reply ≡ plain told)
