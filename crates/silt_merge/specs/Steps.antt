-- What a step of a merge does.
use Rattle.std.specs.Prelude.{◌≡◌, ℕ, ◌+◌, ◌-◌, ◌≤◌, ◌<◌, ◌⊎◌, nat_lt, true, if◌then◌else◌, IsTrue, List, [], get_or, slice_get, None, Some, Option, Result, IfErr, IsSomeAnd, OnErr, OnOk, Err}
use Rattle.silt_disk.specs.Disk.{ChangesWithin, Content, CountsFault, GaveAny, Makes, MakesAtMost, size}
use Rattle.silt_disk.specs.Layout.{entry_len, sorted_at, sorted_size}
use Rattle.silt_disk.specs.declared.disk.Disk.{Ghosts}
use Rattle.silt_event.specs.declared.place.Place.{Place}
use Rattle.silt_event.specs.declared.place.Place.TheVariants.{HashDigest, SortedDigest}
use Rattle.silt_frame.specs.Rows.{has_known_kind, is_put_row, row_of}
use Rattle.silt_frame.specs.declared.key.Row.{Row}
use Rattle.silt_hash_store.specs.Lookup.{IsRowAt}
use Rattle.silt_hash_store.specs.Slots.{slot_row}
use Rattle.silt_hash_store.specs.State.{HashState}
use Rattle.silt_sorted_store.specs.State.{SortedState, sorted_entry_at}
use Rattle.silt_merge.specs.Choice.{Gathers}
use Rattle.silt_merge.specs.Comparing.{HasCompared, MatchesDigests}
use Rattle.silt_merge.specs.Merging.{AreSound, HasMerged, IsSameMerge}
use Rattle.silt_merge.specs.Rows.{newest_rows, regions_of, sources}
use Rattle.silt_merge.specs.State.{IsHeldMerge, LastRises, MergeState, ends_store, input_after, source_at, steps_of}
use Rattle.silt_merge.specs.declared.merge.StepError.{StepError}
use Rattle.silt_merge.specs.declared.merge.StepError.TheVariants.{Read, Write, NoMemory, Damaged}
use Rattle.silt_hasher.specs.Taking.{HasTaken}

-- the next slot to gather shows a row of a known kind, and no row of its key waits
pub record GathersRow (content : Content) (stores : List HashState) (merge : MergeState) : Type 0 where
  pub gathers : merge.store < merge.stores
  pub known : IsTrue content.honest → has_known_kind (slot_row merge.shape (get_or (regions_of stores) merge.store 0) content.shown merge.slot) ≡ true
  pub new_key : IsTrue content.honest → source_at merge.waiting (slot_row merge.shape (get_or (regions_of stores) merge.store 0) content.shown merge.slot).key ≡ None

-- all slots are gathered, the region has room, and the next key to decide has a value
pub record TakesKey (content : Content) (stores : List HashState) (sorted : SortedState) (merge : MergeState) : Type 0 where
  pub gathered : merge.store ≡ merge.stores
  pub room : merge.written < merge.shape.sorted_capacity
  pub puts : IsTrue content.honest → HasMerged content stores sorted merge → AreSound content.shown stores sorted
      → IsSomeAnd (slice_get (newest_rows (sources content.shown stores sorted)) merge.decided) (λ row. is_put_row row ≡ true)

-- the next step allocates memory: for a row that will wait, or for a key of the index
abbrev pub TakesMemory : Content → List HashState → SortedState → MergeState → Type 0
TakesMemory content stores sorted merge = GathersRow content stores merge ⊎ TakesKey content stores sorted merge

-- what is damaged, if what was read has another digest: the hash store in progress, or the old entries once all slots are gathered
abbrev pub damaged_place : List HashState → MergeState → Place
damaged_place stores merge = if nat_lt merge.store merge.stores then HashDigest (get_or (regions_of stores) merge.store 0) else SortedDigest

-- Why a step failed. After a write that failed the merge may have changed. After each other error nothing has. Only a merge that has
-- found a store damaged is refused for that.
abbrev pub FailsMerge : {D F : Type 0} → Ghosts D F → List HashState → SortedState → D → D → MergeState → MergeState → StepError F → Type 0
FailsMerge facts stores sorted old new before after (Read fault) = (after ≡ before) × (new ≡ old) × GaveAny facts.gave old fault
FailsMerge facts stores sorted old new before after (Write fault) = CountsFault facts.failures facts.gave old new fault
FailsMerge facts stores sorted old new before after NoMemory = (after ≡ before) × (new ≡ old)
    × (HasMerged (facts.content old) stores sorted before → (IsTrue (facts.content old).honest → AreSound (facts.content old).shown stores sorted)
    → TakesMemory (facts.content old) stores sorted before)
FailsMerge facts stores sorted old new before after (Damaged place) = (after ≡ before) × (new ≡ old) × (before.damaged ≡ Some place)

-- A step finds nothing, or that what it reads is damaged. That cannot come if the disk obeys the crash model and the stores have their
-- digests.
abbrev pub Finds : Content → List HashState → SortedState → List ℕ → MergeState → MergeState → Type 0
Finds content stores sorted digest before after =
    (after.damaged ≡ None) ⊎ ((after.damaged ≡ Some (damaged_place stores before)) × (MatchesDigests content stores sorted digest before → ⊥))

-- what a step does that succeeds
pub record GoesOn {D F : Type 0} (facts : Ghosts D F) (stores : List HashState) (sorted : SortedState) (digest : List ℕ) (old new : D) (before after : MergeState) : Type 0 where
  -- one more slot is gathered, or one more key is decided
  pub steps : steps_of after ≡ steps_of before + 1
  -- it made one write for an entry that it wrote, and no sync
  pub made : Makes facts.writes facts.syncs (after.written - before.written) 0 old new
  -- no write and no sync has failed
  pub failures : facts.failures new ≡ facts.failures old
  -- all so far is gathered and written
  pub merged : HasMerged (facts.content old) stores sorted before → HasMerged (facts.content new) stores sorted after
  -- and compared
  pub compared : HasCompared stores sorted digest before → HasCompared stores sorted digest after
  -- a store that does not fit its digest is found damaged
  pub finds : Finds (facts.content old) stores sorted digest before after

-- What a step does, with these hash stores and this sorted store of this digest: what holds of every result, what holds after Ok,
-- and what holds after an error.
pub record TakesStep {D F T : Type 0} (facts : Ghosts D F) (stores : List HashState) (sorted : SortedState) (digest : List ℕ) (old new : D)
    (before after : MergeState) (result : Result T (StepError F)) : Type 0 where
  -- a merge that has found a store damaged goes no further
  pub stuck : (place : Place) → before.damaged ≡ Some place → result ≡ Err (Damaged place)
  -- the disk keeps its length
  pub size : size (facts.content new) ≡ size (facts.content old)
  -- only the place of the next entry changes
  pub changes : ChangesWithin (sorted_entry_at before.shape before.region before.written) (entry_len before.shape) (facts.content old) (facts.content new)
  -- and it lies in the region of the merge
  pub region : ChangesWithin (sorted_at before.shape before.region) (sorted_size before.shape) (facts.content old) (facts.content new)
  pub same : IsSameMerge before after
  pub held : IsHeldMerge after
  pub rises : LastRises before after
  -- while it gathers it writes nothing
  pub gathers : before.store < before.stores → after.written ≡ before.written
  -- it writes at most one entry
  pub grew : (before.written ≤ after.written) × (after.written ≤ before.written + 1)
  -- what else it does if it succeeds
  pub goes : OnOk result (GoesOn facts stores sorted digest old new before after)
  -- if it fails, it made at most one write
  pub most : OnErr result (MakesAtMost facts.writes facts.syncs 1 0 old new)
  -- and this is why
  pub fails : IfErr result (FailsMerge facts stores sorted old new before after)

-- ---- between the calls

-- a slot was taken of what is ahead: its row waits, if no newer row of its key does, and its bytes are hashed
pub record GathersSlot (before after : MergeState) : Type 0 where
  pub row : Option Row
  pub shown : IsRowAt (row_of (get_or before.slots 0 [])) before.slot row
  pub keeps : Gathers before.store before.slot row before.waiting after.waiting
  pub hashed : (bytes : List ℕ) → HasTaken before.input bytes → HasTaken after.input (input_after (ends_store before) bytes (get_or before.slots 0 []))
