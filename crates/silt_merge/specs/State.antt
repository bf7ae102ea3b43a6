-- A merge in memory.
use Rattle.std.specs.Prelude.{◌≡◌, ℕ, ◌+◌, ◌*◌, ◌-◌, ◌==◌, ◌≤◌, ◌<◌, ◌⊎◌, nat_le, Bool, true, false, not, ◌&&◌, if◌then◌else◌, List, [], ◌∷◌, ◌++◌, drop, length, min, sum_by, Option, Some, None}
use Rattle.std.specs.Map.{lookup}
use Rattle.std.specs.Ordering.{is_eq, nat_cmp}
use Rattle.std.specs.Cmp.Lexicographic.{slice_cmp}
use Rattle.silt_disk.specs.Layout.{Shape}
use Rattle.silt_event.specs.declared.place.Place.{Place}
use Rattle.silt_frame.specs.declared.key.Key.{Key}
use Rattle.silt_hash_store.specs.State.{HashState}
use Rattle.silt_merge.specs.declared.source.Source.{Source}
use Rattle.silt_sorted_store.specs.State.{SortedState}
use Rattle.silt_trie.specs.Building.{BuilderState, is_above}
use Rattle.sha1.specs.declared.Sha1.{Sha1}
use Rattle.silt_hasher.specs.Taking.{Taken}

-- A merge: the sorted region that it writes, the number of hash stores, the store and the slot to gather next, the rows that wait
-- for their keys to be decided, the number of skipped entries of the sorted store, the number of written entries and the index of
-- their keys as far as it is built, the number of decided keys and the last of them, and the bytes of the next slots and entries as
-- far as they are read. Then the hasher of what is taken, of the slots of the store in progress or of the entries, the hasher of the
-- written entries, and the store that was found damaged, if one was. An entry that is skipped because its key is not greater than the
-- last one counts as a decided key.
pub record MergeState : Type 0 where
  pub shape : Shape
  pub region : ℕ
  pub stores : ℕ
  pub store : ℕ
  pub slot : ℕ
  pub waiting : List (Key × Source)
  pub passed : ℕ
  pub written : ℕ
  pub index : BuilderState
  pub decided : ℕ
  pub last : Option Key
  pub slots : List (List ℕ)
  pub ahead : List (List ℕ)
  pub input : Taken
  pub hasher : Sha1
  pub damaged : Option Place

-- the sorted store that a merge writes
abbrev pub sorted_in : MergeState → SortedState
sorted_in merge = record { shape = merge.shape; region = merge.region; count = merge.written }

-- the next entry's key is at most the last decided key
abbrev pub is_behind : Option Key → Option Key → Bool
is_behind last None = false
is_behind last (Some next) = not (is_above last next.0)

-- the last decided key rises, or it stays and nothing is written
abbrev pub LastRises : MergeState → MergeState → Type 0
LastRises old new = ((new.last ≡ old.last) × (new.written ≡ old.written)) ⊎ ((key : Key) × (new.last ≡ Some key) × (is_above old.last key.0 ≡ true))

-- the last of hash stores that are listed from the newest: the oldest ones, which the merge took, whatever came since
abbrev pub oldest_stores : ℕ → List HashState → List HashState
oldest_stores count stores = drop (length stores - count) stores

-- the waiting row of a key, if there is one
abbrev pub source_at : List (Key × Source) → List ℕ → Option Source
source_at waiting key = lookup (λ other. is_eq (slice_cmp nat_cmp key other.0)) waiting

-- the store and the slot after these, if each store has this many slots
abbrev pub slot_after : ℕ → ℕ → ℕ → ℕ × ℕ
slot_after store slot slots = if slot + 1 == slots then (store + 1, 0) else (store, slot + 1)

-- the number of skipped entries after a key, which the next entry has or not
abbrev pub passed_after : Bool → ℕ → ℕ
passed_after true passed = passed + 1
passed_after false passed = passed

-- what is ahead without what was just read: nothing after a read, and else the same
abbrev pub ahead_without : Bool → List (List ℕ) → List (List ℕ)
ahead_without true ahead = []
ahead_without false ahead = ahead

-- the number of written entries after a key, whose entry is written or not
abbrev pub written_after : Bool → ℕ → ℕ
written_after true written = written + 1
written_after false written = written

-- the keys of the written entries after this key, whose entry is written or not
abbrev pub keys_after : Bool → List (List ℕ) → List ℕ → List (List ℕ)
keys_after true keys key = keys ++ key ∷ []
keys_after false keys key = keys

-- the hashed bytes after these, which are hashed or not
abbrev pub hashed_after : Bool → List ℕ → List ℕ → List ℕ
hashed_after true hashed bytes = hashed ++ bytes
hashed_after false hashed bytes = hashed

-- the hashed bytes after a slot: none behind the last slot of a store
abbrev pub input_after : Bool → List ℕ → List ℕ → List ℕ
input_after true hashed slot = []
input_after false hashed slot = hashed ++ slot

-- the next slot is the last one of its store
abbrev pub ends_store : MergeState → Bool
ends_store merge = merge.slot + 1 == 4 * merge.shape.buckets

-- what is found of a store at this place: nothing if it fits its digest, or that it is damaged
abbrev pub finding : Bool → Place → Option Place
finding true place = None
finding false place = Some place

-- the next entry is skipped, and it is the last one
abbrev pub ends_entries : Bool → ℕ → ℕ → Bool
ends_entries passes passed count = passes && (passed + 1 == count)

-- at most as many entries come of these stores: one for each put and each entry, and no more than the region can hold
abbrev pub most_entries : List HashState → SortedState → ℕ
most_entries stores sorted = min (sorted.count + sum_by (λ store. store.puts) stores) sorted.shape.sorted_capacity

-- the number of gathered slots
abbrev pub gathered_count : MergeState → ℕ
gathered_count merge = merge.store * (4 * merge.shape.buckets) + merge.slot

-- the number of steps taken: one for each gathered slot, and one for each decided key
abbrev pub steps_of : MergeState → ℕ
steps_of merge = gathered_count merge + merge.decided

-- the number of steps of a merge of stores with this many keys
abbrev pub steps_for : MergeState → ℕ → ℕ
steps_for merge keys = merge.stores * (4 * merge.shape.buckets) + keys

-- all slots are gathered, no row waits, and all entries are skipped
abbrev pub is_done : MergeState → SortedState → Bool
is_done merge sorted = (merge.store == merge.stores) && (length merge.waiting == 0) && nat_le sorted.count merge.passed

-- a source names a slot of one of the stores
pub record IsInside (merge : MergeState) (source : Source) : Type 0 where
  pub store : source.store < merge.stores
  pub slot : source.slot < 4 * merge.shape.buckets

-- the invariant of every merge, on any disk; the index has one key more than is written after a write that failed
pub record IsHeldMerge (merge : MergeState) : Type 0 where
  pub there : merge.region < 2
  pub store : merge.store ≤ merge.stores
  pub slot : merge.slot < 4 * merge.shape.buckets
  pub ended : merge.store ≡ merge.stores → merge.slot ≡ 0
  pub gathers : merge.store < merge.stores → merge.decided ≡ 0
  pub fresh : merge.store < merge.stores → merge.last ≡ None
  pub unpassed : merge.store < merge.stores → merge.passed ≡ 0
  pub above : (key : List ℕ) (source : Source) → source_at merge.waiting key ≡ Some source → is_above merge.last key ≡ true
  pub inside : (key : List ℕ) (source : Source) → source_at merge.waiting key ≡ Some source → IsInside merge source
  pub room : merge.written ≤ merge.shape.sorted_capacity
  pub few : merge.decided + length merge.waiting ≤ gathered_count merge + merge.passed
  pub index : merge.index.building.count ≤ merge.written + 1
