-- Which rows the stores have, and what lookups return.
use Rattle.std.specs.Prelude.{◌≡◌, ◌<◌, ℕ, Bool, false, nat_le, if◌then◌else◌, List, [], length, get_or, Option, Some, None, IfSome}
use Rattle.std.specs.List.{list_any}
use Rattle.std.specs.Option.{option_and_then}
use Rattle.std.specs.Str.{bytes_eq}
use Rattle.std.specs.BTreeMap.{BTreeMap}
use Rattle.std.specs.BTreeMap as tree
use Rattle.std.specs.FinMap.{get}
use Rattle.silt_disk.specs.Disk.{Content}
use Rattle.silt_frame.specs.declared.key.Key.{Key}
use Rattle.silt_hash_store.specs.Lookup.{FindsRow}
use Rattle.silt_hash_store.specs.Slots.{slot_row, hash_rows}
use Rattle.silt_hash_store.specs.State.{HashState}
use Rattle.silt_event.specs.Commands.{Command, Map, delete, put}
use Rattle.silt_frame.specs.Frame.{is_put}
use Rattle.silt_event.specs.Rows.{newest_row, value_given}
use Rattle.silt_hash_store.specs.Findings.{holds_key}
use Rattle.silt_log.specs.Rows.{row_at}
use Rattle.silt_frame.specs.Rows.{StoredRow, key_cmp}
use Rattle.silt_log.specs.State.{all_rows}
use Rattle.silt_log.specs.declared.found.Found.{Found}
use Rattle.silt_log_store.specs.LastRow.{FindsLast, HasNoRow}
use Rattle.silt_log_store.specs.State.{LogStoreState}
use Rattle.silt_engine.specs.declared.lookup.Holder.{Holder}
use Rattle.silt_engine.specs.declared.lookup.Holder.TheVariants.{Active, Frozen, Hashed}
use Rattle.silt_engine.specs.declared.entries.EntriesError.{EntriesError}
use Rattle.silt_engine.specs.declared.entries.EntriesError.TheVariants.{Device, NoMemory}
use Rattle.silt_sorted_store.specs.State.{entries_of}
use Rattle.silt_standing.specs.State.{EngineState}
use Rattle.silt_standing.specs.Standing.{current_map}

-- the frozen log of this number, the newest first
abbrev pub frozen_at : EngineState → ℕ → LogStoreState
frozen_at s index = get_or s.frozen index s.active

-- the hash store of this number, the newest first
abbrev pub hash_store_at : EngineState → ℕ → HashState
hash_store_at s index = get_or s.hashes index (record { shape = s.manifest.shape; region = 0; tags = []; puts = 0; digest = [] })

-- the rows that a hash store shows, slot by slot
abbrev pub hash_rows_of : Content → HashState → List StoredRow
hash_rows_of content store = hash_rows store.shape store.region content.shown

-- the row at a place of a holder
abbrev pub row_in : Content → EngineState → Holder → ℕ → StoredRow
row_in content s Active place = row_at s.active.log.shape s.active.log.region content.shown place
row_in content s (Frozen index) place = row_at (frozen_at s index).log.shape (frozen_at s index).log.region content.shown place
row_in content s (Hashed index) place = slot_row (hash_store_at s index).shape (hash_store_at s index).region content.shown place

-- what a row that was found there gives its key: its value if it is a put, none if it is a delete
abbrev pub value_found : Content → EngineState → Holder → Found → Option (List ℕ)
value_found content s holder found = if is_put found.kind then Some (row_in content s holder found.place).value else None

-- this is the newest of the frozen logs that has a row of the key, and there its last one; none if no log has one
abbrev pub FindsFrozen : Content → EngineState → List ℕ → Option (ℕ × Found) → Type 0
FindsFrozen content s key None = (index : ℕ) → index < length s.frozen → HasNoRow (all_rows content (frozen_at s index).log) key
FindsFrozen content s key (Some (number, found)) =
    ((index : ℕ) → index < number → HasNoRow (all_rows content (frozen_at s index).log) key)
    × FindsLast (all_rows content (frozen_at s number).log) key (Some found)

-- this is the newest of the hash stores that has a row of the key, with that row; none if no store has one
abbrev pub FindsHashed : Content → EngineState → List ℕ → Option (ℕ × Found) → Type 0
FindsHashed content s key None = (index : ℕ) → index < length s.hashes → holds_key key (hash_rows_of content (hash_store_at s index)) ≡ false
FindsHashed content s key (Some (number, found)) =
    ((index : ℕ) → index < number → holds_key key (hash_rows_of content (hash_store_at s index)) ≡ false)
    × FindsRow (hash_rows_of content (hash_store_at s number)) key (Some found)

-- this is the row of the logs and the hash stores that gives the key its value or none; if none of them has a row, the entries decide
abbrev pub FindsNewest : Content → EngineState → List ℕ → Option (Holder × Found) → Type 0
FindsNewest content s key None = get (current_map content s) key ≡ option_and_then value_given (newest_row (entries_of content s.sorted) key)
FindsNewest content s key (Some (holder, found)) = get (current_map content s) key ≡ value_found content s holder found

-- whether a command changes this key
abbrev pub is_of_key : List ℕ → Command → Bool
is_of_key key (put other value) = bytes_eq other key
is_of_key key (delete other) = bytes_eq other key

-- whether one of these commands changes this key
abbrev pub changes_key : List Command → List ℕ → Bool
changes_key commands key = list_any (is_of_key key) commands

-- whether the row that was found waits for a flush: it lies in the active log, and the settled rows are before it
abbrev pub is_waiting_row : EngineState → Option (Holder × Found) → Bool
is_waiting_row s (Some (Active, found)) = nat_le s.active.log.settled found.place
is_waiting_row s other = false

-- the entries are those of the map
abbrev pub AreEntriesOf : Map → BTreeMap Key (List ℕ) → Type 0
AreEntriesOf map entries = (key : Key) → tree.get key_cmp entries key ≡ get map key.0

-- why the entries were not read: a fault of a read; missing memory has no cause
abbrev pub EntriesErrorCause : {F : Type 0} → (F → Type 0) → EntriesError F → Type 0
EntriesErrorCause WasGiven (Device fault) = WasGiven fault
EntriesErrorCause WasGiven NoMemory = Unit {0}

-- if a put was found in a store, this is the value of its row
abbrev pub IsItsValue : Content → EngineState → Holder → Found → List ℕ → Type 0
IsItsValue content s holder found value = IfSome (value_found content s holder found) (λ its_value. value ≡ its_value)
