-- Where rows lie, and what they give.
use Rattle.std.specs.Prelude.{◌≡◌, ℕ, ◌<◌, ◌≤◌, ◌*◌, List, ◌∷◌, length, map, get_or, IsTrue, Option, Some, None}
use Rattle.std.specs.BTreeMap.{BTreeMap}
use Rattle.std.specs.BTreeMap as tree
use Rattle.std.specs.FinMap.{get}
use Rattle.silt_disk.specs.Disk.{Content}
use Rattle.silt_event.specs.Commands.{Map, map_after}
use Rattle.silt_event.specs.Rows.{command_of}
use Rattle.silt_frame.specs.Rows.{StoredRow, key_cmp}
use Rattle.silt_frame.specs.declared.key.Key.{Key}
use Rattle.silt_engine.specs.Lookup.{hash_store_at}
use Rattle.silt_hash_store.specs.Slots.{slot_row}
use Rattle.silt_log.specs.Parts.{oldest_first}
use Rattle.silt_log.specs.Rows.{row_at}
use Rattle.silt_log.specs.State.{all_rows}
use Rattle.silt_log_store.specs.State.{LogStoreState}
use Rattle.silt_standing.specs.State.{EngineState}
use Rattle.silt_dump.specs.declared.spot.Spot.{Spot}
use Rattle.silt_dump.specs.declared.spot.Spot.TheVariants.{Deleted, Logged, Hashed}

-- the logs, the newest first
abbrev pub logs_of : EngineState → List LogStoreState
logs_of s = s.active ∷ s.frozen

-- the log of this number, the newest first
abbrev pub log_at : EngineState → ℕ → LogStoreState
log_at s number = get_or (logs_of s) number s.active

-- the row of a log in memory at a place
abbrev pub row_of_log : Content → LogStoreState → ℕ → StoredRow
row_of_log content store place = row_at store.log.shape store.log.region content.shown place

-- what the row at a spot gives its key: a value, or none
abbrev pub spot_value : Content → EngineState → Spot → Option (List ℕ)
spot_value content s Deleted = None
spot_value content s (Logged number place) = Some (row_of_log content (log_at s number) place).value
spot_value content s (Hashed number slot) = Some (slot_row (hash_store_at s number).shape (hash_store_at s number).region content.shown slot).value

-- there is such a row
abbrev pub IsSpotOf : EngineState → Spot → Type 0
IsSpotOf s Deleted = Unit {0}
IsSpotOf s (Logged number place) = (number ≤ length s.frozen) × (place < (log_at s number).log.used)
IsSpotOf s (Hashed number slot) = (number < length s.hashes) × (slot < 4 * s.manifest.shape.buckets)

-- there are such rows
abbrev pub AreSpotsOf : EngineState → BTreeMap Key Spot → Type 0
AreSpotsOf s spots = (key : Key) (spot : Spot) → tree.get key_cmp spots key ≡ Some spot → IsSpotOf s spot

-- what a key has: what the row at its spot gives it, or, if it has no spot, what is behind
abbrev pub value_over : Content → EngineState → Option (List ℕ) → Option Spot → Option (List ℕ)
value_over content s behind None = behind
value_over content s behind (Some spot) = spot_value content s spot

-- the first map has what the rows at the spots give, over the second one
abbrev pub Overlays : Content → EngineState → Map → Map → BTreeMap Key Spot → Type 0
Overlays content s above behind spots =
    (key : Key) → get above key.0 ≡ value_over content s (get behind key.0) (tree.get key_cmp spots key)

-- The newest of these rows of each key are noted over those that were noted before. Each spot has a row if each had one before.
pub record NotesRows (content : Content) (s : EngineState) (rows : List StoredRow) (old new : BTreeMap Key Spot) : Type 0 where
  pub spots : AreSpotsOf s old → AreSpotsOf s new
  pub notes : IsTrue content.honest → (above behind : Map) → Overlays content s above behind old
      → Overlays content s (map_after above (map command_of rows)) behind new

-- the rows of all logs, the oldest first
abbrev pub logged_rows : Content → EngineState → List StoredRow
logged_rows content s = oldest_first (map (λ store. all_rows content store.log) (logs_of s))
