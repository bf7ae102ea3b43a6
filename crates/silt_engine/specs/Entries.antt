-- Rows done one after the other on a map in memory.
use Rattle.std.specs.Prelude.{◌≡◌, ℕ, List, filter, map}
use Rattle.std.specs.BTreeMap.{BTreeMap}
use Rattle.silt_frame.specs.declared.key.Kind.TheVariants.{Put}
use Rattle.silt_frame.specs.Frame.{kind_byte}
use Rattle.silt_frame.specs.declared.key.Key.{Key}
use Rattle.silt_event.specs.Commands.{Map, map_after}
use Rattle.silt_disk.specs.Disk.{Content}
use Rattle.silt_event.specs.Rows.{command_of}
use Rattle.silt_log.specs.Parts.{oldest_first}
use Rattle.silt_frame.specs.Rows.{has_known_kind, StoredRow}
use Rattle.silt_engine.specs.Lookup.{AreEntriesOf, hash_rows_of}
use Rattle.silt_standing.specs.State.{EngineState}

-- entries that were those of a map are those of the map after these rows
abbrev pub DoesRows : List StoredRow → BTreeMap Key (List ℕ) → BTreeMap Key (List ℕ) → Type 0
DoesRows rows before after = (m : Map) → AreEntriesOf m before → AreEntriesOf (map_after m (map command_of rows)) after

-- a put of this key
abbrev pub IsPutOf : StoredRow → List ℕ → Type 0
IsPutOf row key = (row.kind ≡ kind_byte Put) × (row.key ≡ key)

-- the rows of the hash stores that are shown, the oldest store first
abbrev pub hashed_rows : Content → EngineState → List StoredRow
hashed_rows content s = oldest_first (map (λ store. filter has_known_kind (hash_rows_of content store)) s.hashes)
