-- Laws of conversions, for the crates above.
use Rattle.std.specs.Prelude.{◌≡◌, ℕ, ◌*◌, ◌≤◌, ◌<◌, true, List, [], Some, map, filter}
use Rattle.std.specs.List.{list_all}
use Rattle.silt_cuckoo.specs.Slots.{Slots, IsBucketCount}
use Rattle.silt_cuckoo.specs.Index.{index_of_keys}
use Rattle.silt_disk.specs.Disk.{ChangesWithin, Content, LiesOutside, size}
use Rattle.silt_disk.specs.Layout.{Shape, device_size, commits_at, hash_at, log_len, slots_len}
use Rattle.silt_event.specs.Commands.{Map, map_after}
use Rattle.silt_event.specs.Rows.{command_of}
use Rattle.silt_hash_store.specs.Findings.{hash_findings}
use Rattle.silt_frame.specs.Rows.{put_count, keys_of, has_known_kind, StoredRow}
use Rattle.silt_log.specs.State.{InBounds}
use Rattle.silt_log_store.specs.State.{LogStoreState}
use Rattle.silt_conversion.specs.Conversion.{ConversionState, HasWritten, converted_rows}

-- rows of known kinds, and the table of their keys
pub record IsTableOf (shape : Shape) (rows : List StoredRow) (table : Slots) : Type 0 where
  pub count : IsBucketCount shape.buckets
  pub known : list_all has_known_kind rows ≡ true
  pub indexed : index_of_keys shape.buckets (keys_of rows) ≡ Some table

-- there is no finding in the rows that belong in the slots
abbrev pub ConvertedSoundLaw : Type 0
ConvertedSoundLaw =
    (shape : Shape) (rows : List StoredRow) (table : Slots) (region : ℕ) → IsTableOf shape rows table
    → hash_findings shape (record { region = region; rows = converted_rows shape table rows }) ≡ []

-- applied to any map, these rows and the log's rows give the same map
abbrev pub ConvertedMapLaw : Type 0
ConvertedMapLaw =
    (shape : Shape) (rows : List StoredRow) (table : Slots) (map_below : Map) → IsTableOf shape rows table
    → map_after map_below (map command_of (filter has_known_kind (converted_rows shape table rows))) ≡ map_after map_below (map command_of rows)

-- these rows have at most as many puts as the log's rows
abbrev pub ConvertedChargeLaw : Type 0
ConvertedChargeLaw =
    (shape : Shape) (rows : List StoredRow) (table : Slots) → IsTableOf shape rows table
    → put_count (filter has_known_kind (converted_rows shape table rows)) ≤ put_count rows

-- a change outside a conversion's slots and its log leaves what the conversion has written
abbrev pub WrittenElsewhereLaw : Type 0
WrittenElsewhereLaw =
    (log : LogStoreState) (conversion : ConversionState) (old new : Content) (at count : ℕ) → InBounds log.log → conversion.region < conversion.shape.hashes
    → conversion.next ≤ 4 * conversion.shape.buckets → device_size conversion.shape ≤ size old → LiesOutside (commits_at log.log.shape log.log.region) (log_len log.log.shape) at count
    → LiesOutside (hash_at conversion.shape conversion.region) (slots_len conversion.shape) at count → ChangesWithin at count old new → HasWritten old log conversion → HasWritten new log conversion
