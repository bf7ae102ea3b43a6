-- A log that is being converted to a hash store.
use Rattle.std.specs.Prelude.{◌≡◌, ℕ, ◌+◌, ◌*◌, ◌≤◌, ◌<◌, IsTrue, List, [], ◌∷◌, ◌++◌, filter, length, replicate, get_or, map, slice_set, Option, Some, None}
use Rattle.std.specs.List.{range_with_len}
use Rattle.sha1.specs.Sha1.{Holds, sha1}
use Rattle.sha1.specs.declared.Sha1.{Sha1}
use Rattle.silt_cuckoo.specs.Slots.{Entry, Slots, entry_at, place_at}
use Rattle.silt_disk.specs.Disk.{Content}
use Rattle.silt_disk.specs.Layout.{Shape, row_len}
use Rattle.silt_frame.specs.Rows.{put_count, has_known_kind, row_bytes, row_of, rows_bytes, StoredRow}
use Rattle.silt_log.specs.State.{all_rows}
use Rattle.silt_log_store.specs.State.{IsFrozenStore, LogStoreState}
use Rattle.silt_hash_store.specs.Slots.{slot_row, slot_tag}
use Rattle.silt_conversion.specs.declared.conversion.StepError.{StepError}
use Rattle.silt_conversion.specs.declared.conversion.StepError.TheVariants.{Read, Write}

-- a conversion: the region it writes, the tags of the written slots, the next slot, the number of written puts, and a hasher of the slots
pub record ConversionState : Type 0 where
  pub shape : Shape
  pub region : ℕ
  pub tags : List (Option ℕ)
  pub next : ℕ
  pub puts : ℕ
  pub hasher : Sha1

-- the invariant of every conversion, with a buffer of this length
pub record IsHeldConversion (conversion : ConversionState) (buffer_len : ℕ) : Type 0 where
  pub there : conversion.region < conversion.shape.hashes
  pub long : length conversion.tags ≡ 4 * conversion.shape.buckets
  pub most : conversion.next ≤ 4 * conversion.shape.buckets
  pub counted : conversion.puts ≤ conversion.next
  pub later : (slot : ℕ) → conversion.next ≤ slot → slot_tag conversion.tags slot ≡ None
  pub buffer : buffer_len ≡ row_len conversion.shape

-- the row of an empty slot
abbrev pub empty_row : Shape → StoredRow
empty_row shape = row_of (replicate (row_len shape) 0)

-- the row at the place of an entry, and an empty one if there is no entry
abbrev pub row_for : Shape → List StoredRow → Option ℕ → StoredRow
row_for shape rows None = empty_row shape
row_for shape rows (Some place) = get_or rows place (empty_row shape)

-- the row that belongs in a slot: that of the log's entry there, by the log's table and its rows
abbrev pub converted_row : Shape → Slots → List StoredRow → ℕ → StoredRow
converted_row shape table rows slot = row_for shape rows (place_at table slot)

-- the rows that belong in the first slots, this many
unfoldable pub converted_before : Shape → Slots → List StoredRow → ℕ → List StoredRow
converted_before shape table rows count = map (converted_row shape table rows) (range_with_len 0 count)

-- the rows that belong in the slots of a hash region
unfoldable pub converted_rows : Shape → Slots → List StoredRow → List StoredRow
converted_rows shape table rows = converted_before shape table rows (4 * shape.buckets)

-- the tags after an entry was added
abbrev pub with_entry : List (Option ℕ) → ℕ → Option Entry → List (Option ℕ)
with_entry tags slot None = tags
with_entry tags slot (Some entry) = slice_set tags slot (Some entry.0)

-- the tag of an entry
abbrev pub tag_of_entry : Option Entry → Option ℕ
tag_of_entry None = None
tag_of_entry (Some entry) = Some entry.0

-- this is the digest of the bytes that the hasher was fed
abbrev pub IsDigestOf : Sha1 → List ℕ → Type 0
IsDigestOf hasher digest = (bytes : List ℕ) → Holds hasher bytes → digest ≡ sha1 bytes

-- so far the slots show their rows and have the tags of the log's table, the puts are counted, and the hasher was fed the bytes
pub record HasWritten (content : Content) (log : LogStoreState) (conversion : ConversionState) : Type 0 where
  pub shape : conversion.shape ≡ log.log.shape
  pub due : IsTrue content.honest → (slot : ℕ) → slot < conversion.next
      → slot_row conversion.shape conversion.region content.shown slot ≡ converted_row conversion.shape log.table (all_rows content log.log) slot
  pub tagged : (slot : ℕ) → slot < conversion.next → slot_tag conversion.tags slot ≡ tag_of_entry (entry_at log.table slot)
  pub charged : IsTrue content.honest
      → conversion.puts ≡ put_count (filter has_known_kind (converted_before conversion.shape log.table (all_rows content log.log) conversion.next))
  pub hashed : IsTrue content.honest
      → Holds conversion.hasher (rows_bytes (converted_before conversion.shape log.table (all_rows content log.log) conversion.next))

-- one more slot shows its row, its puts are counted, and the hasher was fed its bytes
pub record Steps (log : LogStoreState) (old new : Content) (before after : ConversionState) : Type 0 where
  pub next : after ≡ record before { next = before.next + 1; tags = with_entry before.tags before.next (entry_at log.table before.next); puts = after.puts; hasher = after.hasher }
  pub shows : IsTrue old.honest → IsFrozenStore old log
      → slot_row before.shape before.region new.shown before.next ≡ converted_row before.shape log.table (all_rows old log.log) before.next
  pub added : IsTrue old.honest → IsFrozenStore old log
      → after.puts ≡ before.puts + put_count (filter has_known_kind (converted_row before.shape log.table (all_rows old log.log) before.next ∷ []))
  pub fed : IsTrue old.honest → IsFrozenStore old log → (bytes : List ℕ) → Holds before.hasher bytes
      → Holds after.hasher (bytes ++ row_bytes (converted_row before.shape log.table (all_rows old log.log) before.next))

-- why a step failed: a read, and nothing has changed, or the write
abbrev pub FailsStep : {D F : Type 0} → (D → F → Type 0) → (F → Type 0) → D → D → StepError F → Type 0
FailsStep gave_read counts old new (Read fault) = (new ≡ old) × gave_read old fault
FailsStep gave_read counts old new (Write fault) = counts fault
