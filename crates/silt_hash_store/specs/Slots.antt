-- The slots of a hash region, and their tags.
use Rattle.std.specs.Prelude.{◌≡◌, ◌≢◌, ℕ, ◌+◌, ◌*◌, ◌==◌, ◌<◌, Bool, false, ◌&&◌, ◌||◌, if◌then◌else◌, List, get_or, map, slice_range, Option, Some, None}
use Rattle.std.specs.List.{list_any, range_with_len}
use Rattle.std.specs.Str.{bytes_eq}
use Rattle.silt_cuckoo.specs.Keys.{first_bucket, second_bucket}
use Rattle.silt_cuckoo.specs.Placing.{other_bucket}
use Rattle.silt_disk.specs.Layout.{Shape, hash_at, row_len}
use Rattle.silt_frame.specs.Frame.{kind_of}
use Rattle.silt_hash_store.specs.declared.region.Head.{Head}
use Rattle.silt_hash_store.specs.declared.region.Head.TheVariants.{Empty, Unknown, Row}
use Rattle.silt_hash_store.specs.Findings.{is_sound_hash_slot}
use Rattle.silt_log.specs.Rows.{body_row}
use Rattle.silt_frame.specs.Rows.{has_known_kind, row_of, StoredRow}
use Rattle.silt_log.specs.Parts.{Part}

-- the rows in the slots of a hash region, in order
unfoldable pub hash_rows : Shape → ℕ → List ℕ → List StoredRow
hash_rows shape region image = map (body_row (hash_at shape region) (row_len shape) image) (range_with_len 0 (4 * shape.buckets))

-- a hash store of an image
abbrev pub hash_part : Shape → List ℕ → ℕ → Part
hash_part shape image region = record { region = region; rows = hash_rows shape region image }

-- where a slot begins
abbrev pub hash_slot_at : Shape → ℕ → ℕ → ℕ
hash_slot_at shape region slot = hash_at shape region + slot * row_len shape

-- the row in a slot
unfoldable pub slot_row : Shape → ℕ → List ℕ → ℕ → StoredRow
slot_row shape region image slot = body_row (hash_at shape region) (row_len shape) image slot

-- the rows in the slots before this one
unfoldable pub rows_before : Shape → ℕ → List ℕ → ℕ → List StoredRow
rows_before shape region image slot = map (slot_row shape region image) (range_with_len 0 slot)

-- there is no finding at a slot
abbrev pub is_sound_slot : Shape → ℕ → List ℕ → ℕ → Bool
is_sound_slot shape region image slot = is_sound_hash_slot shape (hash_rows shape region image) slot (slot_row shape region image slot)

-- a row of a known kind has this key
abbrev pub is_row_of : List ℕ → StoredRow → Bool
is_row_of key row = has_known_kind row && bytes_eq row.key key

-- the content of a head, from a row with this kind byte and this key
abbrev pub HeadSays : ℕ → List ℕ → Head → Type 0
HeadSays byte key Empty = byte ≡ 0
HeadSays byte key Unknown = (kind_of byte ≡ None) × (byte ≢ 0)
HeadSays byte key (Row kind its_key) = (kind_of byte ≡ Some kind) × (its_key.0 ≡ key)

-- the tag of a slot
abbrev pub slot_tag : List (Option ℕ) → ℕ → Option ℕ
slot_tag tags slot = get_or tags slot None

-- this is the tag of a slot
abbrev pub is_tag : ℕ → Option ℕ → Bool
is_tag tag None = false
is_tag tag (Some its_tag) = its_tag == tag

-- a slot of a bucket has this tag
unfoldable pub bucket_has_tag : List (Option ℕ) → ℕ → ℕ → Bool
bucket_has_tag tags bucket tag = list_any (λ i. is_tag tag (slot_tag tags (4 * bucket + i))) (range_with_len 0 4)

-- a slot of one of a key's buckets has the number of the other as its tag
abbrev pub has_tag_of : List (Option ℕ) → ℕ → List ℕ → Bool
has_tag_of tags buckets key = bucket_has_tag tags (first_bucket buckets key) (second_bucket buckets key) || bucket_has_tag tags (second_bucket buckets key) (first_bucket buckets key)

-- the tag that a number of 16 bits means: none for the greatest number
abbrev pub tag_seen : ℕ → Option ℕ
tag_seen number = if number == 65535 then None else Some number

-- the tag of a row in a slot: none if it is empty, else the one of its key's two buckets in which the slot does not lie
abbrev pub tag_of : ℕ → ℕ → StoredRow → Option ℕ
tag_of buckets slot row = if row.kind == 0 then None else Some (other_bucket (first_bucket buckets row.key) (second_bucket buckets row.key) slot)

-- this many slots from a slot on have the rows that these bytes encode, one after the other
abbrev pub HoldsSlots : Shape → ℕ → List ℕ → ℕ → ℕ → List ℕ → Type 0
HoldsSlots shape region image slot count bytes =
    (i : ℕ) → i < count → slot_row shape region image (slot + i) ≡ row_of (slice_range bytes (i * row_len shape) (i * row_len shape + row_len shape))
