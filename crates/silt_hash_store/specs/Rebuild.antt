-- What a rebuild returns for the slots of a hash region.
use Rattle.std.specs.Prelude.{◌≡◌, ℕ, ◌+◌, true, false, List, filter, length, slice_get, slice_set, Option, Some, None}
use Rattle.sha1.specs.Sha1.{Holds}
use Rattle.sha1.specs.declared.Sha1.{Sha1}
use Rattle.silt_cuckoo.specs.Keys.{first_bucket, second_bucket}
use Rattle.silt_cuckoo.specs.Placing.{other_bucket}
use Rattle.silt_disk.specs.Disk.{Content}
use Rattle.silt_disk.specs.Layout.{Shape}
use Rattle.silt_frame.specs.Frame.{kind_of}
use Rattle.silt_frame.specs.declared.key.Kind.{Kind}
use Rattle.silt_hash_store.specs.Findings.{hash_findings, is_in_bucket}
use Rattle.silt_log.specs.Parts.{known_rows}
use Rattle.silt_frame.specs.Rows.{put_count, has_known_kind, StoredRow, puts_of, rows_bytes}
use Rattle.silt_hash_store.specs.declared.region.Head.{Head}
use Rattle.silt_hash_store.specs.Slots.{HeadSays, hash_part, is_sound_slot, rows_before, slot_row, tag_of}
use Rattle.silt_event.specs.declared.damage.Finding.TheVariants as finding
use Rattle.silt_event.specs.declared.place.Place.TheVariants.{Hash}
use Rattle.silt_hash_store.specs.State.{HashState, IsHashStore, IsTagged}
use Rattle.silt_hash_store.specs.declared.rebuild.Rebuilt.{Rebuilt}

-- a store that was rebuilt from what is shown, with the number of its rows of known kinds
pub record IsRebuiltHash (content : Content) (rebuilt : Rebuilt) : Type 0 where
  pub stands : IsHashStore content rebuilt.store
  pub counted : rebuilt.rows ≡ length (known_rows (hash_part rebuilt.store.shape content.shown rebuilt.store.region))

-- this slot is the first finding in a hash region
pub record IsFirstUnsound (content : Content) (shape : Shape) (region slot : ℕ) : Type 0 where
  pub first : slice_get (hash_findings shape (hash_part shape content.shown region)) 0 ≡ Some (finding.Damaged (Hash region slot))

-- the tag of a key in a slot; none if the slot lies in neither of the key's buckets
abbrev pub TagsKey : Shape → ℕ → List ℕ → Option ℕ → Type 0
TagsKey shape slot key None = is_in_bucket shape slot key ≡ false
TagsKey shape slot key (Some tag) = (is_in_bucket shape slot key ≡ true) × (tag ≡ other_bucket (first_bucket shape.buckets key) (second_bucket shape.buckets key) slot)

-- what a slot adds to a store: nothing if it is empty, else the kind and the tag of its row
abbrev pub AddsSlot : ℕ → ℕ → StoredRow → Option (Kind × ℕ) → Type 0
AddsSlot buckets slot row None = row.kind ≡ 0
AddsSlot buckets slot row (Some (kind, tag)) = (kind_of row.kind ≡ Some kind) × (tag_of buckets slot row ≡ Some tag)

-- this is the content of a slot's head
abbrev pub HasHead : HashState → List ℕ → ℕ → Head → Type 0
HasHead store image slot head = HeadSays (slot_row store.shape store.region image slot).kind (slot_row store.shape store.region image slot).key head

-- a slot is sound, and this is what it adds
pub record AddsSound (store : HashState) (image : List ℕ) (slot : ℕ) (added : Option (Kind × ℕ)) : Type 0 where
  pub sound : is_sound_slot store.shape store.region image slot ≡ true
  pub adds : AddsSlot store.shape.buckets slot (slot_row store.shape store.region image slot) added

-- the store after a slot was added: with its tag, its puts and its row counted
abbrev pub TakesAdded : ℕ → Option (Kind × ℕ) → Rebuilt → Rebuilt → Type 0
TakesAdded slot None old new = new ≡ old
TakesAdded slot (Some (kind, tag)) old new =
    new ≡ record { store = record old.store { tags = slice_set old.store.tags slot (Some tag); puts = old.store.puts + puts_of kind }; rows = old.rows + 1 }

-- a store of the first slots of an image, this many, with their puts and the number of their rows of known kinds
pub record IsGrown (rebuilt : Rebuilt) (image : List ℕ) (count : ℕ) : Type 0 where
  pub tagged : IsTagged rebuilt.store image count
  pub charged : rebuilt.store.puts ≡ put_count (filter has_known_kind (rows_before rebuilt.store.shape rebuilt.store.region image count))
  pub counted : rebuilt.rows ≡ length (filter has_known_kind (rows_before rebuilt.store.shape rebuilt.store.region image count))

-- a hasher that was fed the bytes of the first slots of an image, this many
abbrev pub IsFed : Sha1 → HashState → List ℕ → ℕ → Type 0
IsFed hasher store image count = Holds hasher (rows_bytes (rows_before store.shape store.region image count))
