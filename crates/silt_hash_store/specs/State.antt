-- A hash store in memory, and what the disk has of it.
use Rattle.std.specs.Prelude.{◌≡◌, ℕ, ◌*◌, ◌<◌, ◌≤◌, true, IsTrue, List, [], length, Option, None}
use Rattle.sha1.specs.Sha1.{sha1}
use Rattle.silt_disk.specs.Disk.{Content}
use Rattle.silt_disk.specs.Layout.{Shape}
use Rattle.silt_frame.specs.Rows.{put_count, rows_bytes}
use Rattle.silt_hash_store.specs.Findings.{hash_findings}
use Rattle.silt_log.specs.Parts.{known_rows}
use Rattle.silt_hash_store.specs.Slots.{hash_part, hash_rows, is_sound_slot, slot_row, slot_tag, tag_of}

-- a hash store: its region, the tag of each slot, the number of puts among its rows, and its digest
pub record HashState : Type 0 where
  pub shape : Shape
  pub region : ℕ
  pub tags : List (Option ℕ)
  pub puts : ℕ
  pub digest : List ℕ

-- the invariant of every hash store, on any disk
pub record IsHeldHash (store : HashState) : Type 0 where
  pub there : store.region < store.shape.hashes
  pub long : length store.tags ≡ 4 * store.shape.buckets
  pub few : store.puts ≤ 4 * store.shape.buckets

-- the first slots of an image, this many, are sound and have their tags, and the later ones have none
pub record IsTagged (store : HashState) (image : List ℕ) (count : ℕ) : Type 0 where
  pub most : count ≤ 4 * store.shape.buckets
  pub sound : (slot : ℕ) → slot < count → is_sound_slot store.shape store.region image slot ≡ true
  pub tagged : (slot : ℕ) → slot < count → slot_tag store.tags slot ≡ tag_of store.shape.buckets slot (slot_row store.shape store.region image slot)
  pub later : (slot : ℕ) → count ≤ slot → slot_tag store.tags slot ≡ None

-- a hash store on a disk: if the disk is honest, no slot has a finding, each has its row's tag, and puts and digest are the rows'
pub record IsHashStore (content : Content) (store : HashState) : Type 0 where
  pub sound : IsTrue content.honest → hash_findings store.shape (hash_part store.shape content.shown store.region) ≡ []
  pub tagged : IsTrue content.honest → (slot : ℕ) → slot < 4 * store.shape.buckets
      → slot_tag store.tags slot ≡ tag_of store.shape.buckets slot (slot_row store.shape store.region content.shown slot)
  pub counted : IsTrue content.honest → store.puts ≡ put_count (known_rows (hash_part store.shape content.shown store.region))
  pub digested : IsTrue content.honest → store.digest ≡ sha1 (rows_bytes (hash_rows store.shape store.region content.shown))
