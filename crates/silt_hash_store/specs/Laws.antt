-- Laws of hash stores, for the crates above.
use Rattle.std.specs.Prelude.{◌≡◌, ℕ, ◌+◌, ◌≤◌, List, length, slice_range}
use Rattle.silt_disk.specs.Disk.{ChangesWithin, Content, LiesOutside, size}
use Rattle.silt_disk.specs.Layout.{Shape, device_size, hash_at, slots_len}
use Rattle.silt_frame.specs.Rows.{rows_bytes}
use Rattle.silt_hash_store.specs.Slots.{hash_rows}
use Rattle.silt_hash_store.specs.State.{HashState, IsHashStore, IsHeldHash}

-- a hash store still matches the disk after a change outside its slots
abbrev pub HashElsewhereLaw : Type 0
HashElsewhereLaw =
    (store : HashState) (old new : Content) (at count : ℕ) → IsHeldHash store → device_size store.shape ≤ size old → LiesOutside (hash_at store.shape store.region) (slots_len store.shape) at count
    → ChangesWithin at count old new → IsHashStore old store → IsHashStore new store

-- the bytes of the rows in the slots of an image are the bytes of the region's slots
abbrev pub HashBytesLaw : Type 0
HashBytesLaw =
    (shape : Shape) (region : ℕ) (image : List ℕ) → hash_at shape region + slots_len shape ≤ length image
    → rows_bytes (hash_rows shape region image) ≡ slice_range image (hash_at shape region) (hash_at shape region + slots_len shape)
