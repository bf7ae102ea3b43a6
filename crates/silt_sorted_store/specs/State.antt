-- A sorted store, and its entries on a disk.
use Rattle.std.specs.Prelude.{◌≡◌, ℕ, ◌+◌, ◌*◌, ◌<◌, ◌≤◌, IsTrue, List, map, slice_range}
use Rattle.silt_disk.specs.Disk.{Content}
use Rattle.silt_disk.specs.Layout.{Shape, entry_len, sorted_at}
use Rattle.silt_frame.specs.Rows.{StoredRow, entries_bytes, entry_row}
use Rattle.std.specs.List.{range_with_len}
use Rattle.sha1.specs.Sha1.{sha1}

-- this many entries of a sorted region, from its front on
unfoldable pub sorted_rows : Shape → ℕ → ℕ → List ℕ → List StoredRow
sorted_rows shape region count image =
    map (λ place. entry_row (slice_range image (sorted_at shape region + place * entry_len shape) (sorted_at shape region + place * entry_len shape + entry_len shape)))
    (range_with_len 0 count)

-- this many entries of a sorted region
pub record SortedState : Type 0 where
  pub shape : Shape
  pub region : ℕ
  pub count : ℕ

-- the invariant of every sorted store, on any disk: its entries lie in one of the two regions
pub record IsHeldSorted (store : SortedState) : Type 0 where
  pub region : store.region < 2
  pub room : store.count ≤ store.shape.sorted_capacity

-- where the entry at a place begins
abbrev pub sorted_entry_at : Shape → ℕ → ℕ → ℕ
sorted_entry_at shape region place = sorted_at shape region + place * entry_len shape

-- the entries that are shown, as puts
abbrev pub entries_of : Content → SortedState → List StoredRow
entries_of content store = sorted_rows store.shape store.region store.count content.shown

-- if the disk is honest, the digest is that of the bytes of the entries
abbrev pub HasDigest : Content → SortedState → List ℕ → Type 0
HasDigest content store digest = IsTrue content.honest → digest ≡ sha1 (entries_bytes (entries_of content store))
