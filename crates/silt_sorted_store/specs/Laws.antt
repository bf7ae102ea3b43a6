-- Laws of entries, for the crates above.
use Rattle.std.specs.Prelude.{◌≡◌, ℕ, ◌+◌, ◌*◌, ◌<◌, ◌≤◌, IsTrue, List, [], length, get_or, slice_get, slice_range, Some}
use Rattle.silt_frame.specs.declared.key.Kind.TheVariants.{Put}
use Rattle.silt_frame.specs.Frame.{kind_byte}
use Rattle.silt_disk.specs.Disk.{ChangesWithin, Content, LiesOutside, size}
use Rattle.silt_disk.specs.Layout.{Shape, device_size, entries_len, entry_len, sorted_at}
use Rattle.silt_frame.specs.Rows.{StoredRow, entries_bytes, keys_of}
use Rattle.silt_sorted_store.specs.State.{sorted_rows, HasDigest, IsHeldSorted, SortedState, entries_of}
use Rattle.silt_sorted_store.specs.Findings.{is_key_below, sorted_findings}
use Rattle.silt_sorted_store.specs.Index.{HasIndex}
use Rattle.silt_trie.specs.Marks.{MarkedCode}

-- this many rows, each of them a put
pub record ArePuts (rows : List StoredRow) (count : ℕ) : Type 0 where
  pub counted : length rows ≡ count
  pub puts : (place : ℕ) (row : StoredRow) → slice_get rows place ≡ Some row → row.kind ≡ kind_byte Put

-- the entries of a region are this many puts
abbrev pub EntriesLaw : Type 0
EntriesLaw = (shape : Shape) (region count : ℕ) (image : List ℕ) → ArePuts (sorted_rows shape region count image) count

-- on an image that is long enough, the bytes of the entries of a region are the image's bytes there, from the region's front on
abbrev pub EntriesBytesLaw : Type 0
EntriesBytesLaw =
    (shape : Shape) (region count : ℕ) (image : List ℕ) → sorted_at shape region + count * entry_len shape ≤ length image
    → entries_bytes (sorted_rows shape region count image) ≡ slice_range image (sorted_at shape region) (sorted_at shape region + count * entry_len shape)

-- a lower place has a lower key, and a key has one place
pub record IsRising (rows : List StoredRow) : Type 0 where
  pub below : (low high : ℕ) → low < high → high < length rows → IsTrue (is_key_below (get_or (keys_of rows) low []) (get_or (keys_of rows) high []))
  pub once : (place other : ℕ) → place < length rows → other < length rows → get_or (keys_of rows) place [] ≡ get_or (keys_of rows) other [] → place ≡ other

-- entries without a finding rise
abbrev pub RisingLaw : Type 0
RisingLaw = (rows : List StoredRow) → sorted_findings rows ≡ [] → IsRising rows

-- entries stay, after a change outside them
abbrev pub EntriesElsewhereLaw : Type 0
EntriesElsewhereLaw =
    (store : SortedState) (old new : Content) (at count : ℕ) → IsHeldSorted store → device_size store.shape ≤ size old
    → LiesOutside (sorted_at store.shape store.region) (entries_len store.shape) at count
    → ChangesWithin at count old new → IsTrue new.honest → entries_of new store ≡ entries_of old store

-- an index of entries is still theirs after a change outside them
abbrev pub IndexedElsewhereLaw : Type 0
IndexedElsewhereLaw =
    (store : SortedState) (index : MarkedCode) (old new : Content) (at count : ℕ) → IsHeldSorted store → device_size store.shape ≤ size old
    → LiesOutside (sorted_at store.shape store.region) (entries_len store.shape) at count
    → ChangesWithin at count old new → HasIndex old store index → HasIndex new store index

-- a digest of entries is still theirs after a change outside them
abbrev pub DigestElsewhereLaw : Type 0
DigestElsewhereLaw =
    (store : SortedState) (digest : List ℕ) (old new : Content) (at count : ℕ) → IsHeldSorted store → device_size store.shape ≤ size old
    → LiesOutside (sorted_at store.shape store.region) (entries_len store.shape) at count
    → ChangesWithin at count old new → HasDigest old store digest → HasDigest new store digest
