-- The state of a stream of entries.
use Rattle.std.specs.Prelude.{◌≡◌, ℕ, ◌+◌, ◌-◌, ◌<◌, ◌≤◌, Bool, IsTrue, IsSome, List, Option, Some, None, vec_len}
use Rattle.std.specs.BTreeMap.{btree_map_len}
use Rattle.std.specs.BTreeMap as tree
use Rattle.std.specs.FinMap.{get}
use Rattle.silt_disk.specs.Disk.{Content}
use Rattle.silt_disk.specs.Layout.{row_len}
use Rattle.silt_event.specs.Rows.{map_of_rows}
use Rattle.silt_frame.specs.Rows.{StoredRow, key_cmp}
use Rattle.silt_frame.specs.declared.key.Key.{Key}
use Rattle.silt_image.specs.Meaning.{image_map}
use Rattle.silt_recovery.specs.Opening.{Holds, held_stores}
use Rattle.silt_sorted_store.specs.State.{entries_of}
use Rattle.silt_standing.specs.State.{EngineState}
use Rattle.silt_dump.specs.Order.{IsAbove}
use Rattle.silt_dump.specs.Pieces.{HoldsPiece, IsAtPlace, key_at}
use Rattle.silt_dump.specs.Spots.{AreSpotsOf, value_over}
use Rattle.silt_dump.specs.declared.stream.EntryStream.{EntryStream}

-- the stores that a stream reads
abbrev pub stores_of : EntryStream → EngineState
stores_of stream = held_stores stream.held

-- the rows of the sorted store that a stream reads
abbrev pub sorted_of : Content → EntryStream → List StoredRow
sorted_of content stream = entries_of content (stores_of stream).sorted

-- What is left of a stream on a disk that obeys the crash model: the keys above the last one have what their spots give them, or else the
-- sorted store. Of the entries of the sorted store exactly those from its place on are above the last key.
pub record Leaves (content : Content) (stream : EntryStream) : Type 0 where
  pub piece : HoldsPiece content (stores_of stream).sorted stream.piece
  pub values : (key : Key) → IsAbove stream.last key
      → get (image_map content.shown) key.0 ≡ value_over content (stores_of stream) (get (map_of_rows (sorted_of content stream)) key.0) (tree.get key_cmp stream.spots key)
  pub passed : (place : ℕ) → place < stream.place → IsAbove stream.last (key_at (sorted_of content stream) place) → ⊥
  pub left : (place : ℕ) → stream.place ≤ place → place < (stores_of stream).sorted.count → IsAbove stream.last (key_at (sorted_of content stream) place)

-- A stream matches its disk: its stores are those that the disk shows, its spots have rows there, and their keys are above the last one.
pub record Streams (content : Content) (stream : EntryStream) : Type 0 where
  pub holds : Holds content (stores_of stream)
  pub spots : AreSpotsOf (stores_of stream) stream.spots
  pub above : (key : Key) → IsSome (tree.get key_cmp stream.spots key) → IsAbove stream.last key
  pub row : vec_len stream.row ≡ row_len (stores_of stream).manifest.shape
  pub at : IsAtPlace (stores_of stream).sorted stream.piece stream.place
  pub leaves : IsTrue content.honest → Leaves content stream

-- the length of a value of the store
abbrev pub value_len_of : EntryStream → ℕ
value_len_of stream = stream.held.manifest.shape.value_len

-- how many keys a stream has still to pass, at most
abbrev pub steps_left : EntryStream → ℕ
steps_left stream = btree_map_len stream.spots + ((stores_of stream).sorted.count - stream.place)

-- a stream passed a key: it is above the last one, and is now the last itself
pub record PassesTo (content : Content) (old new : EntryStream) (key : Key) : Type 0 where
  pub streams : Streams content new
  pub above : IsAbove old.last key
  pub last : new.last ≡ Some key
  pub fewer : steps_left new < steps_left old
  pub same : value_len_of new ≡ value_len_of old

-- if there was a key to pass, it was passed
abbrev pub PassesNext : Content → EntryStream → EntryStream → Option (Key × Bool) → Type 0
PassesNext content old new None = Unit {0}
PassesNext content old new (Some (key, found)) = PassesTo content old new key

-- a stream with another place and last key, and a buffer of the same length
abbrev pub GoesTo : EntryStream → EntryStream → ℕ → Key → Type 0
GoesTo old new place key = (new ≡ record old { place = place; row = new.row; last = Some key }) × (vec_len new.row ≡ vec_len old.row)
