-- Entries that were read ahead.
use Rattle.std.specs.Prelude.{◌≡◌, ℕ, ◌+◌, ◌*◌, ◌-◌, ◌<◌, ◌≤◌, IsTrue, List, [], get_or, slice_range, Option, vec_len}
use Rattle.silt_disk.specs.Disk.{Content}
use Rattle.silt_disk.specs.Layout.{entry_len}
use Rattle.silt_frame.specs.Rows.{StoredRow, keys_of}
use Rattle.silt_frame.specs.declared.key.Key.{Key}
use Rattle.silt_recovery.specs.declared.fault.OpenError.{OpenError}
use Rattle.silt_recovery.specs.declared.fault.OpenError.TheVariants.{Device}
use Rattle.silt_sorted_store.specs.Indexing.{HoldsEntries}
use Rattle.silt_sorted_store.specs.State.{SortedState, entries_of}
use Rattle.silt_dump.specs.Order.{IsAbove}
use Rattle.silt_dump.specs.declared.piece.Piece.{Piece}

-- the key of the entry at a place
abbrev pub key_at : List StoredRow → ℕ → Key
key_at rows place = record { 0 = get_or (keys_of rows) place [] }

-- a piece of these entries, with room for at least one if there are any
pub record IsPieceOf (entries : SortedState) (piece : Piece) : Type 0 where
  pub some : 0 < entries.count → 0 < piece.most
  pub room : vec_len piece.bytes ≡ piece.most * entry_len entries.shape
  pub most : piece.count ≤ piece.most
  pub within : piece.first + piece.count ≤ entries.count

-- a piece of these entries that has the one at this place, or ends before it
pub record IsAtPlace (entries : SortedState) (piece : Piece) (place : ℕ) : Type 0 where
  pub fits : IsPieceOf entries piece
  pub from : piece.first ≤ place
  pub to : place ≤ piece.first + piece.count

-- the bytes of the entry at a place, each `len` bytes long
abbrev pub bytes_at : ℕ → Piece → ℕ → List ℕ
bytes_at len piece place = slice_range piece.bytes.items ((place - piece.first) * len) ((place - piece.first) * len + len)

-- the bytes of a piece encode its entries
abbrev pub HoldsPiece : Content → SortedState → Piece → Type 0
HoldsPiece content entries piece = HoldsEntries (entries_of content entries) piece.first piece.count (entry_len entries.shape) piece.bytes.items

-- the disk obeys the crash model, a piece has its entries, and the key at this place, if there is an entry, is above the last one
pub record CanGoOn (content : Content) (entries : SortedState) (piece : Piece) (place : ℕ) (last : Option Key) : Type 0 where
  pub honest : IsTrue content.honest
  pub holds : HoldsPiece content entries piece
  pub above : place < entries.count → IsAbove last (key_at (entries_of content entries) place)

-- Why a stream ends early: a read failed. There is another reason only if not all is as this says.
abbrev pub EndsEarly : {F : Type 0} → Type 0 → (F → Type 0) → OpenError F → Type 0
EndsEarly IsWell WasGiven (Device fault) = WasGiven fault
EndsEarly IsWell WasGiven error = IsWell → ⊥
