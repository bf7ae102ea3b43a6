-- Parts of a region that were read together.
use Rattle.std.specs.Prelude.{◌≡◌, ℕ, zero, suc, ◌+◌, ◌*◌, ◌<◌, Bool, true, false, List, [], ◌∷◌, drop, slice_range}
use Rattle.silt_disk.specs.Layout.{Shape}
use Rattle.silt_frame.specs.Rows.{StoredRow, row_of}
use Rattle.silt_hash_store.specs.Slots.{slot_row}
use Rattle.silt_sorted_store.specs.OnlyRow.{HasEntry}

-- the greatest length of one read, in bytes
abbrev pub read_len : ℕ
read_len = 65536

-- a piece of a region: the length of each of its parts, and the bytes of each part that is not skipped
pub record PieceState : Type 0 where
  pub len : ℕ
  pub parts : List (List ℕ)

-- this many parts of `len` bytes, from the part of this number on
abbrev pub parts_from : List ℕ → ℕ → ℕ → ℕ → List (List ℕ)
parts_from bytes len at zero = []
parts_from bytes len at (suc count) = slice_range bytes (at * len) (at * len + len) ∷ parts_from bytes len (at + 1) count

-- the parts after the first, if that is skipped, or all
abbrev pub parts_after : Bool → List (List ℕ) → List (List ℕ)
parts_after true parts = drop 1 parts
parts_after false parts = parts

-- these parts encode the entries from a place on
abbrev pub AreEntries : List StoredRow → ℕ → List (List ℕ) → Type 0
AreEntries entries place [] = Unit {0}
AreEntries entries place (part ∷ parts) = HasEntry entries place part × AreEntries entries (place + 1) parts

-- these parts encode the rows in the slots of a hash region, from a slot on
abbrev pub AreSlots : Shape → ℕ → List ℕ → ℕ → List (List ℕ) → Type 0
AreSlots shape region image slot [] = Unit {0}
AreSlots shape region image slot (part ∷ parts) =
    ((slot < 4 * shape.buckets) × (slot_row shape region image slot ≡ row_of part)) × AreSlots shape region image (slot + 1) parts
