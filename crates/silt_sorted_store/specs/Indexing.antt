-- Keys of entries that are being indexed.
use Rattle.std.specs.Prelude.{◌≡◌, ℕ, ◌+◌, ◌-◌, ◌*◌, ◌<◌, List, [], get_or, slice_range, take, Option, Some, None}
use Rattle.silt_frame.specs.Rows.{StoredRow, keys_of}
use Rattle.silt_frame.specs.declared.key.Key.{Key}
use Rattle.silt_sorted_store.specs.Findings.{entry_findings}
use Rattle.silt_sorted_store.specs.OnlyRow.{HasEntry}
use Rattle.silt_sorted_store.specs.Rebuild.{IsFirstOutOfOrder}
use Rattle.silt_trie.specs.Building.{Building, IsBuildingOf}
use Rattle.silt_frame.specs.Frame.{key_len}

-- this many rows from a place on have the keys in these bytes: each key begins one of the parts of `len` bytes
abbrev pub HoldsKeys : List StoredRow → ℕ → ℕ → ℕ → List ℕ → Type 0
HoldsKeys rows place count len bytes = (i : ℕ) → i < count → get_or (keys_of rows) (place + i) [] ≡ slice_range bytes (i * len) (i * len + key_len)

-- these bytes encode this many rows from a place on, one after the other, `len` bytes each
abbrev pub HoldsEntries : List StoredRow → ℕ → ℕ → ℕ → List ℕ → Type 0
HoldsEntries rows place count len bytes = (i : ℕ) → i < count → HasEntry rows (place + i) (slice_range bytes (i * len) (i * len + len))

-- this is the key of the row before a place; there is none before the first
abbrev pub IsKeyBefore : List StoredRow → ℕ → Option Key → Type 0
IsKeyBefore rows place None = place ≡ 0
IsKeyBefore rows place (Some key) = (0 < place) × (get_or (keys_of rows) (place - 1) [] ≡ key.0)

-- a builder has no keys
pub record IsEmptyBuilding (builder : Building) : Type 0 where
  pub built : IsBuildingOf [] builder
  pub last : builder.last ≡ None
  pub counted : builder.count ≡ 0

-- a builder has the keys of the rows before a place, and there is no finding in these
pub record IsIndexing (rows : List StoredRow) (place : ℕ) (builder : Building) : Type 0 where
  pub built : IsBuildingOf (take place (keys_of rows)) builder
  pub last : IsKeyBefore rows place builder.last
  pub fine : (earlier : ℕ) → 0 < earlier → earlier < place → entry_findings rows earlier ≡ []

-- a builder has taken the keys of all rows before a place, or has found the first that is out of order
abbrev pub TakesKeys : List StoredRow → ℕ → Building → Option ℕ → Type 0
TakesKeys rows place builder None = IsIndexing rows place builder
TakesKeys rows place builder (Some damaged) = IsFirstOutOfOrder rows damaged
