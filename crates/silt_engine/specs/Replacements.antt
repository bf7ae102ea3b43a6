-- Stores with a hash store in place of the oldest log, or with the entries of a merge in place of what was merged.
use Rattle.std.specs.Prelude.{◌≡◌, ℕ, ◌+◌, ◌-◌, List, [], ◌∷◌, ◌++◌, length, map, take}
use Rattle.silt_cuckoo.specs.Slots.{Slots}
use Rattle.silt_image.specs.Meaning.{IsSound, charge_of, rows_of}
use Rattle.silt_event.specs.Rows.{map_of_rows}
use Rattle.silt_log.specs.Parts.{known_rows, Part, oldest_first}
use Rattle.silt_frame.specs.Rows.{put_count, StoredRow}
use Rattle.silt_image.specs.Stores.{Stores}
use Rattle.silt_manifest.specs.declared.body.Body.{Body}
use Rattle.silt_conversion.specs.Conversion.{converted_rows}
use Rattle.silt_merge.specs.Merging.{IsMergeOf}
use Rattle.silt_conversion.specs.Laws.{IsTableOf}

-- ---- a conversion that is finished

-- the stores under a body that names this hash store in front of the others, and no longer the oldest log
unfoldable pub with_converted : Body → Part → Stores → Stores
with_converted body part s = record s { body = body; logs = take (length s.logs - 1) s.logs; hashes = part ∷ s.hashes }

-- the oldest log of the stores has these rows
pub record HasOldest (rows : List StoredRow) (s : Stores) : Type 0 where
  pub newer : List Part
  pub region : ℕ
  pub logs : s.logs ≡ newer ++ record { region = region; rows = rows } ∷ []

-- stores with this hash store in place of a log of these rows represent the same map, also with further rows, are sound, and have the puts
-- of the hash store in place of the log's
pub record ReplacesLog (rows : List StoredRow) (part : Part) (old new : Stores) : Type 0 where
  pub map : map_of_rows (rows_of new) ≡ map_of_rows (rows_of old)
  pub behind : (more : List StoredRow) → map_of_rows (rows_of new ++ more) ≡ map_of_rows (rows_of old ++ more)
  pub sound : IsSound new
  pub charge : charge_of new + put_count rows ≡ charge_of old + put_count (known_rows part)

-- the rows that are due may be in a hash store in place of the oldest log
abbrev pub ConvertsLaw : Type 0
ConvertsLaw =
    (s : Stores) (body : Body) (rows : List StoredRow) (table : Slots) (region : ℕ) → HasOldest rows s → IsTableOf s.shape rows table → IsSound s
    → ReplacesLog rows (record { region = region; rows = converted_rows s.shape table rows }) s
    (with_converted body (record { region = region; rows = converted_rows s.shape table rows }) s)

-- ---- a merge that is finished

-- the rows that a merge takes of stores whose last hash stores are these, the oldest first
abbrev pub taken_rows : List Part → Stores → List StoredRow
taken_rows taken s = s.entries ++ oldest_first (map known_rows taken)

-- the stores under a body that names these newer hash stores alone, and these entries
unfoldable pub with_merged : Body → List Part → List StoredRow → Stores → Stores
with_merged body newer entries s = record s { body = body; hashes = newer; entries = entries }

-- stores with these entries in place of these rows represent the same map, also with further rows, are sound, and have the entries as puts
-- in place of the rows' puts
pub record ReplacesStores (rows entries : List StoredRow) (old new : Stores) : Type 0 where
  pub map : map_of_rows (rows_of new) ≡ map_of_rows (rows_of old)
  pub behind : (more : List StoredRow) → map_of_rows (rows_of new ++ more) ≡ map_of_rows (rows_of old ++ more)
  pub sound : IsSound new
  pub charge : charge_of new + put_count rows ≡ charge_of old + length entries

-- a merge of the entries and the oldest hash stores may replace them as the entries
abbrev pub MergesLaw : Type 0
MergesLaw =
    (s : Stores) (body : Body) (newer taken : List Part) (entries : List StoredRow) → s.hashes ≡ newer ++ taken → IsSound s → IsMergeOf (taken_rows taken s) entries
    → ReplacesStores (taken_rows taken s) entries s (with_merged body newer entries s)
