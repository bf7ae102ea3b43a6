-- The result of a look-up.
use Rattle.std.specs.Prelude.{◌≡◌, ℕ, ◌+◌, ◌*◌, ◌≤◌, ◌<◌, true, false, List, slice_get, Option, Some, None}
use Rattle.silt_disk.specs.Layout.{Shape}
use Rattle.silt_frame.specs.Frame.{kind_byte}
use Rattle.silt_frame.specs.declared.key.Kind.{Kind}
use Rattle.silt_frame.specs.declared.key.Row.{Row}
use Rattle.silt_hash_store.specs.Findings.{holds_key}
use Rattle.silt_log.specs.Rows.{IsRow}
use Rattle.silt_frame.specs.Rows.{has_known_kind, StoredRow}
use Rattle.silt_log.specs.declared.found.Found.{Found}
use Rattle.silt_hash_store.specs.Slots.{is_row_of, slot_row, slot_tag}

-- the result is a row of this key, as its kind and its number, or none if no row of a known kind has the key
abbrev pub FindsRow : List StoredRow → List ℕ → Option Found → Type 0
FindsRow rows key None = holds_key key rows ≡ false
FindsRow rows key (Some found) = (row : StoredRow) × (slice_get rows found.place ≡ Some row) × (row.key ≡ key) × (kind_byte found.kind ≡ row.kind)

-- the kind of a row, if the row has this key
abbrev pub MatchesKey : StoredRow → List ℕ → Option Kind → Type 0
MatchesKey row key None = is_row_of key row ≡ false
MatchesKey row key (Some kind) = (is_row_of key row ≡ true) × (kind_byte kind ≡ row.kind)

-- the kind of the row in a slot, if the slot has the tag and its row the key
abbrev pub MatchesTag : Option ℕ → ℕ → StoredRow → List ℕ → Option Kind → Type 0
MatchesTag at tag row key None = at ≡ Some tag → is_row_of key row ≡ false
MatchesTag at tag row key (Some kind) = (at ≡ Some tag) × (is_row_of key row ≡ true) × (kind_byte kind ≡ row.kind)

-- the result is a row of the key among the slots of a bucket with this tag, or none if none of them has the key
abbrev pub FindsIn : Shape → ℕ → List (Option ℕ) → List ℕ → ℕ → ℕ → List ℕ → Option Found → Type 0
FindsIn shape region tags image bucket tag key None =
    (slot : ℕ) → 4 * bucket ≤ slot → slot < 4 * bucket + 4 → slot_tag tags slot ≡ Some tag → is_row_of key (slot_row shape region image slot) ≡ false
FindsIn shape region tags image bucket tag key (Some found) = MatchesTag (slot_tag tags found.place) tag (slot_row shape region image found.place) key (Some found.kind)

-- the kind, the key and the number of the row in a slot; none if its kind is unknown
abbrev pub IsRowAt : StoredRow → ℕ → Option Row → Type 0
IsRowAt stored slot None = has_known_kind stored ≡ false
IsRowAt stored slot (Some row) = IsRow slot stored row
