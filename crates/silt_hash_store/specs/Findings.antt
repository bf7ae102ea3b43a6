-- The findings in the slots of a hash region.
use Rattle.std.specs.Prelude.{ℕ, ◌==◌, ◌&&◌, not, List, take, ◌/◌, Bool, ◌||◌, flat_map}
use Rattle.std.specs.List.{enumerate_from, list_any}
use Rattle.silt_disk.specs.Layout.{Shape}
use Rattle.silt_frame.specs.Rows.{StoredRow, has_known_kind}
use Rattle.silt_event.specs.declared.damage.Finding.{Finding}
use Rattle.silt_event.specs.declared.damage.Finding.TheVariants.{Damaged}
use Rattle.silt_event.specs.declared.place.Place.TheVariants.{Hash}
use Rattle.std.specs.Str.{bytes_eq}
use Rattle.silt_cuckoo.specs.Keys.{first_bucket, second_bucket}
use Rattle.silt_log.specs.Parts.{Part}
use Rattle.silt_event.specs.Findings.{finding_if}

-- a slot of a table lies in one of the two buckets of a key
abbrev pub is_in_bucket : Shape → ℕ → List ℕ → Bool
is_in_bucket shape slot key = (slot / 4 == first_bucket shape.buckets key) || (slot / 4 == second_bucket shape.buckets key)

-- one of these rows is of a known kind and has the key
abbrev pub holds_key : List ℕ → List StoredRow → Bool
holds_key key rows = list_any (λ row. has_known_kind row && bytes_eq row.key key) rows

-- a good slot of a hash region is empty, or has a row of a known kind in one of its key's buckets whose key no earlier slot has
abbrev pub is_sound_hash_slot : Shape → List StoredRow → ℕ → StoredRow → Bool
is_sound_hash_slot shape rows slot row =
    (row.kind == 0) || (has_known_kind row && is_in_bucket shape slot row.key && not (holds_key row.key (take slot rows)))

-- the finding at a slot of a hash store, with the slot's number
abbrev pub slot_findings : Shape → Part → ℕ × StoredRow → List Finding
slot_findings shape part (slot, row) = finding_if (not (is_sound_hash_slot shape part.rows slot row)) (Damaged (Hash part.region slot))

-- the findings in a hash store, slot by slot
unfoldable pub hash_findings : Shape → Part → List Finding
hash_findings shape part = flat_map (slot_findings shape part) (enumerate_from 0 part.rows)
