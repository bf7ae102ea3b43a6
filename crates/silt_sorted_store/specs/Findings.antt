-- The findings in the entries of a sorted region.
use Rattle.std.specs.Prelude.{ℕ, not, List, length, ◌-◌, Bool, [], flat_map, get_or}
use Rattle.std.specs.List.{range_with_len}
use Rattle.silt_frame.specs.Rows.{StoredRow, keys_of}
use Rattle.silt_event.specs.declared.damage.Finding.{Finding}
use Rattle.silt_event.specs.declared.damage.Finding.TheVariants.{Damaged}
use Rattle.silt_event.specs.declared.place.Place.TheVariants.{Sorted}
use Rattle.std.specs.Cmp.Lexicographic.{slice_cmp}
use Rattle.std.specs.Ordering.{nat_cmp, is_lt}
use Rattle.silt_event.specs.Findings.{finding_if}

-- a key is less than another, bytewise
abbrev pub is_key_below : List ℕ → List ℕ → Bool
is_key_below low high = is_lt (slice_cmp nat_cmp low high)

-- the finding at an entry that is not greater than the one before it
abbrev pub entry_findings : List StoredRow → ℕ → List Finding
entry_findings rows place =
    finding_if (not (is_key_below (get_or (keys_of rows) (place - 1) []) (get_or (keys_of rows) place []))) (Damaged (Sorted place))

-- the findings in the sorted store, from its second entry on
unfoldable pub sorted_findings : List StoredRow → List Finding
sorted_findings rows = flat_map (entry_findings rows) (range_with_len 1 (length rows - 1))
