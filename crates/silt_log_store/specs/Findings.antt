-- The findings in the rows of a log.
use Rattle.std.specs.Prelude.{ℕ, ◌+◌, not, List, take, ◌≡◌, Bool, true, [], ◌++◌, flat_map, is_some, ◌↔◌, IsTrue}
use Rattle.std.specs.List.{enumerate_from, list_all}
use Rattle.silt_disk.specs.Layout.{Shape}
use Rattle.silt_frame.specs.Rows.{StoredRow, has_known_kind, keys_of}
use Rattle.silt_event.specs.declared.damage.Finding.{Finding}
use Rattle.silt_event.specs.declared.damage.Finding.TheVariants.{Damaged, Crowded}
use Rattle.silt_event.specs.declared.place.Place.TheVariants.{Log}
use Rattle.silt_cuckoo.specs.Index.{index_of_keys}
use Rattle.silt_log.specs.Parts.{Part}
use Rattle.silt_event.specs.Findings.{finding_if}

-- the keys of the rows of a log, from the oldest on, have places in a table
unfoldable pub fits_table : Shape → List StoredRow → Bool
fits_table shape rows = is_some (index_of_keys shape.buckets (keys_of rows))

-- the findings at a row of a log: an unknown kind, and then no place in the table of the rows before it
abbrev pub row_findings : Shape → Part → ℕ × StoredRow → List Finding
row_findings shape part (place, row) =
    finding_if (not (has_known_kind row)) (Damaged (Log part.region place))
    ++ finding_if (not (fits_table shape (take (place + 1) part.rows))) Crowded

-- a log, row by row
unfoldable pub log_findings : Shape → Part → List Finding
log_findings shape part = flat_map (row_findings shape part) (enumerate_from 0 part.rows)

-- there is no finding in a log exactly if its kinds are known and its keys have places
abbrev pub LogSoundLaw : Type 0
LogSoundLaw = (shape : Shape) (part : Part) → (log_findings shape part ≡ []) ↔ ((list_all has_known_kind part.rows ≡ true) × IsTrue (fits_table shape part.rows))
