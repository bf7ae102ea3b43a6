-- What a rebuild returns for entries.
use Rattle.std.specs.Prelude.{◌≡◌, ℕ, ⊤, List, slice_get, Some}
use Rattle.silt_frame.specs.Rows.{StoredRow}
use Rattle.silt_sorted_store.specs.Findings.{sorted_findings}
use Rattle.silt_event.specs.declared.damage.Finding.TheVariants as finding
use Rattle.silt_event.specs.declared.place.Place.TheVariants.{Sorted}

-- the first finding in the entries is that this one is not greater than the one before it
abbrev pub IsFirstOutOfOrder : List StoredRow → ℕ → Type 0
IsFirstOutOfOrder rows place = slice_get (sorted_findings rows) 0 ≡ Some (finding.Damaged (Sorted place))
