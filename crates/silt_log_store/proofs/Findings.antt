-- When there is no finding in a log.
use Rattle.silt_log_store.proofs.Common.{◌≡◌, ℕ, ◌+◌, ◌<◌, true, List, [], ◌∷◌, ◌++◌, length, take, drop, flat_map, refl, sym, ap, ◌∙◌, arith, take-append-drop, list_all, enumerate_from}
use Rattle.silt_log_store.proofs.Common.{and_parts, and_from, map-append, take_all, list_all-append, Shape, has_known_kind, StoredRow, indexed_append, stays_none}
use Rattle.silt_cuckoo.specs.Index.{indexed}
use Rattle.silt_log.specs.Parts.{Part}
use Rattle.silt_log_store.specs.Findings.{fits_table, log_findings, row_findings, LogSoundLaw}
use Rattle.silt_event.proofs.Findings.{nothing_first, nothing_second, nothing_both, passes_where_nothing, nothing_where_passes}

-- ---- tables

-- and so with rows
pub fits_front : (shape : Shape) (rows more : List StoredRow) → fits_table shape (rows ++ more) ≡ true → fits_table shape rows ≡ true
unfolding fits_table
fits_front shape rows more fits = grind (arith, indexed_append, stays_none, map-append)

pub fits_take : (shape : Shape) (rows : List StoredRow) (n : ℕ) → fits_table shape rows ≡ true → fits_table shape (take n rows) ≡ true
fits_take shape rows n fits = fits_front shape (take n rows) (drop n rows) (ap (fits_table shape) (take-append-drop n rows) ∙ fits)

-- no keys have places
pub fits_none : (shape : Shape) → fits_table shape [] ≡ true
unfolding fits_table indexed
fits_none shape = refl

-- ---- one log

-- rows of known kinds from a place on, with places in the table, give no finding
nothing_from : (shape : Shape) (part : Part) (k : ℕ) (rows : List StoredRow) → list_all has_known_kind rows ≡ true
    → fits_table shape part.rows ≡ true → flat_map (row_findings shape part) (enumerate_from k rows) ≡ []
nothing_from shape part k [] known fits = refl
nothing_from shape part k (row ∷ rows) known fits = grind (arith, nothing_from shape part (k + 1) rows, and_parts, nothing_both, nothing_where_passes, fits_take)

-- rows that give no finding are of known kinds
known_from : (shape : Shape) (part : Part) (k : ℕ) (rows : List StoredRow) → flat_map (row_findings shape part) (enumerate_from k rows) ≡ [] → list_all has_known_kind rows ≡ true
known_from shape part k [] none = refl
known_from shape part k (row ∷ rows) none = grind (arith, known_from shape part (k + 1) rows, nothing_first, nothing_second, and_from, passes_where_nothing)

-- and the last of them has a place
last_fits : (shape : Shape) (part : Part) (k n : ℕ) (rows : List StoredRow) → flat_map (row_findings shape part) (enumerate_from k rows) ≡ []
    → n ≡ k + length rows → 0 < length rows → fits_table shape (take n part.rows) ≡ true
last_fits shape part k n [] none end some = absurd (omega arith)
last_fits shape part k n (row ∷ []) none end some = grind arith
last_fits shape part k n (row ∷ next ∷ rows) none end some = last_fits shape part (k + 1) n (next ∷ rows) (nothing_second (row_findings shape part (k, row)) _ none) (omega arith) (omega arith)

-- all have places
all_fit : (shape : Shape) (part : Part) → flat_map (row_findings shape part) (enumerate_from 0 part.rows) ≡ [] → fits_table shape part.rows ≡ true
all_fit shape part none = go part.rows refl
  where
    go : (rows : List StoredRow) → part.rows ≡ rows → fits_table shape part.rows ≡ true
    go [] e = ap (fits_table shape) e ∙ fits_none shape
    go (row ∷ rows) e =
        let some : 0 < length part.rows = omega (arith, ap length e) in
        ap (fits_table shape) (sym (take_all (length part.rows) part.rows (omega arith))) ∙ last_fits shape part 0 (length part.rows) part.rows none (omega arith) some

-- there is no finding in a log exactly if its kinds are known and its keys have places
pub log_sound_law : LogSoundLaw
unfolding log_findings
log_sound_law shape part = grind (arith, known_from, all_fit, nothing_from)

-- rows of known kinds whose keys have places
pub record AreFine (shape : Shape) (rows : List StoredRow) : Type 0 where
  pub known : list_all has_known_kind rows ≡ true
  pub fits : fits_table shape rows ≡ true

-- they are the rows of a log without a finding
pub fine_of : (shape : Shape) (part : Part) → log_findings shape part ≡ [] → AreFine shape part.rows
fine_of shape part none = let both = (log_sound_law shape part).0 none in record { known = both.0; fits = both.1 }

pub of_fine : (shape : Shape) (part : Part) → AreFine shape part.rows → log_findings shape part ≡ []
of_fine shape part fine = (log_sound_law shape part).1 (fine.known, fine.fits)

-- the first rows of such a log
pub fine_front : (shape : Shape) (rows more : List StoredRow) → AreFine shape (rows ++ more) → AreFine shape rows
fine_front shape rows more fine = grind (arith, list_all-append, fits_front)
