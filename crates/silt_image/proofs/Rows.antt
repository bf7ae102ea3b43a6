-- The rows of stores, and their map.
use Rattle.silt_image.proofs.Common.{◌==◌, Bool, true, false, if◌then◌else◌, sym, ap, ◌∙◌, append_assoc, append-nil, list_any, or_parts, eq-eqb, StoredRow, Part, known_rows, oldest_first}
use Rattle.silt_image.proofs.Common.{part_rows, Stores, ◌≡◌, ℕ, List, [], ◌∷◌, ◌++◌, map, refl, arith, cases_Bool}
use Rattle.silt_image.specs.Meaning.{with_part_rows, HasActive, rows_of, with_log_rows, with_new_log}
use Rattle.silt_image.specs.Laws.{AgainLaw, AppendLaw, NewActiveLaw, NewLogLaw, OwnRowsLaw, UnnamedLaw}

-- ---- the logs

-- a log of this region takes the rows
pub takes_rows : (region : ℕ) (rows : List StoredRow) (part : Part) → (part.region == region) ≡ true → with_part_rows region rows part ≡ record part { rows = rows }
takes_rows region rows part is = ap (λ (b : Bool). if b then record part { rows = rows } else part) is

-- a log of another region stays
pub keeps_rows : (region : ℕ) (rows : List StoredRow) (part : Part) → (part.region == region) ≡ false → with_part_rows region rows part ≡ part
keeps_rows region rows part other = ap (λ (b : Bool). if b then record part { rows = rows } else part) other

-- logs of other regions stay
pub others_keep : (region : ℕ) (rows : List StoredRow) (parts : List Part) → list_any (λ (part : Part). part.region == region) parts ≡ false → map (with_part_rows region rows) parts ≡ parts
others_keep region rows [] none = refl
others_keep region rows (part ∷ parts) none = search (arith, others_keep region rows parts, or_parts, keeps_rows)

-- rows of a log that is not named do not count
pub unnamed_law : UnnamedLaw
unfolding with_log_rows
unnamed_law s region rows none = ap (λ (ps : List Part). record s { logs = ps }) (others_keep region rows s.logs none)

-- the logs with other rows of the active one
pub active_logs : (s : Stores) (rows other : List StoredRow) → (has : HasActive rows s) → map (with_part_rows s.body.active other) s.logs ≡ record { region = s.body.active; rows = other } ∷ has.frozen
active_logs s rows other has = search (arith, takes_rows, eq-eqb, others_keep)

-- a log with its own rows is as it was
pub own_rows_law : OwnRowsLaw
unfolding with_log_rows
own_rows_law s rows has = ap (λ (ps : List Part). record s { logs = ps }) (active_logs s rows rows has ∙ sym has.logs)

-- one log, twice with other rows
again_part : (region : ℕ) (rows other : List StoredRow) (part : Part) → with_part_rows region other (with_part_rows region rows part) ≡ with_part_rows region other part
again_part region rows other part = search (arith, cases_Bool, takes_rows, keeps_rows)

again_parts : (region : ℕ) (rows other : List StoredRow) (parts : List Part) → map (with_part_rows region other) (map (with_part_rows region rows) parts) ≡ map (with_part_rows region other) parts
again_parts region rows other [] = refl
again_parts region rows other (part ∷ parts) = search (arith, again_parts region rows other parts, again_part)

-- of the rows in place of a log's own the last ones count
pub again_law : AgainLaw
unfolding with_log_rows
again_law s region rows other = ap (λ (ps : List Part). record s { logs = ps }) (again_parts region rows other s.logs)

-- a new log in a region that no log has is the active one
pub new_active_law : NewActiveLaw
unfolding with_new_log
new_active_law s next none = record { frozen = s.logs; logs = refl; apart = none }

-- ---- all rows

-- rows at the end of the active log are the last of all rows
pub append_law : AppendLaw
unfolding rows_of with_log_rows
append_law s rows more has =
    let older : List StoredRow = s.entries ++ oldest_first (map known_rows s.hashes) in
    let frozen : List StoredRow = oldest_first (map part_rows has.frozen) in
    cc (active_logs s rows (rows ++ more) has, append_assoc frozen rows more, append_assoc older (frozen ++ rows) more, has.logs)

-- a new log has no rows
pub new_log_law : NewLogLaw
unfolding rows_of with_new_log
new_log_law s next = ap (λ (l : List StoredRow). s.entries ++ oldest_first (map known_rows s.hashes) ++ l) (append-nil (oldest_first (map part_rows s.logs)))
