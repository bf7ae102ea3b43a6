-- The rows that a scan reads.
use Rattle.silt_log.proofs.Common.{cond, ◌≡◌, ℕ, ◌+◌, ◌*◌, ◌≤◌, ◌<◌, true, false, List, [], ◌∷◌, ◌++◌, length, map, slice_range, Some, Result, Ok, Err, refl, sym, ap, ◌∙◌, subst, arith}
use Rattle.silt_log.proofs.Common.{range_with_len, cases_Bool, cond-true, cond-false, eqb-true, false≢true, map-range_with_len_more, length-map-range_with_len, length-between, get_or-between}
use Rattle.silt_log.proofs.Common.{kind_byte, kind_of, head_of, Key, Kind, Row, ScanError, IsScanRefused, AreRows, FirstUnknown, body_row, has_known_kind, StoredRow, below_more, is_some}
use Rattle.silt_log.proofs.Common.{option_map, is_ok, OnOk, map_push, map-id, length_push, IsRow}
use Rattle.silt_log.specs.declared.scan.ScanError.TheVariants.{Damaged}
use Rattle.silt_log.proofs.Parts.{slice_of_slice, drop_front}

-- one more number
range_more : (n : ℕ) → range_with_len 0 (n + 1) ≡ range_with_len 0 n ++ n ∷ []
range_more n = sym (map-id (range_with_len 0 (n + 1))) ∙ map-range_with_len_more (λ k. k) 0 n n (omega arith) ∙ ap (λ (l : List ℕ). l ++ n ∷ []) (map-id (range_with_len 0 n))

-- no rows
pub rows_none : AreRows [] []
rows_none = record { kinds = refl; keys = refl; places = refl }

-- one more row
pub rows_push : (rows : List Row) (stored : List StoredRow) (row : Row) (next : StoredRow) → AreRows rows stored → IsRow (length stored) next row → AreRows (rows ++ row ∷ []) (stored ++ next ∷ [])
rows_push rows stored row next are is = search (arith, map_push, range_more, length_push)

-- one more of the rows in the bodies
pub rows_more : (rows : List Row) (stored : ℕ → StoredRow) (row : Row) (n : ℕ) → AreRows rows (map stored (range_with_len 0 n))
    → IsRow n (stored n) row → AreRows (rows ++ row ∷ []) (map stored (range_with_len 0 (n + 1)))
rows_more rows stored row n are is =
    let numbered : IsRow (length (map stored (range_with_len 0 n))) (stored n) row = subst (λ k. IsRow k (stored n) row) (sym (length-map-range_with_len stored 0 n)) is in
    subst (AreRows (rows ++ row ∷ [])) (sym (map-range_with_len_more stored 0 n n (omega arith))) (rows_push rows (map stored (range_with_len 0 n)) row (stored n) are numbered)

-- so far all kinds were known
pub known_more : (stored : ℕ → StoredRow) (n : ℕ) → ((earlier : ℕ) → earlier < n → has_known_kind (stored earlier) ≡ true)
    → has_known_kind (stored n) ≡ true → (earlier : ℕ) → earlier < n + 1 → has_known_kind (stored earlier) ≡ true
known_more stored n known here = below_more _ _ known here

-- what a result promises if it is Ok
pub on_ok_at : {T E P : Type 0} (r : Result T E) → is_ok r ≡ true → OnOk r P → P
on_ok_at (Ok x) is holds = holds
on_ok_at (Err e) is holds = absurd (false≢true is)

-- a kind that was read, by the two tests
kind_by_tests : (byte : ℕ) (kind : Kind) (key rest : Key) → option_map {U = Kind × Key} (λ (k : Kind). (k, rest)) (kind_of byte) ≡ Some (kind, key)
    → (is_some (kind_of byte) ≡ true) × (kind_byte kind ≡ byte) × (rest ≡ key)
kind_by_tests byte kind key rest read = search (arith, cases_Bool, eqb-true, cond-true, cond-false)

-- a row whose head was read
pub row_read : (bodies len place : ℕ) (shown head : List ℕ) (kind : Kind) (key : Key) → bodies + place * len + len ≤ length shown
    → 21 ≤ len → head ≡ slice_range shown (bodies + place * len) (bodies + place * len + 21) → head_of head ≡ Some (kind, key)
    → IsRow place (body_row bodies len shown place) (record { kind = kind; key = key; place = place })
row_read bodies len place shown head kind key fits long read says =
    let at : ℕ = bodies + place * len in
    let body : List ℕ = slice_range shown at (at + len) in
    let front : head ≡ slice_range body 0 21 = read ∙ ap (λ n. slice_range shown n (n + 21)) (omega arith) ∙ slice_of_slice shown at len 0 21 long fits in
    search (arith, kind_by_tests, length-between, get_or-between, drop_front)

-- a weaker refusal for a damaged row
pub refused_weaker : {F : Type 0} (strong weak : ℕ → Type 0) (was_given : F → Type 0) (error : ScanError F) → ((place : ℕ) → strong place → weak place)
    → IsScanRefused strong was_given error → IsScanRefused weak was_given error
refused_weaker strong weak was_given (Damaged place) step refused = step place refused
refused_weaker strong weak was_given error step refused = refused

-- the first row of an unknown kind, if all before it are of known kinds
pub unknown_here : (stored : ℕ → StoredRow) (count place here : ℕ) → place < count → here ≡ place → has_known_kind (stored place) ≡ false
    → ((earlier : ℕ) → earlier < place → has_known_kind (stored earlier) ≡ true) → FirstUnknown stored count here
unknown_here stored count place here below same unknown known = search arith

-- a refusal at this row, if all before it are of known kinds
pub refused_here : {F : Type 0} (honest : Type 0) (stored : ℕ → StoredRow) (count place : ℕ) (was_given : F → Type 0) (error : ScanError F)
    → place < count → (honest → (earlier : ℕ) → earlier < place → has_known_kind (stored earlier) ≡ true)
    → IsScanRefused (λ damaged. (damaged ≡ place) × (honest → has_known_kind (stored place) ≡ false)) was_given error
    → IsScanRefused (λ damaged. honest → FirstUnknown stored count damaged) was_given error
refused_here honest stored count place was_given error below known refused = search (arith, refused_weaker, unknown_here)

-- a list after a push that returned Ok
pub pushed_ok : {X T E : Type 0} (answer : Result T E) (was now : List X) (x : X) → is_ok answer ≡ true → now ≡ cond (is_ok answer) (was ++ x ∷ []) was → now ≡ was ++ x ∷ []
pushed_ok answer was now x ok pushed = pushed ∙ ap (λ b. cond b (was ++ x ∷ []) was) ok
