-- The rows of a log and their keys, by their numbers.
use Rattle.silt_log_store.proofs.Common.{◌≡◌, ℕ, ◌+◌, ◌<◌, ◌≤◌, Bool, true, List, [], ◌∷◌, ◌++◌, length, map, take, get_or, slice_get, Some, inl, inr, refl, sym, ap, ◌∙◌, arith, range_with_len}
use Rattle.silt_log_store.proofs.Common.{list_all, cases_Bool, false≢true, get_or-map, length-map, map_push, list_all_at, list_all-append, slice_get-get_or, get_or_from_slice_get}
use Rattle.silt_log_store.proofs.Common.{slice_get_within, Content, Shape, kind_of, Kind, has_known_kind, StoredRow, keys_of, put_count, puts_of, LogState, all_rows, all_count, row_of_all}
use Rattle.std.proofs.lemmas.List.Sums.{sum_by-append}
use Rattle.std.proofs.lemmas.List.FromFn.{map-range_with_len_more, take-map-range_with_len, length-map-range_with_len, get_or-map-range_with_len}
use Rattle.silt_log.specs.Rows.{row_at, rows_from, first_rows}

-- a row and its key
pub key_of_row : (rows : List StoredRow) (place : ℕ) (row : StoredRow) → slice_get rows place ≡ Some row → get_or (keys_of rows) place [] ≡ row.key
key_of_row rows place row is =
    get_or-map (λ (r : StoredRow). r.key) rows place row [] (slice_get_within rows place row is) ∙ ap (λ (r : StoredRow). r.key) (get_or_from_slice_get rows place row row is)

-- as many keys as rows
pub keys_count : (rows : List StoredRow) → length (keys_of rows) ≡ length rows
keys_count rows = length-map rows (λ (r : StoredRow). r.key)

-- each of the rows is there
pub row_there : (content : Content) (log : LogState) (place : ℕ) → place < log.used → slice_get (all_rows content log) place ≡ Some (row_at log.shape log.region content.shown place)
row_there content log place below =
    let row : StoredRow = row_at log.shape log.region content.shown place in
    slice_get-get_or (all_rows content log) place row (omega (arith, all_count content log)) ∙ ap Some (row_of_all content log place row below)

-- and so is its key
pub key_there : (content : Content) (log : LogState) (place : ℕ) → place < log.used → get_or (keys_of (all_rows content log)) place [] ≡ (row_at log.shape log.region content.shown place).key
key_there content log place below = key_of_row (all_rows content log) place (row_at log.shape log.region content.shown place) (row_there content log place below)

-- if all pass, each does
pub passes_at : {X : Type 0} (p : X → Bool) (xs : List X) (place : ℕ) (x : X) → list_all p xs ≡ true → slice_get xs place ≡ Some x → p x ≡ true
passes_at p xs place x all is =
    let here : get_or xs place x ≡ x = get_or_from_slice_get xs place x x is in
    elim (cases_Bool (p x)) [
      | inl passes ↦ passes
      | inr fails ↦ absurd (false≢true (sym (list_all_at p xs place x (slice_get_within xs place x is) (ap p here ∙ fails)) ∙ all))
    ]

-- the row of this number is of a known kind
pub known_there : (content : Content) (log : LogState) (place : ℕ) → list_all has_known_kind (all_rows content log) ≡ true
    → place < log.used → has_known_kind (row_at log.shape log.region content.shown place) ≡ true
known_there content log place known below = passes_at has_known_kind _ place _ known (row_there content log place below)

-- one row more is of a known kind
pub known_push : (rows : List StoredRow) (row : StoredRow) → list_all has_known_kind rows ≡ true → has_known_kind row ≡ true → list_all has_known_kind (rows ++ row ∷ []) ≡ true
known_push rows row known here = grind (arith, list_all-append)

-- the puts of one row more
pub puts_push : (rows : List StoredRow) (row : StoredRow) (kind : Kind) → kind_of row.kind ≡ Some kind → put_count (rows ++ row ∷ []) ≡ put_count rows + puts_of kind
puts_push rows row kind is = grind (arith, sum_by-append)

-- the keys of one row more
pub keys_push : (rows : List StoredRow) (row : StoredRow) → keys_of (rows ++ row ∷ []) ≡ keys_of rows ++ row.key ∷ []
keys_push rows row = map_push (λ (r : StoredRow). r.key) rows row

-- ---- the first rows of a region

-- one more
pub rows_more : (shape : Shape) (region : ℕ) (image : List ℕ) (n : ℕ) → first_rows shape region image (n + 1) ≡ first_rows shape region image n ++ row_at shape region image n ∷ []
unfolding rows_from
rows_more shape region image n = map-range_with_len_more (row_at shape region image) 0 n n (omega arith)

-- fewer
pub rows_taken : (shape : Shape) (region : ℕ) (image : List ℕ) (n k : ℕ) → k ≤ n → take k (first_rows shape region image n) ≡ first_rows shape region image k
unfolding rows_from
rows_taken shape region image n k most = take-map-range_with_len (row_at shape region image) 0 n k most

-- as many as are asked for
pub rows_count : (shape : Shape) (region : ℕ) (image : List ℕ) (n : ℕ) → length (first_rows shape region image n) ≡ n
unfolding rows_from
rows_count shape region image n = length-map-range_with_len (row_at shape region image) 0 n

-- each is the row in its body
pub rows_at : (shape : Shape) (region : ℕ) (image : List ℕ) (n place : ℕ) → place < n → slice_get (first_rows shape region image n) place ≡ Some (row_at shape region image place)
unfolding rows_from
rows_at shape region image n place below =
    let row : StoredRow = row_at shape region image place in
    slice_get-get_or (map (row_at shape region image) (range_with_len 0 n)) place row (omega (arith, length-map-range_with_len (row_at shape region image) 0 n))
    ∙ ap Some (get_or-map-range_with_len (row_at shape region image) 0 n place place row below (omega arith))

-- no rows
pub rows_none : (shape : Shape) (region : ℕ) (image : List ℕ) → first_rows shape region image 0 ≡ []
unfolding rows_from
rows_none shape region image = refl
