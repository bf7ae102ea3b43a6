-- The newest rows of keys: how one is looked up, and that they rise.
use Rattle.silt_merge.proofs.Common.{◌≡◌, ℕ, suc, ◌+◌, ◌<◌, ◌≤◌, Bool, true, false, cond, List, [], ◌∷◌, ◌++◌, filter, length, Option, Some, None, inl, inr, refl, sym, ap, ◌∙◌, arith, bytes_eq}
use Rattle.silt_merge.proofs.Common.{Less, Equal, Greater, option_or, slice_cmp, cases_Bool, cond-false, exact_bytes, is_eq-slice_cmp, newest_row, StoredRow, is_put_row, key_at, newest_rows, ◌==◌}
use Rattle.silt_merge.proofs.Common.{find, reverse, rules, is_eq, nat_cmp, ordering_reverse, reverse-append, find-append, sum_by-cons, map_of_rows, put_count, newest_law, not_below_itself}
use Rattle.silt_merge.proofs.Common.{KeyCountLaw, MergedLaw, with_older}
use Rattle.std.specs.Cmp.Lexicographic.{nat_list_cmp_total}
use Rattle.std.specs.FinMap.{same_map, slice_cmp-IsAntisymmetric, nat_cmp-IsAntisymmetric}
use Rattle.std.proofs.lemmas.Slice.Eq.{bytes_eq-Decides}
use Rattle.silt_sorted_store.specs.Findings.{sorted_findings}
use Rattle.silt_sorted_store.proofs.Ranges.{none_of_all}
use Rattle.silt_merge.specs.Rows.{merged_rows}

-- ---- keys

-- keys that compare as equal are equal
pub key_is : (a b : List ℕ) → bytes_eq a b ≡ true → a ≡ b
key_is a b same = (bytes_eq-Decides a b).0 same

-- and the other way round
pub key_itself : (a b : List ℕ) → a ≡ b → bytes_eq a b ≡ true
key_itself a b same = (bytes_eq-Decides a b).1 same

-- a key below another is not it
pub key_below : (a b : List ℕ) → slice_cmp nat_cmp a b ≡ Less → bytes_eq a b ≡ false
key_below a b less = sym (is_eq-slice_cmp a b) ∙ ap is_eq less

-- nor is the other the key
pub key_above : (a b : List ℕ) → slice_cmp nat_cmp a b ≡ Less → bytes_eq b a ≡ false
key_above a b less = elim (cases_Bool (bytes_eq b a)) [
  | inl same ↦ absurd (not_below_itself a b (sym (key_is b a same)) less)
  | inr other ↦ other
]

-- the order of two keys, the other way round
pub turned : (a b : List ℕ) → slice_cmp nat_cmp a b ≡ Greater → slice_cmp nat_cmp b a ≡ Less
turned a b greater = nat_list_cmp_total.antisymm b a ∙ ap ordering_reverse greater

-- ---- the newest row of a key

-- a row, if it has the key
abbrev pub own : StoredRow → List ℕ → Option StoredRow
own row key = cond (bytes_eq row.key key) (Some row) None

-- with one older row
pub newest_cons : (row : StoredRow) (rows : List StoredRow) (key : List ℕ) → newest_row (row ∷ rows) key ≡ option_or (newest_row rows key) (own row key)
newest_cons row rows key = cc (reverse-append (row ∷ []) rows, find-append (λ (r : StoredRow). bytes_eq r.key key) (reverse rows) (row ∷ []))

-- of older rows and newer ones
pub newest_append : (older newer : List StoredRow) (key : List ℕ) → newest_row (older ++ newer) key ≡ option_or (newest_row newer key) (newest_row older key)
newest_append older newer key = cc (reverse-append older newer, find-append (λ (r : StoredRow). bytes_eq r.key key) (reverse newer) (reverse older))

-- the first row of a key
abbrev pub row_with : List ℕ → List StoredRow → Option StoredRow
row_with key rows = find (λ row. bytes_eq row.key key) rows

-- ---- rows that rise

-- the keys of all rows are above a key
abbrev pub Above : List ℕ → List StoredRow → Type 0
Above key [] = Unit {0}
Above key (row ∷ rows) = (slice_cmp nat_cmp key row.key ≡ Less) × Above key rows

-- the keys of rows rise
abbrev pub Rises : List StoredRow → Type 0
Rises [] = Unit {0}
Rises (row ∷ rows) = Above row.key rows × Rises rows

-- above a higher key is above a lower one
pub above_lower : (low high : List ℕ) (rows : List StoredRow) → slice_cmp nat_cmp low high ≡ Less → Above high rows → Above low rows
above_lower low high [] less above = tt
above_lower low high (row ∷ rows) less above = (nat_list_cmp_total.trans low high row.key less above.0, above_lower low high rows less above.1)

-- no row that is above a key has it
pub none_above : (key : List ℕ) (rows : List StoredRow) → Above key rows → row_with key rows ≡ None
none_above key [] above = refl
none_above key (row ∷ rows) above = cond-false _ _ _ (key_above key _ above.0) ∙ none_above key rows above.1

-- ---- a row among rows that rise

-- what holds of rows with an older one holds if it holds with that before the first row, with the first row in its place, and behind it
older_cases : (P : List StoredRow → Type 0) (row first : StoredRow) (rest : List StoredRow) → (slice_cmp nat_cmp row.key first.key ≡ Less → P (row ∷ first ∷ rest))
    → (slice_cmp nat_cmp row.key first.key ≡ Equal → P (first ∷ rest)) → (slice_cmp nat_cmp row.key first.key ≡ Greater → P (first ∷ with_older row rest)) → P (with_older row (first ∷ rest))
older_cases P row first rest less equal greater = search arith

-- is above what both are above
above_older : (low : List ℕ) (row : StoredRow) (rows : List StoredRow) → slice_cmp nat_cmp low row.key ≡ Less → Above low rows → Above low (with_older row rows)
above_older low row [] less above = (less, tt)
above_older low row (first ∷ rest) less above = search (arith, above_older low row rest less above.1)

-- and they rise with it
rises_older : (row : StoredRow) (rows : List StoredRow) → Rises rows → Rises (with_older row rows)
rises_older row [] rises = (tt, tt)
rises_older row (first ∷ rest) rises =
    let further = rises_older row rest rises.1 in
    older_cases Rises row first rest (λ is. ((is, above_lower row.key first.key rest is rises.0), rises)) (λ is. rises)
    (λ is. (above_older first.key row rest (turned row.key first.key is) rises.0, further))

-- nothing behind a choice
pub or_none : {A : Type 0} (o : Option A) → option_or o None ≡ o
or_none None = refl
or_none (Some x) = refl

-- a choice that comes first, or last if there is no other
pub prefer : {A : Type 0} (b : Bool) (x : A) (o : Option A) → (b ≡ true → o ≡ None) → cond b (Some x) o ≡ option_or o (cond b (Some x) None)
prefer true x o none = sym (ap (λ p. option_or p (Some x)) (none refl))
prefer false x o none = sym (or_none o)

-- a choice behind one that comes first
behind_first : {A : Type 0} (b : Bool) (x : A) (new old other : Option A) → new ≡ option_or old other → cond b (Some x) new ≡ option_or (cond b (Some x) old) other
behind_first true x new old other is = refl
behind_first false x new old other is = is

-- the first row has the key of an older one
kept_first : (row first : StoredRow) (rest : List StoredRow) (key : List ℕ) (b : Bool) → bytes_eq row.key key ≡ b → row.key ≡ first.key
    → row_with key (first ∷ rest) ≡ option_or (row_with key (first ∷ rest)) (own row key)
kept_first row first rest key b has same = search arith

-- the row of a key after one older row
find_older : (row : StoredRow) (rows : List StoredRow) → Rises rows → (key : List ℕ) → row_with key (with_older row rows) ≡ option_or (row_with key rows) (own row key)
find_older row [] rises key = refl
find_older row (first ∷ rest) rises key =
    let further = find_older row rest rises.1 key in
    older_cases (λ rows. row_with key rows ≡ option_or (row_with key (first ∷ rest)) (own row key)) row first rest (λ is. prefer _ row _ (λ same.
    cc (key_is row.key key same, none_above row.key (first ∷ rest) (is, above_lower row.key first.key rest is rises.0)))) (λ is. kept_first row first rest key _
    refl (exact_bytes row.key first.key is)) (λ is. behind_first _ first _ _ _ further)

-- the newest rows rise
pub rises_newest : (rows : List StoredRow) → Rises (newest_rows rows)
rises_newest [] = tt
rises_newest (row ∷ rows) = rises_older row _ (rises_newest rows)

-- and have the newest row of each key
pub find_newest : (rows : List StoredRow) (key : List ℕ) → row_with key (newest_rows rows) ≡ newest_row rows key
find_newest [] key = refl
find_newest (row ∷ rows) key = search (arith, find_newest rows key, find_older, rises_newest, newest_cons)

-- of rows that rise the only row of a key is its newest
pub newest_rising : (rows : List StoredRow) → Rises rows → (key : List ℕ) → newest_row rows key ≡ row_with key rows
newest_rising [] rises key = refl
newest_rising (row ∷ rows) rises key =
    newest_cons row rows key
    ∙ ap (λ o. option_or o (own row key)) (newest_rising rows rises.1 key)
    ∙ sym (prefer _ row _ (λ same. cc (key_is row.key key same, none_above row.key rows rises.0)))

-- ---- by places

-- a key lies below each of the keys that are above it
above_at : (key : List ℕ) (rows : List StoredRow) → Above key rows → (place : ℕ) → place < length rows → slice_cmp nat_cmp key (key_at rows place) ≡ Less
above_at key (row ∷ rows) above (suc place) inside = above_at key rows above.1 place (omega arith)
above_at key rows above place inside = search (rules, arith)

-- a lower place has a lower key
pub rises_at : (rows : List StoredRow) → Rises rows → (low high : ℕ) → low < high → high < length rows → slice_cmp nat_cmp (key_at rows low) (key_at rows high) ≡ Less
rises_at (row ∷ rows) rises (suc low) (suc high) lower inside = search (arith, rises_at rows rises.1 low high)
rises_at rows rises low high lower inside = search (rules, arith, above_at)

-- and the other way round
above_from : (key : List ℕ) (rows : List StoredRow) → ((place : ℕ) → place < length rows → slice_cmp nat_cmp key (key_at rows place) ≡ Less) → Above key rows
above_from key [] each = tt
above_from key (row ∷ rows) each = (each 0 (omega arith), above_from key rows (λ place inside. each (suc place) (omega arith)))

pub rises_from : (rows : List StoredRow) → ((low high : ℕ) → low < high → high < length rows → slice_cmp nat_cmp (key_at rows low) (key_at rows high) ≡ Less) → Rises rows
rises_from [] each = tt
rises_from (row ∷ rows) each = (
  above_from _ rows (λ place inside. each 0 (suc place) (omega arith) (omega arith)),
  rises_from rows (λ low high lower inside. each (suc low) (suc high) (omega arith) (omega arith)),
)

-- nothing is found in rows that rise
pub nothing_rising : (rows : List StoredRow) → Rises rows → sorted_findings rows ≡ []
unfolding sorted_findings
nothing_rising rows rises = search (arith, none_of_all, rises_at)

-- ---- those that are puts

-- a row that is a put
abbrev put_of : Option StoredRow → Option StoredRow
put_of None = None
put_of (Some row) = cond (is_put_row row) (Some row) None

above_puts : (key : List ℕ) (rows : List StoredRow) → Above key rows → Above key (filter is_put_row rows)
above_puts key [] above = tt
above_puts key (row ∷ rows) above = search (arith, above_puts key rows above.1)

-- they rise
pub rises_puts : (rows : List StoredRow) → Rises rows → Rises (filter is_put_row rows)
rises_puts [] rises = tt
rises_puts (row ∷ rows) rises = search (arith, rises_puts rows rises.1, above_puts)

-- the row of a key among them, with one row in front
puts_more : (row : StoredRow) (rows : List StoredRow) (key : List ℕ) → row_with key (filter is_put_row rows) ≡ put_of (row_with key rows) → row_with row.key rows ≡ None
    → (p : Bool) → is_put_row row ≡ p → (b : Bool) → bytes_eq row.key key ≡ b → row_with key (filter is_put_row (row ∷ rows)) ≡ put_of (row_with key (row ∷ rows))
puts_more row rows key further none true put true has = search arith
puts_more row rows key further none p put b has = search (rules, arith)

-- the row of a key among them
find_puts : (rows : List StoredRow) → Rises rows → (key : List ℕ) → row_with key (filter is_put_row rows) ≡ put_of (row_with key rows)
find_puts [] rises key = refl
find_puts (row ∷ rows) rises key = puts_more row rows key (find_puts rows rises.1 key) (none_above _ rows rises.0) _ refl _ refl

-- the map of the newest rows that are puts is that of all rows
pub merged_map : (rows : List StoredRow) → map_of_rows (merged_rows rows) ≡ map_of_rows rows
unfolding merged_rows
merged_map rows =
    same_map nat_list_cmp_total (slice_cmp-IsAntisymmetric nat_cmp-IsAntisymmetric) (map_of_rows (filter is_put_row (newest_rows rows))) (map_of_rows rows)
    (search (arith, newest_law, newest_rising, rises_puts, rises_newest, find_puts, find_newest))

-- ---- how many there are

-- one row more
charge_more : (row : StoredRow) (rows : List StoredRow) → put_count (row ∷ rows) ≡ cond {A = ℕ} (row.kind == 1) 1 0 + put_count rows
charge_more row rows = sum_by-cons (λ (r : StoredRow). cond (r.kind == 1) 1 0) row rows

charge_older : (row : StoredRow) (rows : List StoredRow) → put_count (with_older row rows) ≤ put_count (row ∷ rows)
charge_older row [] = omega arith
charge_older row (first ∷ rest) =
    older_cases (λ rows. put_count rows ≤ put_count (row ∷ first ∷ rest)) row first rest (λ is. omega arith) (λ is.
    omega (arith, charge_more row (first ∷ rest))) (search (arith, charge_older row rest, charge_more))

charge_newest : (rows : List StoredRow) → put_count (newest_rows rows) ≤ put_count rows
charge_newest [] = omega arith
charge_newest (row ∷ rows) = search (arith, charge_newest rows, charge_older, charge_more)

charge_puts : (rows : List StoredRow) → (put_count (filter is_put_row rows) ≡ put_count rows) × (length (filter is_put_row rows) ≡ put_count rows)
charge_puts [] = (refl, refl)
charge_puts (row ∷ rows) = search (arith, charge_puts rows, charge_more)

length_older : (row : StoredRow) (rows : List StoredRow) → length (with_older row rows) ≤ length rows + 1
length_older row [] = omega arith
length_older row (first ∷ rest) = search (arith, length_older row rest)

length_newest : (rows : List StoredRow) → length (newest_rows rows) ≤ length rows
length_newest [] = omega arith
length_newest (row ∷ rows) = omega (arith, length_older row (newest_rows rows), length_newest rows)

-- ---- the laws

pub merged_law : MergedLaw
unfolding merged_rows
merged_law rows = search (arith, charge_puts, nothing_rising, rises_puts, rises_newest, merged_map, charge_newest)

pub key_count_law : KeyCountLaw
unfolding merged_rows
key_count_law rows = (length_newest rows, omega (arith, (charge_puts (newest_rows rows)).1, charge_newest rows))
