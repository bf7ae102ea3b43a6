-- There are as many entries as keys with a value.
use Rattle.silt_merge.proofs.Common.{◌≡◌, ℕ, true, List, [], ◌∷◌, filter, length, map, option_map, refl, sym, subst, ap, ◌∙◌, bytes_eq, slice_cmp, length-map, is_eq-slice_cmp, StoredRow}
use Rattle.silt_merge.proofs.Common.{is_put_row, newest_rows, T, option_and_then, arith, eq_by_cmp, is_lt, nat_cmp, and_from, value_given, map_of_rows, newest_law, MergedCountLaw}
use Rattle.std.specs.FinMap.{entries-from_sorted, from_sorted, get-from_sorted, len, len-entries, same_map, slice_cmp-IsAntisymmetric, nat_cmp-IsAntisymmetric}
use Rattle.std.specs.FinMap.Entries.{find, below_all, is_sorted}
use Rattle.std.proofs.lemmas.Cmp.{eq_by_cmp_equiv, nat_list_cmp_total}
use Rattle.silt_event.specs.Commands.{Map}
use Rattle.silt_merge.specs.Rows.{merged_rows}
use Rattle.silt_merge.proofs.Newest.{Above, Rises, merged_map, newest_rising, rises_newest, rises_puts, row_with}

-- the keys of rows with their values
abbrev pairs : List StoredRow → List (List ℕ × List ℕ)
pairs rows = map (λ (row : StoredRow). (row.key, row.value)) rows

-- they rise with the rows
below_pairs : (key : List ℕ) (rows : List StoredRow) → Above key rows → below_all (slice_cmp nat_cmp) key (pairs rows) ≡ true
below_pairs key [] above = refl
below_pairs key (row ∷ rows) above = and_from _ _ (ap is_lt above.0) (below_pairs key rows above.1)

sorted_pairs : (rows : List StoredRow) → Rises rows → is_sorted (slice_cmp nat_cmp) (pairs rows) ≡ true
sorted_pairs [] rises = refl
sorted_pairs (row ∷ rows) rises = and_from _ _ (below_pairs _ rows rises.0) (sorted_pairs rows rises.1)

-- the value of a key among them
find_pairs : (rows : List StoredRow) (key : List ℕ) → find (slice_cmp nat_cmp) key (pairs rows) ≡ option_map (λ (r : StoredRow). r.value) (row_with key rows)
find_pairs [] key = refl
find_pairs (row ∷ rows) key =
    let further = find_pairs rows key in
    let same : eq_by_cmp (slice_cmp nat_cmp) key row.key ≡ bytes_eq row.key key = (eq_by_cmp_equiv nat_list_cmp_total).symm key row.key ∙ is_eq-slice_cmp row.key key in
    search arith

-- which is what a put gives
put_values : (rows : List StoredRow) (key : List ℕ) → option_and_then value_given (row_with key (filter is_put_row rows)) ≡ option_map
    (λ (r : StoredRow). r.value) (row_with key (filter is_put_row rows))
put_values [] key = refl
put_values (row ∷ rows) key = search (arith, put_values rows key)

-- the map of the newest rows that are puts has an entry for each
pub merged_count : MergedCountLaw
unfolding merged_rows
merged_count rows =
    let puts : List StoredRow = filter is_put_row (newest_rows rows) in
    let rises = rises_puts (newest_rows rows) (rises_newest rows) in
    let sorted : T (is_sorted (slice_cmp nat_cmp) (pairs puts)) = subst T (sym (sorted_pairs puts rises)) tt in
    let listed : Map = from_sorted (pairs puts) in
    let same : map_of_rows puts ≡ listed = same_map nat_list_cmp_total (slice_cmp-IsAntisymmetric nat_cmp-IsAntisymmetric) (map_of_rows puts) listed (λ key.
    newest_law puts key ∙ ap (option_and_then value_given) (newest_rising puts rises key) ∙ put_values (newest_rows rows) key
    ∙ sym (get-from_sorted (slice_cmp nat_cmp) (pairs puts) key sorted ∙ find_pairs puts key)) in
    sym (ap len (sym (merged_map rows) ∙ same) ∙ len-entries listed ∙ ap (λ l. length l) (entries-from_sorted (slice_cmp nat_cmp) (pairs puts) sorted)
    ∙ length-map puts (λ (row : StoredRow). (row.key, row.value)))
