-- The map of rows, and their puts.
use Rattle.std.proofs.Common.{◌≡◌, ℕ, ◌==◌, Bool, true, false, cond, if◌then◌else◌, List, [], ◌∷◌, ◌++◌, map, reverse, find, Option, Some, None, option_and_then, refl, sym, ap, ◌∙◌}
use Rattle.std.specs.Str.{bytes_eq}
use Rattle.std.specs.FinMap.{empty, get, get-insert, get-remove, get-empty}
use Rattle.std.specs.Ordering.{nat_cmp, eq_by_cmp}
use Rattle.std.specs.Cmp.Lexicographic.{slice_cmp}
use Rattle.std.proofs.lemmas.Cmp.{eq_by_cmp_equiv, nat_list_cmp_total}
use Rattle.std.proofs.lemmas.Map.Text.{is_eq-slice_cmp}
use Rattle.std.proofs.lemmas.List.{map-append, reverse-append, reverse-reverse}
use Rattle.std.proofs.lemmas.List.Sums.{sum_by-append}
use Rattle.silt_frame.specs.Rows.{StoredRow}
use Rattle.silt_event.specs.Commands.{Command, Map, put, delete, changed, map_after}
use Rattle.silt_event.specs.Rows.{command_of, map_of_rows, CountLaw, MapLaw, NewestLaw, value_given}

-- the map after more commands
pub map_after-append : (m : Map) (some more : List Command) → map_after m (some ++ more) ≡ map_after (map_after m some) more
map_after-append m [] more = refl
map_after-append m (command ∷ some) more = map_after-append (changed m command) some more

-- the map of more rows
pub map_law : MapLaw
map_law rows more = ap (map_after empty) (map-append command_of rows more) ∙ map_after-append empty (map command_of rows) (map command_of more)

-- the puts among more rows
pub count_law : CountLaw
count_law rows more = sum_by-append (λ (row : StoredRow). cond (row.kind == 1) 1 0) rows more

-- two keys are compared as bytes
pub same_key : (key other : List ℕ) → eq_by_cmp (slice_cmp nat_cmp) key other ≡ bytes_eq other key
same_key key other = (eq_by_cmp_equiv nat_list_cmp_total).symm key other ∙ is_eq-slice_cmp other key

-- what a map has for a key after one row more
pub changed_get : (m : Map) (row : StoredRow) (key : List ℕ) → get (changed m (command_of row)) key ≡ cond (bytes_eq row.key key) (value_given row) (get m key)
changed_get m row key = go (row.kind == 1) refl
  where
    go : (b : Bool) → (row.kind == 1) ≡ b → get (changed m (command_of row)) key ≡ cond (bytes_eq row.key key) (value_given row) (get m key)
    go true is =
        ap (λ (b : Bool). get (changed m (if b then put row.key row.value else delete row.key)) key) is
        ∙ get-insert nat_list_cmp_total m row.key row.value key
        ∙ ap (λ (b : Bool). cond b (Some row.value) (get m key)) (same_key key row.key)
        ∙ ap (λ (b : Bool). cond (bytes_eq row.key key) (if b then Some row.value else None) (get m key)) (sym is)
    go false is =
        ap (λ (b : Bool). get (changed m (if b then put row.key row.value else delete row.key)) key) is
        ∙ get-remove nat_list_cmp_total m row.key key
        ∙ ap (λ (b : Bool). cond b None (get m key)) (same_key key row.key)
        ∙ ap (λ (b : Bool). cond (bytes_eq row.key key) (if b then Some row.value else None) (get m key)) (sym is)

-- rows that are listed the newest first
newest_of : (rows : List StoredRow) (key : List ℕ) → get (map_of_rows (reverse rows)) key ≡ option_and_then value_given (find (λ (row : StoredRow). bytes_eq row.key key) rows)
newest_of [] key = get-empty (slice_cmp nat_cmp) key
newest_of (row ∷ rows) key =
    let turned : reverse (row ∷ rows) ≡ reverse rows ++ row ∷ [] = reverse-append (row ∷ []) rows in
    let found : Option StoredRow = find (λ (r : StoredRow). bytes_eq r.key key) rows in
    let go : (b : Bool) → bytes_eq row.key key ≡ b → cond (bytes_eq row.key key) (value_given row) (option_and_then value_given found) ≡ option_and_then
    value_given (find (λ (r : StoredRow). bytes_eq r.key key) (row ∷ rows)) = elim [
      | true ↦ λ is. rw is refl
      | false ↦ λ is. rw is refl
    ] in
    ap (λ (l : List StoredRow). get (map_of_rows l) key) turned
    ∙ ap (λ (m : Map). get m key) (map_law (reverse rows) (row ∷ []))
    ∙ changed_get (map_of_rows (reverse rows)) row key
    ∙ ap (λ (v : Option (List ℕ)). cond (bytes_eq row.key key) (value_given row) v) (newest_of rows key)
    ∙ go (bytes_eq row.key key) refl

-- the last row of a key decides
pub newest_law : NewestLaw
newest_law rows key = ap (λ (l : List StoredRow). get (map_of_rows l) key) (sym (reverse-reverse rows)) ∙ newest_of (reverse rows) key
