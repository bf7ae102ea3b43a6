-- Applied to a map, the rows that a conversion writes and the log's rows give the same map.
use Rattle.silt_conversion.proofs.Common.{◌≡◌, ℕ, zero, suc, ◌*◌, ◌<◌, ◌⊎◌, Bool, true, false, cond, List, [], ◌∷◌, length, map, filter, get_or, slice_get, Option, Some, None, inl, inr, refl, sym}
use Rattle.silt_conversion.proofs.Common.{ap, ◌∙◌, arith, bytes_eq, range_with_len, and_from, and_parts, cases_Bool, get_or-map-range_with_len, length-map-range_with_len, get_or_from_slice_get}
use Rattle.silt_conversion.proofs.Common.{slice_get-get_or, slice_get_within, bytes_eq-Decides, Entry, Slots, entry_at, index_law, newest_apart, Shape, changed_get, keys_of, has_known_kind}
use Rattle.silt_conversion.proofs.Common.{StoredRow, entry_law, key_of_row, keys_count, ConvertedMapLaw, IsTableOf, is_row_of, empty_not_known}
use Rattle.std.specs.FinMap.{get, same_map, slice_cmp-IsAntisymmetric, nat_cmp-IsAntisymmetric}
use Rattle.std.proofs.lemmas.Cmp.{nat_list_cmp_total}
use Rattle.silt_cuckoo.specs.Index.{IsNewest}
use Rattle.silt_cuckoo.proofs.Paths.{entry_inside}
use Rattle.silt_cuckoo.proofs.Placed.{has_entry}
use Rattle.silt_event.specs.Commands.{Map, changed, map_after}
use Rattle.silt_event.specs.Rows.{value_given, command_of}
use Rattle.silt_conversion.specs.Conversion.{converted_before, converted_row, converted_rows, empty_row}
use Rattle.silt_conversion.proofs.Soundness.{empty_kind, entry_known, place_inside, row_of_entry, row_of_none}

-- a row of the key sets its value, and another row changes nothing for the key
set_by : (m : Map) (row : StoredRow) (key : List ℕ) → bytes_eq row.key key ≡ true → get (changed m (command_of row)) key ≡ value_given row
set_by m row key same = changed_get m row key ∙ ap (λ (b : Bool). cond b (value_given row) (get m key)) same

left_by : (m : Map) (row : StoredRow) (key : List ℕ) → bytes_eq row.key key ≡ false → get (changed m (command_of row)) key ≡ get m key
left_by m row key other = changed_get m row key ∙ ap (λ (b : Bool). cond b (value_given row) (get m key)) other

-- some row of a known kind has the key
abbrev HasRow : List ℕ → List StoredRow → Type 0
HasRow key rows = (i : ℕ) × (row : StoredRow) × (slice_get rows i ≡ Some row) × (is_row_of key row ≡ true)

-- all rows of the key have this value
abbrev AllHave : Option (List ℕ) → List ℕ → List StoredRow → Type 0
AllHave v key rows = (i : ℕ) (row : StoredRow) → slice_get rows i ≡ Some row → is_row_of key row ≡ true → value_given row ≡ v

-- a map after the rows of known kinds among some
abbrev after_known : Map → List StoredRow → Map
after_known m rows = map_after m (map command_of (filter has_known_kind rows))

kept_first : (row : StoredRow) (rows : List StoredRow) → has_known_kind row ≡ true → filter has_known_kind (row ∷ rows) ≡ row ∷ filter has_known_kind rows
kept_first row rows known = rw known refl

dropped_first : (row : StoredRow) (rows : List StoredRow) → has_known_kind row ≡ false → filter has_known_kind (row ∷ rows) ≡ filter has_known_kind rows
dropped_first row rows unknown = rw unknown refl

-- a row of the key, if the first is not one
later_row : (key : List ℕ) (row : StoredRow) (rows : List StoredRow) → is_row_of key row ≡ false → HasRow key (row ∷ rows) → HasRow key rows
later_row key row rows lacks h4 = search arith

-- one more row before rows whose value is known
settled_more : (v : Option (List ℕ)) (key : List ℕ) (m : Map) (row : StoredRow) (rows : List StoredRow) → AllHave v key (row ∷ rows) → ((get m key ≡ v) ⊎ HasRow key (row ∷ rows))
    → ((n : Map) → ((get n key ≡ v) ⊎ HasRow key rows) → get (after_known n rows) key ≡ v) → get (after_known m (row ∷ rows)) key ≡ v
settled_more v key m row rows all some rest = go _ refl _ refl
  where
    further : is_row_of key row ≡ false → (n : Map) → get n key ≡ get m key → (get n key ≡ v) ⊎ HasRow key rows
    further lacks n same = elim some [
      | inl has ↦ inl (same ∙ has)
      | inr found ↦ inr (later_row key row rows lacks found)
    ]

    go : (known : Bool) → has_known_kind row ≡ known → (same : Bool) → bytes_eq row.key key ≡ same → get (after_known m (row ∷ rows)) key ≡ v
    go true known true same = cc (kept_first row rows known, rest (changed m (command_of row)) (inl (set_by m row key same ∙ all 0 row refl (and_from _ _ known same))))
    go true known false other =
        let lacks : is_row_of key row ≡ false = rw (known, other) refl in
        cc (kept_first row rows known, rest (changed m (command_of row)) (further lacks (changed m (command_of row)) (left_by m row key other)))
    go false unknown same is =
        let lacks : is_row_of key row ≡ false = rw unknown refl in
        cc (dropped_first row rows unknown, rest m (further lacks m refl))

-- If all rows of a key have one value, and the map has it before or some row has the key, the map has it after the rows of known
-- kinds.
settled : (v : Option (List ℕ)) (key : List ℕ) (m : Map) (rows : List StoredRow) → AllHave v key rows → ((get m key ≡ v) ⊎ HasRow key rows) → get (after_known m rows) key ≡ v
settled v key m [] all (inl has) = has
settled v key m [] all (inr (i, row, there, passes)) = absurd (cc)
settled v key m (row ∷ rows) all some = settled_more v key m row rows all some (λ n rest. settled v key n rows (λ i other there passes. all (suc i) other there passes) rest)

-- a map before rows of other keys
untouched : (key : List ℕ) (m : Map) (rows : List StoredRow) → ((i : ℕ) (other : StoredRow) → slice_get rows i ≡ Some other → bytes_eq other.key key ≡ false)
    → get (map_after m (map command_of rows)) key ≡ get m key
untouched key m [] none = refl
untouched key m (other ∷ rows) none = untouched key (changed m (command_of other)) rows (λ i next at. none (suc i) next at) ∙ left_by m other key (none 0 other refl)

-- the last row of a key: no later row has it
pub record IsLast (rows : List StoredRow) (key : List ℕ) (last : ℕ) (row : StoredRow) : Type 0 where
  pub there : slice_get rows last ≡ Some row
  pub has_key : bytes_eq row.key key ≡ true
  pub none : (later : ℕ) (other : StoredRow) → last < later → slice_get rows later ≡ Some other → bytes_eq other.key key ≡ false

-- that of a longer list
last_more : (first : StoredRow) (rows : List StoredRow) (key : List ℕ) (last : ℕ) (row : StoredRow) → IsLast rows key last row → IsLast (first ∷ rows) key (suc last) row
last_more first rows key last row is = search (arith, is.none)

-- or the first row, if no other has the key
last_first : (first : StoredRow) (rows : List StoredRow) (key : List ℕ) → bytes_eq first.key key ≡ true
    → ((i : ℕ) (other : StoredRow) → slice_get rows i ≡ Some other → bytes_eq other.key key ≡ false) → IsLast (first ∷ rows) key 0 first
last_first first rows key has none = search arith

-- no row has the key, if the first has not and no other
none_more : (first : StoredRow) (rows : List StoredRow) (key : List ℕ) → bytes_eq first.key key ≡ false → ((i : ℕ) (other : StoredRow) → slice_get rows i ≡ Some other → bytes_eq other.key key ≡ false)
    → (i : ℕ) (other : StoredRow) → slice_get (first ∷ rows) i ≡ Some other → bytes_eq other.key key ≡ false
none_more first rows key has none i other at = search arith

-- a key has a last row, or none
last_row : (key : List ℕ) (rows : List StoredRow) → ((last : ℕ) × (row : StoredRow) × IsLast rows key last row)
    ⊎ ((i : ℕ) (other : StoredRow) → slice_get rows i ≡ Some other → bytes_eq other.key key ≡ false)
last_row key [] = inr (λ i other at. absurd (cc))
last_row key (first ∷ rows) = elim (last_row key rows) [
  | inl (last, row, is) ↦ inl (suc last, row, last_more first rows key last row is)
  | inr none ↦ elim (cases_Bool (bytes_eq first.key key)) [
    | inl has ↦ inl (0, first, last_first first rows key has none)
    | inr other ↦ inr (none_more first rows key other none)
  ]
]

-- the last row of a key decides
decided : (key : List ℕ) (m : Map) (rows : List StoredRow) (last : ℕ) (row : StoredRow) → slice_get rows last ≡ Some row → bytes_eq row.key key ≡ true
    → ((later : ℕ) (other : StoredRow) → last < later → slice_get rows later ≡ Some other → bytes_eq other.key key ≡ false) → get (map_after m (map command_of rows)) key ≡ value_given row
decided key m [] last row there same none = absurd (cc)
decided key m (first ∷ rows) zero row there same none =
    let is_first : first ≡ row = cc in
    untouched key (changed m (command_of first)) rows (λ i other at. none (suc i) other (omega arith) at)
    ∙ set_by m first key (ap (λ (r : StoredRow). bytes_eq r.key key) is_first ∙ same) ∙ ap value_given is_first
decided key m (first ∷ rows) (suc last) row there same none = decided key (changed m (command_of first)) rows last row there same (λ later other above at. none (suc later) other (omega arith) at)

-- ---- the rows that belong in the slots

module _ (s : Shape) (rows : List StoredRow) (table : Slots) (is : IsTableOf s rows table) where
  abbrev empty : StoredRow
  empty = empty_row s

  -- the row that belongs in a slot
  due_there : (slot : ℕ) → slot < 4 * s.buckets → slice_get (converted_rows s table rows) slot ≡ Some (converted_row s table rows slot)
  unfolding converted_before converted_rows
  due_there slot below =
      let long = length-map-range_with_len (converted_row s table rows) 0 (4 * s.buckets) in
      slice_get-get_or (map (converted_row s table rows) (range_with_len 0 (4 * s.buckets))) slot empty (omega (arith, below, long))
      ∙ ap Some (get_or-map-range_with_len (converted_row s table rows) 0 (4 * s.buckets) slot slot empty below (omega arith))

  due_within : (slot : ℕ) (row : StoredRow) → slice_get (converted_rows s table rows) slot ≡ Some row → slot < 4 * s.buckets
  unfolding converted_before converted_rows
  due_within slot row there = search (arith, slice_get_within, length-map-range_with_len)

  -- a row of a key that belongs in a slot is the log's row at a newest place
  due_newest : (key : List ℕ) (slot : ℕ) (row : StoredRow) → slice_get (converted_rows s table rows) slot ≡ Some row → is_row_of key row ≡ true
      → (place : ℕ) × IsNewest (keys_of rows) place × (slice_get rows place ≡ Some row)
  due_newest key slot row there passes = go (entry_at table slot) refl
    where
      is_row : converted_row s table rows slot ≡ row
      is_row = let here = due_there slot (due_within slot row there) in cc

      go : (e : Option Entry) → entry_at table slot ≡ e → (place : ℕ) × IsNewest (keys_of rows) place × (slice_get rows place ≡ Some row)
      go None none =
          let unknown : has_known_kind row ≡ false = ap has_known_kind (sym is_row)
          ∙ empty_not_known (converted_row s table rows slot) (ap (λ (r : StoredRow). r.kind) (row_of_none s rows table is slot none) ∙ empty_kind s) in
          let known = (and_parts (has_known_kind row) (bytes_eq row.key key) passes).0 in
          absurd (cc)
      go (Some (tag, place)) at = (
        place,
        (entry_law s.buckets (keys_of rows) table is.count is.indexed).newest slot tag place at,
        slice_get-get_or rows place empty (place_inside s rows table is slot tag place at) ∙ ap Some (sym (row_of_entry s rows table is slot tag place at) ∙ is_row),
      )

  -- the last row of a key has its newest place
  last_newest : (key : List ℕ) (last : ℕ) (row : StoredRow) → IsLast rows key last row → IsNewest (keys_of rows) last
  last_newest key last row it = (
    omega (arith, slice_get_within rows last row it.there, keys_count rows),
    λ later above below same.
        let inside : later < length rows = omega (arith, below, keys_count rows) in
        let there : slice_get rows later ≡ Some (get_or rows later empty) = slice_get-get_or rows later empty inside in
        search (arith, bytes_eq-Decides, key_of_row, it.none),
  )

  -- and belongs in some slot
  last_due : (key : List ℕ) (last : ℕ) (row : StoredRow) → IsLast rows key last row → HasRow key (converted_rows s table rows)
  last_due key last row it =
      let held = (entry_law s.buckets (keys_of rows) table is.count is.indexed).held last (last_newest key last row it) in
      let entry = has_entry table held.0 last held.1 in
      let index = index_law s.buckets (keys_of rows) table is.count is.indexed in
      let below : held.0 < 4 * s.buckets = omega (arith, entry_inside table held.0 entry.0 entry.1, index.table.four_each, index.count) in
      let at : get_or rows entry.0.1 empty ≡ row = ap (λ n. get_or rows n empty) entry.2 ∙ get_or_from_slice_get rows last row empty it.there in
      let due : converted_row s table rows held.0 ≡ row = row_of_entry s rows table is held.0 entry.0.0 entry.0.1 entry.1 ∙ at in
      let known : has_known_kind row ≡ true = ap has_known_kind (sym due) ∙ entry_known s rows table is held.0 entry.0.0 entry.0.1 entry.1 in
      (held.0, row, due_there held.0 below ∙ ap Some due, and_from _ _ known it.has_key)

  -- both make the same of each key
  same_get : (m : Map) (key : List ℕ) → get (after_known m (converted_rows s table rows)) key ≡ get (map_after m (map command_of rows)) key
  same_get m key = elim (last_row key rows) [
    | inl (last, row, it) ↦
        settled (value_given row) key m (converted_rows s table rows) (λ slot other there passes.
        let found = due_newest key slot other there passes in
        let has = (bytes_eq-Decides other.key key).0 (and_parts (has_known_kind other) (bytes_eq other.key key) passes).1 in
        let same_keys : get_or (keys_of rows) found.0 [] ≡ get_or (keys_of rows) last [] =
        key_of_row rows found.0 other found.2 ∙ has ∙ sym ((bytes_eq-Decides row.key key).0 it.has_key) ∙ sym (key_of_row rows last row it.there) in
        let place : found.0 ≡ last = newest_apart (keys_of rows) found.0 last found.1 (last_newest key last row it) same_keys in
        let both : Some other ≡ Some row = sym found.2 ∙ ap (slice_get rows) place ∙ it.there in
        let same : other ≡ row = cc in
        ap value_given same) (inr (last_due key last row it)) ∙ sym (decided key m rows last row it.there it.has_key it.none)
    | inr none ↦
        settled (get m key) key m (converted_rows s table rows) (search (arith, due_newest, and_parts)) (inl refl) ∙ sym (untouched key m rows none)
  ]

-- applied to any map, these rows and the log's rows give the same map
pub converted_map : ConvertedMapLaw
converted_map s rows table m is =
    same_map nat_list_cmp_total (slice_cmp-IsAntisymmetric nat_cmp-IsAntisymmetric) (after_known m (converted_rows s table rows)) (map_after m (map command_of rows)) (same_get s rows table is m)
