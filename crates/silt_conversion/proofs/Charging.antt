-- The rows that a conversion writes have at most as many puts as the log's rows.
use Rattle.silt_conversion.proofs.Common.{◌≡◌, ◌≢◌, ℕ, zero, suc, ◌+◌, ◌*◌, ◌≤◌, ◌<◌, ◌==◌, nat_lt, false, cond, List, [], ◌∷◌, filter, length, map, take, get_or, Option, Some, None, inl, inr}
use Rattle.silt_conversion.proofs.Common.{refl, sym, ap, ◌∙◌, arith, take_all, range_with_len, cases_Bool, cases_eq, cases_lt, cond-false, cond-true, eqb-true, le-ltb, lt-ltb}
use Rattle.silt_conversion.proofs.Common.{sum_by-map-range_with_len_more, Entry, entry_at, place_at, put_count, keys_of, has_known_kind, StoredRow, entry_law, ConvertedChargeLaw}
use Rattle.std.proofs.lemmas.List.Sums.{sum_by-cons, sum_by_more}
use Rattle.silt_conversion.specs.Conversion.{converted_before, converted_row, converted_rows, empty_row}
use Rattle.silt_conversion.proofs.Soundness.{empty_kind, place_inside, row_of_entry, row_of_none}

-- how many puts a row is
abbrev weight : StoredRow → ℕ
weight row = cond (row.kind == 1) 1 0

-- ---- rows of unknown kinds

-- a row of an unknown kind is no put
unknown_weight : (row : StoredRow) → has_known_kind row ≡ false → weight row ≡ 0
unknown_weight row unknown = search (arith, cases_Bool, cond-false, eqb-true)

-- so rows have the puts of those of known kinds
pub known_charge : (rows : List StoredRow) → put_count (filter has_known_kind rows) ≡ put_count rows
known_charge [] = refl
known_charge (row ∷ rows) = elim (cases_Bool (has_known_kind row)) [
  | inl known ↦
      let kept : filter has_known_kind (row ∷ rows) ≡ row ∷ filter has_known_kind rows = rw known refl in
      ap put_count kept ∙ sum_by-cons weight row (filter has_known_kind rows) ∙ ap (λ n. weight row + n) (known_charge rows) ∙ sym (sum_by-cons weight row rows)
  | inr unknown ↦
      search (arith, known_charge rows, unknown_weight, sum_by-cons)
]

-- ---- sums over slots

-- the sum over the first slots, this many
abbrev total : (ℕ → ℕ) → ℕ → ℕ
total f zero = 0
total f (suc n) = total f n + f n

-- two sums of the same numbers
total_same : (f g : ℕ → ℕ) (n : ℕ) → ((slot : ℕ) → slot < n → f slot ≡ g slot) → total f n ≡ total g n
total_same f g zero same = refl
total_same f g (suc n) same = omega (arith, total_same f g n (λ slot below. same slot (omega arith)), same n (omega arith))

-- a sum of zeros
total_zero : (f : ℕ → ℕ) (n : ℕ) → ((slot : ℕ) → f slot ≡ 0) → total f n ≡ 0
total_zero f zero zeros = refl
total_zero f (suc n) zeros = omega (arith, total_zero f n zeros, zeros n)

-- the puts of a row a slot
slots_charge : (row : ℕ → StoredRow) (n : ℕ) → put_count (map row (range_with_len 0 n)) ≡ total (λ slot. weight (row slot)) n
slots_charge row zero = refl
slots_charge row (suc n) =
    let more : suc n ≡ n + 1 = omega arith in
    cc (sum_by-map-range_with_len_more weight row 0 n n (omega arith), slots_charge row n)

-- ---- slots with the places of rows

module _ (rows : List StoredRow) (d : StoredRow) where
  -- the puts in a slot with the place of one of the first rows, this many
  abbrev reach : ℕ → Option ℕ → ℕ
  reach n None = 0
  reach n (Some place) = cond (nat_lt place n) (weight (get_or rows place d)) 0

  -- no rows
  reach_none : (place : Option ℕ) → reach 0 place ≡ 0
  reach_none None = refl
  reach_none (Some place) = cond-false _ _ _ (le-ltb place 0 (omega arith))

  -- the place of one of the rows
  reach_inside : (n place : ℕ) → place < n → reach n (Some place) ≡ weight (get_or rows place d)
  reach_inside n place below = cond-true _ _ _ (lt-ltb place n below)

  -- one row more, in another slot
  reach_other : (n place : ℕ) → place ≢ n → reach (n + 1) (Some place) ≡ reach n (Some place)
  reach_other n place other = search (arith, cases_lt, reach_inside, cond-false, le-ltb)

  module _ (place_of : ℕ → Option ℕ) (once : (place slot other : ℕ) → place_of slot ≡ Some place → place_of other ≡ Some place → other ≡ slot) where
    -- the puts in the first slots with places of the first rows
    abbrev reached : ℕ → ℕ → ℕ
    reached n count = total (λ slot. reach n (place_of slot)) count

    same_reach : (n slot : ℕ) → place_of slot ≢ Some n → reach (n + 1) (place_of slot) ≡ reach n (place_of slot)
    same_reach n slot other = search (arith, reach_other)

    -- if no slot has the place of the next row, that row adds nothing
    nowhere : (n count : ℕ) → ((slot : ℕ) → slot < count → place_of slot ≢ Some n) → reached (n + 1) count ≡ reached n count
    nowhere n count none = total_same (λ slot. reach (n + 1) (place_of slot)) (λ slot. reach n (place_of slot)) count (λ slot below. same_reach n slot (none slot below))

    -- in one more slot it adds at most its own puts, if it did so before
    one_slot_more : (n count : ℕ) → reached (n + 1) count ≤ reached n count + weight (get_or rows n d) → (e : Option ℕ) → place_of count ≡ e
        → reached (n + 1) (suc count) ≤ reached n (suc count) + weight (get_or rows n d)
    one_slot_more n count so_far None at = omega (arith, so_far, same_reach n count (λ some. let clash : None ≡ Some n = sym at ∙ some in absurd (cc)))
    one_slot_more n count so_far (Some place) at = elim (cases_eq place n) [
      | inr other ↦ omega (arith, so_far, same_reach n count (λ some. let both : Some place ≡ Some n = sym at ∙ some in other (cc)))
      | inl here ↦
          let is : place_of count ≡ Some n = at ∙ ap Some here in
          let before : reached (n + 1) count ≡ reached n count = nowhere n count (λ slot below also. let same : slot ≡ count = once n count slot is also in absurd (omega (arith, same, below))) in
          search (arith, reach_inside)
    ]

    -- so it adds at most its own puts
    one_more : (n count : ℕ) → reached (n + 1) count ≤ reached n count + weight (get_or rows n d)
    one_more n zero = omega arith
    one_more n (suc count) = one_slot_more n count (one_more n count) (place_of count) refl

    -- the slots have no more puts than the rows whose places they have
    at_most : (n count : ℕ) → n ≤ length rows → reached n count ≤ put_count (take n rows)
    at_most zero count most = search (arith, total_zero, reach_none)
    at_most (suc n) count most =
        let more : suc n ≡ n + 1 = omega arith in
        let rest : put_count (take (n + 1) rows) ≡ put_count (take n rows) + weight (get_or rows n d) = sum_by_more weight rows n d (omega arith) in
        rw more (omega (arith, one_more n count, at_most n count (omega arith), rest))

-- the rows that belong in the slots have at most as many puts as the log's rows
pub converted_charge : ConvertedChargeLaw
unfolding converted_before converted_rows
converted_charge s rows table is =
    let blank : StoredRow = empty_row s in
    let slots : ℕ = 4 * s.buckets in
    let due : put_count (map (converted_row s table rows) (range_with_len 0 slots)) ≡ total (λ slot. reach rows blank (length rows) (place_at table slot)) slots =
    slots_charge (converted_row s table rows) slots
    ∙ total_same (λ slot. weight (converted_row s table rows slot)) (λ slot. reach rows blank (length rows) (place_at table slot)) slots (λ slot below. each slot (entry_at table slot) refl) in
    let once = (entry_law s.buckets (keys_of rows) table is.count is.indexed).once in
    let most = at_most rows blank (place_at table) once (length rows) slots (omega arith) in
    let all : put_count (take (length rows) rows) ≡ put_count rows = ap put_count (take_all (length rows) rows (omega arith)) in
    omega (arith, known_charge (map (converted_row s table rows) (range_with_len 0 slots)), due, most, all)
  where
    each : (slot : ℕ) (e : Option Entry) → entry_at table slot ≡ e → weight (converted_row s table rows slot) ≡ reach rows (empty_row s) (length rows) (place_at table slot)
    each slot None at = cc (row_of_none s rows table is slot at, cond-false _ _ _ (ap (λ n. n == 1) (empty_kind s)))
    each slot (Some (tag, place)) at = cc (row_of_entry s rows table is slot tag place at, reach_inside rows (empty_row s) (length rows) place (place_inside s rows table is slot tag place at))
