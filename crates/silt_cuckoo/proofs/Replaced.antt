-- The pairs of a table in which an entry takes a new place.
use Rattle.silt_cuckoo.proofs.Common.{◌≡◌, ◌≢◌, ◌∷◌, [], inl, inr, ℕ, ◌/◌, ◌<◌, length, length-set, arith, Some, option_map, refl, sym, ap, ◌∙◌, get_or-set_other, get_or-set_same, cases_eq}
use Rattle.silt_cuckoo.proofs.Common.{cases_Bool, Slots, Entry, IsTable, HoldsPlace, entry_at, tag_at, replaced, pair_of, has_place, TakesSlot, eq-eqb, ne_eqb, ReplaceLaw}
use Rattle.silt_cuckoo.proofs.Search.{some_or_none}
use Rattle.silt_cuckoo.proofs.Placed.{Put, put_held, put_new, put_place, put_table, has_place_is, is_has_place, table_pairs-held, table_pairs-not_held, cases_held}
use Rattle.silt_cuckoo.proofs.Tables.{slot_inside}
use Rattle.silt_cuckoo.proofs.Paths.{IsOn}
use Rattle.silt_cuckoo.specs.Placing.{moved_along}

-- an entry that takes a new place is put into the only slot of a path
put_replaced : (slots : Slots) (slot place : ℕ) → slot < length slots → Put slots (replaced slots slot place) (slot / 4) (tag_at slots slot) place slot []
unfolding moved_along
put_replaced slots slot place there = search (arith, eq-eqb, length-set, get_or-set_same, get_or-set_other)

-- which is one of the table's
alone : (slots : Slots) (slot : ℕ) → slot < length slots → (x : ℕ) → IsOn x (slot ∷ []) → x < length slots
alone slots slot there x (inl same) = omega arith
alone slots slot there x (inr on) = absurd on

-- a table in which an entry takes a new place is a table
pub replaced_table : (slots : Slots) (slot place : ℕ) → IsTable slots → slot < length slots → ¬ HoldsPlace slots place → IsTable (replaced slots slot place)
replaced_table slots slot place table there is_new =
    put_table (put_replaced slots slot place there) (alone slots slot there) table (omega (arith, table.four_each)) (table.tags_below slot) is_new (λ on. on, tt)

-- the new place has the slot's pair, the old one none, and the others keep theirs
pub replaced_pairs : (slots : Slots) (slot place : ℕ) (e : Entry) → IsTable slots → slot < length slots → entry_at slots slot ≡ Some e
    → ¬ HoldsPlace slots place → TakesSlot slots (replaced slots slot place) slot place
unfolding moved_along
replaced_pairs slots slot place e table there is is_new p =
    let new = replaced slots slot place in
    let put = put_replaced slots slot place there in
    let inside = alone slots slot there in
    let apart = (replaced_table slots slot place table there is_new).places_apart in
    let own = eq-eqb (slot / 4) (slot / 4) refl in
    elim (cases_eq p place) [
      | inl same ↦ let test = eq-eqb p place same in rw (test, same) (rw own at (put_new put inside apart) ∙ rw is refl)
      | inr other ↦ rw (ne_eqb p place other) (elim (cases_Bool (has_place slots p slot)) [
        | inl passes ↦ rw passes (table_pairs-not_held new p (search (arith, put_held, has_place_is, table.places_apart)))
        | inr fails ↦ rw fails (elim (cases_held slots p) [
          | inl (y, held) ↦
              let y_other : y ≢ slot = search (arith, is_has_place) in
              table_pairs-held new y p apart (put_place put inside y y_other ∙ held) ∙ ap (option_map (λ (x : Entry). pair_of (y / 4) x.0)) (put.others y y_other)
              ∙ sym (table_pairs-held slots y p table.places_apart held)
          | inr not_held ↦
              search (arith, table_pairs-not_held, put_held)
        ])
      ])
    ]

-- an entry that takes a new place leaves a table, and its slot its pair
pub replace_law : ReplaceLaw
replace_law slots slot place table some is_new =
    let there = slot_inside slots slot some in
    elim (some_or_none (entry_at slots slot)) [
      | inl none ↦ absurd (cc)
      | inr (e, is) ↦ (replaced_table slots slot place table there is_new, replaced_pairs slots slot place e table there is is_new)
    ]
