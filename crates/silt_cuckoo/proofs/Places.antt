-- Which places are in the table, and which are not.
use Rattle.silt_cuckoo.proofs.Common.{◌≡◌, ◌≢◌, inl, inr, ℕ, ◌+◌, ◌/◌, ◌≤◌, Some, option_map, ap, ◌∙◌, arith, cases_eq, Slots, Entry, IsTable, HoldsPlace, empty_slots, place_at, pair_of}
use Rattle.silt_cuckoo.proofs.Common.{table_pairs, AddsPair, ne_eqb, PlacesBelow}
use Rattle.silt_cuckoo.proofs.Placed.{has_entry, table_pairs-held, table_pairs-not_held, cases_held}
use Rattle.silt_cuckoo.proofs.Tables.{entry_at-free}

-- a place that is not below the bound is not in the table
pub above_not_held : (slots : Slots) (bound place : ℕ) → PlacesBelow slots bound → bound ≤ place → ¬ HoldsPlace slots place
above_not_held slots bound place below above (slot, is) = let low = below slot place is in omega arith

-- an empty table holds no place
pub empty_below : (buckets bound : ℕ) → PlacesBelow (empty_slots buckets) bound
empty_below buckets bound slot place is = search (arith, entry_at-free)

-- a place in the table has a pair
pub pair_held : (slots : Slots) (slot place : ℕ) → IsTable slots → place_at slots slot ≡ Some place → (pair : ℕ × ℕ) × (table_pairs slots place ≡ Some pair)
pair_held slots slot place table is =
    let entry = has_entry slots slot place is in
    (pair_of (slot / 4) entry.0.0, table_pairs-held slots slot place table.places_apart is ∙ ap (option_map (λ (e : Entry). pair_of (slot / 4) e.0)) entry.1)

-- a place that has a pair is in the table
pub holds_from_pair : (slots : Slots) (place : ℕ) (pair : ℕ × ℕ) → table_pairs slots place ≡ Some pair → HoldsPlace slots place
holds_from_pair slots place pair is = elim (cases_held slots place) [
  | inl held ↦ held
  | inr not_held ↦ let none = table_pairs-not_held slots place not_held in absurd (cc)
]

-- after a new place was placed, a place in the table is the new one or was there before
pub held_before : (old new : Slots) (place first second slot p : ℕ) → IsTable new → AddsPair old new place first second → place_at new slot ≡ Some p → p ≢ place → HoldsPlace old p
held_before old new place first second slot p table adds is other = search (arith, pair_held, holds_from_pair, ne_eqb)

-- after a new place all are below the next bound
pub placed_below : (old new : Slots) (place first second : ℕ) → IsTable new → PlacesBelow old place → AddsPair old new place first second → PlacesBelow new (place + 1)
placed_below old new place first second table below adds slot p is = elim (cases_eq p place) [
  | inl same ↦ omega arith
  | inr other ↦
      let before = held_before old new place first second slot p table adds is other in
      omega (arith, below before.0 p before.1)
]
