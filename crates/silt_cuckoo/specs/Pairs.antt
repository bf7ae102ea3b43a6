-- The pairs of a table: each place in it, with the two buckets of its entry.
use Rattle.std.specs.Prelude.{◌≡◌, ℕ, ◌/◌, ◌==◌, Bool, false, if◌then◌else◌, length, find, min, max, Option, Some, None, unwrap_or, option_map, option_and_then}
use Rattle.std.specs.List.{range_with_len}
use Rattle.silt_cuckoo.specs.Slots.{Entry, Slots, entry_at}

-- two buckets, the lower first
abbrev pub pair_of : ℕ → ℕ → ℕ × ℕ
pair_of first second = (min first second, max first second)

-- the two buckets of the entry in a slot
abbrev pub pair_at : Slots → ℕ → Option (ℕ × ℕ)
pair_at slots slot = option_map (λ (e : Entry). pair_of (slot / 4) e.0) (entry_at slots slot)

-- the entry in this slot has this place
abbrev pub has_place : Slots → ℕ → ℕ → Bool
has_place slots place slot = unwrap_or (option_map (λ (e : Entry). e.1 == place) (entry_at slots slot)) false

-- the slot that has a place
abbrev pub slot_of_place : Slots → ℕ → Option ℕ
slot_of_place slots place = find (has_place slots place) (range_with_len 0 (length slots))

-- the pairs of a table: for each place in it, the two buckets of its entry
unfoldable pub table_pairs : Slots → ℕ → Option (ℕ × ℕ)
table_pairs slots place = option_and_then (pair_at slots) (slot_of_place slots place)

-- a place is added under these two buckets, and every other place keeps its pair
abbrev pub AddsPair : Slots → Slots → ℕ → ℕ → ℕ → Type 0
AddsPair old new place first second = (p : ℕ) → table_pairs new p ≡ (if p == place then Some (pair_of first second) else table_pairs old p)

-- a place replaces that of a slot: it gets the slot's pair, the old place is gone, and every other place keeps its pair
abbrev pub TakesSlot : Slots → Slots → ℕ → ℕ → Type 0
TakesSlot old new slot place =
    (p : ℕ) → table_pairs new p ≡ (if p == place then pair_at old slot else (if has_place old p slot then None else table_pairs old p))
