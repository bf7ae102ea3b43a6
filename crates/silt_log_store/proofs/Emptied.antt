-- The first key of a log store with no rows.
use Rattle.silt_log_store.proofs.Common.{◌≡◌, ℕ, true, false, Option, Some, None, IsSome, option_map, refl, ap, ◌∙◌, arith, is_some, option_and_then, Entry, PlacesBelow, Slots, entry_at, Placing}
use Rattle.silt_cuckoo.specs.Placing.{first_path, free_slot, path_for, placed, put_along, shortest_walk}
use Rattle.silt_log_store.specs.Placement.{entered, entered_under}

-- a table with places of no rows has no entry
no_entry : (table : Slots) (slot : ℕ) → PlacesBelow table 0 → entry_at table slot ≡ None
no_entry table slot below = go (entry_at table slot) refl
  where
    go : (o : Option Entry) → entry_at table slot ≡ o → entry_at table slot ≡ None
    go None is = is
    go (Some e) is = let low = below slot e.1 (ap (option_map (λ (e : Entry). e.1)) is) in absurd (omega (arith, low))

-- so the first slot of a bucket is free
has_free : (table : Slots) (bucket : ℕ) → PlacesBelow table 0 → IsSome (free_slot table bucket)
unfolding free_slot
has_free table bucket below = grind (arith, no_entry)

-- a key is placed in it
is_placed : (table : Slots) (first second place : ℕ) → PlacesBelow table 0 → IsSome (placed table first second place)
unfolding placed path_for
is_placed table first second place below = go (free_slot table first) (has_free table first below)
  where
    go : (o : Option ℕ) → IsSome o → IsSome (option_map (put_along table first second place) (first_path o (free_slot table second) (shortest_walk table first)))
    go (Some slot) some = refl
    go None some = absurd (cc)

-- and so it is planned
pub first_planned : (table : Slots) (first second : ℕ) (placing : Option Placing) → PlacesBelow table 0
    → ((place : ℕ) → option_and_then (λ (p : Placing). entered table p place) placing ≡ entered_under table first second place None) → IsSome placing
first_planned table first second None below rule =
    let some = is_placed table first second 0 below in
    let none = ap is_some (rule 0) in
    absurd (let clash : false ≡ true = none ∙ some in cc)
first_planned table first second (Some placing) below rule = refl
