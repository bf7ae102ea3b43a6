-- What a table is after a key's slot took a new place, and after its path was taken.
use Rattle.silt_log_store.proofs.Common.{ℕ, ◌+◌, arith, Slots, IsTable, PlacesBelow, TakesSlot, pair_held, holds_from_pair}

-- after a new place all are below the next bound
pub replaced_below : (old new : Slots) (slot place : ℕ) → IsTable new → PlacesBelow old place → TakesSlot old new slot place → PlacesBelow new (place + 1)
replaced_below old new slot place table below takes x p is = grind (arith, pair_held, holds_from_pair)
