use Rattle.silt_desk.proofs.Common.{◌≡◌, ◌<◌, ◌≤◌, Some, slice_get, vec_len, vec_capacity, unbooked}
use Rattle.std.proofs.Common.{ℕ}
use Rattle.silt_desk.proofs.seat.Ledgers.unbooked.Given as goal

-- each seat so far has its number
abbrev pub invariant-loop-number : goal.invariant-loop-number
invariant-loop-number g l = (vec_len l.places ≡ l.number) × (l.seats ≤ vec_capacity l.places) × ((k : ℕ) → k < l.number → slice_get l.places.items k ≡ Some (unbooked k))
