use Rattle.silt_desk.proofs.Common.{◌≡◌, ◌+◌, ◌<◌, ◌≤◌, Some, slice_get, vec_len, vec_capacity, fresh}
use Rattle.std.proofs.Common.{ℕ}
use Rattle.silt_desk.proofs.seat.Ledgers.new.Given as goal

-- each seat so far has one part of each ledger, and the rest has the others
abbrev pub invariant-loop-number : goal.invariant-loop-number
invariant-loop-number g l = (l.calls_left.parts + l.number ≡ l.seats) × (l.calls_left.amount ≡ 0) × (l.accepted_left.parts + l.number ≡ l.seats)
    × (l.accepted_left.amount ≡ 0) × (vec_len l.places ≡ l.number) × (l.seats ≤ vec_capacity l.places) × ((k : ℕ) → k < l.number → slice_get l.places.items k ≡ Some (fresh k))
