use Rattle.silt_desk.proofs.Common.{◌≡◌, ◌+◌, vec_len, calls_of, accepted_of}
use Rattle.silt_desk.proofs.seat.Books.settle.Given as goal

-- the parts and amounts of the seats taken out so far are joined
abbrev pub invariant-loop-seat : goal.invariant-loop-seat
invariant-loop-seat g l = (l.calls.parts + vec_len l.seats ≡ vec_len l.fn.seats) × (l.accepted.parts + vec_len l.seats ≡ vec_len l.fn.seats)
    × (l.calls.amount + calls_of l.seats.items ≡ calls_of l.fn.seats.items) × (l.accepted.amount + accepted_of l.seats.items ≡ accepted_of l.fn.seats.items)

abbrev pub decreases-loop-seat : goal.decreases-loop-seat
decreases-loop-seat g l = vec_len l.seats
