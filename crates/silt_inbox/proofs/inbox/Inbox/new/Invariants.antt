use Rattle.std.proofs.Common.{◌≡◌, ◌+◌, ◌≤◌, All, Some, vec_len, vec_capacity}
use Rattle.silt_inbox.proofs.inbox.Inbox.new.Given as goal

-- each place so far has one part of the ledger, and the rest has the others
abbrev pub invariant-loop-number : goal.invariant-loop-number
invariant-loop-number g l = (l.rest.parts + l._number ≡ l.feeders) × (l.rest.amount ≡ 0) × (vec_len l.places ≡ l._number) × (l.feeders ≤ vec_capacity l.places) × All (λ f. f ≡ Some 0) l.places.items
