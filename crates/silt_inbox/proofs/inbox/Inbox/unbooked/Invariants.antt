use Rattle.std.proofs.Common.{◌≡◌, ◌≤◌, All, None, vec_len, vec_capacity}
use Rattle.silt_inbox.proofs.inbox.Inbox.unbooked.Given as goal

-- each place so far is one without a book
abbrev pub invariant-loop-number : goal.invariant-loop-number
invariant-loop-number g l = (vec_len l.places ≡ l._number) × (l.feeders ≤ vec_capacity l.places) × All (λ f. f ≡ None) l.places.items
