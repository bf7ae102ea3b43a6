use Rattle.silt_session.proofs.Common.{◌≡◌, ◌<◌, ◌≤◌, ℕ, [], vec_capacity, vec_len, HasPart}
use Rattle.silt_session.proofs.set.no_parts.Given as goal

-- the lists so far are empty, and there is room for the others
abbrev pub invariant-loop-number : goal.invariant-loop-number
invariant-loop-number l = (vec_len l.parts ≡ l._number) × (l.count ≤ vec_capacity l.parts) × ((i : ℕ) → i < l._number → HasPart l.parts.items (λ part. part.items) i [])
