use Rattle.silt_backup.proofs.Common.{◌≡◌, ◌<◌, ℕ, [], Some, get_or, slice_get, HashState}
use Rattle.silt_backup.proofs.comparing.has_digests.Given as goal

-- the first hash stores have their digests
abbrev pub invariant-loop-place : goal.invariant-loop-place
invariant-loop-place l =
    (place : ℕ) (store : HashState) → place < l.place → slice_get l.held.hashes.items place ≡ Some store → (get_or l.digests.hashed place (record { 0 = [] })).0 ≡ store.digest
