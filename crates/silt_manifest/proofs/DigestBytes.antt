-- The bytes of digests, one after the other, and digests from bytes.
use Rattle.silt_manifest.proofs.Common.{◌≡◌, ℕ, ◌+◌, ◌*◌, ◌<◌, List, [], ◌++◌, length, map, take, get_or, refl, arith, range_with_len, cases_eq, take_all, take_more, Digest, digest_at}
use Rattle.silt_manifest.proofs.Common.{digest_bytes, digests_bytes, digests_of, Digests, flat_map_more}

-- one more digest is in its place
pub more_digests : (bytes new : List ℕ) (digests : List Digest) (none : Digest) (k : ℕ) (digest : List ℕ) → take (20 * k) bytes ≡ digest_bytes (take k digests)
    → take (20 * k + 20) new ≡ take (20 * k) bytes ++ digest → digest ≡ (get_or digests k none).0 → k < length digests → take (20 * (k + 1)) new ≡ digest_bytes (take (k + 1) digests)
more_digests bytes new digests none k digest so_far put is inside =
    let place : 20 * (k + 1) ≡ 20 * k + 20 = omega arith in
    cc (flat_map_more (λ (d : Digest). d.0) [] (take k digests) (get_or digests k none), take_more digests k none inside)

-- one more digest has twenty bytes
pub more_long : (digests : List Digest) (none : Digest) (k : ℕ) (digest : List ℕ) → ((j : ℕ) → j < k → length (get_or digests j none).0 ≡ 20)
    → digest ≡ (get_or digests k none).0 → length digest ≡ 20 → (j : ℕ) → j < k + 1 → length (get_or digests j none).0 ≡ 20
more_long digests none k digest so_far is long j inside = grind (arith, cases_eq)

-- all are in their places
pub all_digests : (bytes new : List ℕ) (d : Digests) (digest : List ℕ) → length d.hashed ≡ 16 → length new ≡ 340
    → take (20 * 16) bytes ≡ digest_bytes (take 16 d.hashed) → take (20 * 16 + 20) new ≡ take (20 * 16) bytes ++ digest → digest ≡ d.sorted.0 → new ≡ digests_bytes d
all_digests bytes new d digest count long so_far put is = cc (take_all 340 new (omega arith), take_all 16 d.hashed (omega arith))

-- digests from bytes: the last one is read
pub digests_read : (slot : List ℕ) (k : ℕ) (hashed : List Digest) (sorted : Digest) → k ≡ 16
    → take k hashed ≡ map (λ k. digest_at (121 + 20 * k) slot) (range_with_len 0 k) → length hashed ≡ 16 → sorted ≡ digest_at 441 slot
    → (let made : Digests = record { hashed = hashed; sorted = sorted } in made ≡ digests_of slot)
digests_read slot k hashed sorted end so_far room is = rw (← take_all k hashed (omega arith), so_far, end, is) refl
