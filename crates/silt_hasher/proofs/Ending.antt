-- How a message ends.
use Rattle.std.proofs.Common.{◌≡◌, ℕ, ◌+◌, ◌-◌, ◌*◌, ◌/◌, ◌%◌, ◌^◌, List, ◌∷◌, length, take, replicate, refl, ap, ◌∙◌, arith, add-one}
use Rattle.std.proofs.lemmas.List.{take-replicate}
use Rattle.std.proofs.lemmas.Slice.{take-put_mid}
use Rattle.std.specs.Int.{w64, to_be_bytes}
use Rattle.sha1.specs.Sha1.{digest_bytes, hash_after, padded_message, padding, sha1}
use Rattle.silt_hasher.specs.States.{taken_of}
use Rattle.silt_hasher.specs.Taking.{HasTaken, Taken, taken_after}
use Rattle.silt_hasher.specs.declared.state.Sha1State.{Sha1State}
use Rattle.silt_hasher.proofs.Taking.{from_start, has_grown}
use borrow.Rule.Slice.PartMut.{put_mid}

-- the byte 0x80, zeros and the length in bits are the padding of a message of this length
pub end_written : (total zeros at end k : ℕ) (start bits : List ℕ) → zeros ≡ (119 - total % 64) % 64 → at ≡ zeros + 1 → end ≡ zeros + 9
    → start ≡ 0x80 ∷ replicate 71 0 → bits ≡ to_be_bytes w64 (total * 8 % 2 ^ 64) → take end (put_mid at k start bits) ≡ padding total
end_written total zeros at end k start bits count at_is end_is start_is bits_is =
    let few : length bits ≡ 8 = rw bits_is refl in
    let begun : List ℕ = 0x80 ∷ replicate 71 0 in
    let first : take (zeros + 1) begun ≡ 0x80 ∷ replicate zeros 0 = rw (add-one, take-replicate {X = ℕ} zeros 71 0 (omega (arith, count))) refl in
    rw (at_is, start_is) (take-put_mid (zeros + 1) k begun bits end (omega (arith, few, end_is)) (omega (arith, count)) ∙ rw (first, bits_is, count) refl)

-- the padding depends on the length modulo 2^64 alone
same_padding : (total length : ℕ) → total ≡ length % 2 ^ 64 → padding total ≡ padding length
same_padding total length is =
    let used : total % 64 ≡ length % 64 = omega (arith, is) in
    let bits : total * 8 % 2 ^ 64 ≡ length * 8 % 2 ^ 64 = omega (arith, is) in
    rw (used, bits) refl

-- the number of bytes that are taken in from the first one on
counted : (taken : Taken) (bytes : List ℕ) → HasTaken taken bytes → taken.total ≡ length bytes % 2 ^ 64
unfolding HasTaken taken_after
counted taken bytes has = search arith

-- the hash value of these bytes
hashed : (taken : Taken) (bytes : List ℕ) → HasTaken taken bytes → taken.hash ≡ hash_after bytes (length bytes / 64)
unfolding HasTaken taken_after
hashed taken bytes has = ap (λ (t : Taken). t.hash) has ∙ from_start bytes (length bytes / 64)

-- once the padding is taken in, the hash value is that of the message
pub ended : (old new : Sha1State) (bytes : List ℕ) → HasTaken (taken_of old) bytes → taken_of new ≡ taken_after (taken_of old) (padding old.total) → digest_bytes new.hash 5 ≡ sha1 bytes
unfolding sha1
ended old new bytes has is =
    let same : padding old.total ≡ padding (length bytes) = same_padding old.total (length bytes) (counted (taken_of old) bytes has) in
    let all : HasTaken (taken_of new) (padded_message bytes) = has_grown (taken_of old) (taken_of new) (padding (length bytes)) (rw same at is) bytes has in
    ap (λ (h : List ℕ). digest_bytes h 5) (hashed (taken_of new) (padded_message bytes) all)
