-- What a state has taken in once bytes go into its block.
use Rattle.std.proofs.Common.{◌≡◌, ℕ, zero, suc, ◌+◌, ◌-◌, ◌/◌, ◌%◌, ◌^◌, ◌<◌, ◌≤◌, List, [], ◌++◌, length, take, drop, refl, sym, ap, ◌∙◌, arith, length-append, length-drop}
use Rattle.std.proofs.lemmas.List.{append-nil, drop_all, drop-drop, length-take-le, take_all, take_rest, take-append-drop}
use Rattle.std.proofs.lemmas.Slice.{take-put_mid}
use Rattle.sha1.specs.Sha1.{compress}
use Rattle.silt_hasher.specs.States.{taken_of}
use Rattle.silt_hasher.specs.Taking.{Taken, hash_from, taken_after}
use Rattle.silt_hasher.specs.declared.state.Sha1State.{Sha1State}
use Rattle.silt_hasher.proofs.Taking.{taken_twice}
use borrow.Rule.Slice.PartMut.{post_of, put_mid}

-- bytes that leave the block short
pub short : (taken : Taken) (bytes : List ℕ) → length (taken.left ++ bytes) < 64
    → taken_after taken bytes ≡ record { hash = taken.hash; left = taken.left ++ bytes; total = (taken.total + length bytes) % 2 ^ 64 }
unfolding taken_after hash_from
short taken bytes few = search arith

-- bytes that fill the block
pub whole : (taken : Taken) (bytes : List ℕ) → length (taken.left ++ bytes) ≡ 64
    → taken_after taken bytes ≡ record { hash = compress taken.hash (taken.left ++ bytes); left = []; total = (taken.total + length bytes) % 2 ^ 64 }
unfolding taken_after hash_from
whole taken bytes full =
    let one : length (taken.left ++ bytes) / 64 ≡ suc zero = omega (arith, full) in
    let block : take 64 (taken.left ++ bytes) ≡ taken.left ++ bytes = take_all 64 (taken.left ++ bytes) (omega (arith, full)) in
    search (arith, drop_all)

-- the block is short behind the bytes
pub fills_short : (old new : Sha1State) (bytes ys : List ℕ) (used k : ℕ) → length old.block ≡ 64 → used ≡ old.total % 64 → used + length bytes < 64 → ys ≡ bytes
    → new.hash ≡ old.hash → new.block ≡ put_mid used k old.block ys → new.total ≡ (old.total + length bytes) % 2 ^ 64 → taken_of new ≡ taken_after (taken_of old) bytes
fills_short old new bytes ys used k len is few same hash block total =
    let left_len : length (take used old.block) ≡ used = length-take-le used old.block (omega (arith, len, few)) in
    let at : new.total % 64 ≡ used + length bytes = omega (arith, is, few, total) in
    let left : take (used + length bytes) new.block ≡ take used old.block ++ bytes = search (arith, take-put_mid) in
    let all : length (take (old.total % 64) old.block ++ bytes) < 64 = rw (← is) (omega (arith, length-append (take used old.block) bytes, left_len, few)) in
    rw (short (taken_of old) bytes all, at, ← is, left, hash, total) refl

-- the block is full behind the bytes, and the hash value takes it in
pub fills_whole : (old new : Sha1State) (bytes ys : List ℕ) (used k : ℕ) → length old.block ≡ 64 → used ≡ old.total % 64 → used + length bytes ≡ 64 → k ≡ length bytes → ys ≡ bytes
    → new.hash ≡ compress old.hash (put_mid used k old.block ys) → new.total ≡ (old.total + length bytes) % 2 ^ 64 → taken_of new ≡ taken_after (taken_of old) bytes
fills_whole old new bytes ys used k len is full count same hash total =
    let left_len : length (take used old.block) ≡ used = length-take-le used old.block (omega (arith, len, full)) in
    let at : new.total % 64 ≡ zero = omega (arith, is, full, total) in
    let behind : post_of used k old.block ≡ [] = drop_all k (drop used old.block) (omega (arith, len, full, count, length-drop used old.block)) in
    let block : put_mid used k old.block ys ≡ take used old.block ++ bytes = rw (behind, append-nil, same) refl in
    let all : length (take (old.total % 64) old.block ++ bytes) ≡ 64 = rw (← is) (omega (arith, length-append (take used old.block) bytes, left_len, full)) in
    rw (whole (taken_of old) bytes all, at, ← is, hash, block, total) refl

-- the hash value takes in a block that is not copied
pub adds_block : (old new : Sha1State) (block : List ℕ) → old.total % 64 ≡ 0 → length block ≡ 64 → new.hash ≡ compress old.hash block
    → new.total ≡ (old.total + 64) % 2 ^ 64 → taken_of new ≡ taken_after (taken_of old) block
adds_block old new block none full hash total =
    let at : new.total % 64 ≡ zero = omega (arith, none, total) in
    let empty : old.total % 64 ≡ zero = none in
    let all : length (take (old.total % 64) old.block ++ block) ≡ 64 = rw empty full in
    rw (whole (taken_of old) block all, at, empty, full, hash, total) refl

-- the number of bytes grows by those that are taken in
pub total_of : (old new : Sha1State) (bytes : List ℕ) → taken_of new ≡ taken_after (taken_of old) bytes → new.total ≡ (old.total + length bytes) % 2 ^ 64
unfolding taken_after
total_of old new bytes is = ap (λ (t : Taken). t.total) is

-- bytes are taken in once their first ones are, and then the others
pub goes_on : (old new : Taken) (bytes : List ℕ) (at : ℕ) → new ≡ taken_after old (take at bytes) → taken_after new (drop at bytes) ≡ taken_after old bytes
goes_on old new bytes at is = rw is (taken_twice old (take at bytes) (drop at bytes) ∙ ap (taken_after old) (take-append-drop at bytes))

-- the next block of the bytes is taken in
pub next_block : (old new : Taken) (bytes : List ℕ) (at next k : ℕ) → next ≡ at + 64 → k ≡ 64 → new ≡ taken_after old (take k (drop at bytes))
    → taken_after new (drop next bytes) ≡ taken_after old (drop at bytes)
next_block old new bytes at next k there one is =
    let rest : drop next bytes ≡ drop 64 (drop at bytes) = ap (λ (n : ℕ). drop n bytes) there ∙ sym (drop-drop 64 at bytes) in
    rw rest (goes_on old new (drop at bytes) 64 (rw one at is))

-- the first bytes end the block in progress
pub block_ends : (old new : Sha1State) (bytes : List ℕ) (room : ℕ) → room + old.total % 64 ≡ 64 → room ≤ length bytes → taken_of new ≡ taken_after (taken_of old) (take room bytes)
    → new.total % 64 ≡ 0
block_ends old new bytes room ends fits is = omega (arith, ends, total_of old new (take room bytes) is, length-take-le room bytes fits)

-- the last bytes are taken in
pub last_bytes : (old new : Taken) (bytes : List ℕ) (at end : ℕ) → end ≡ at → new ≡ taken_after old (take (length bytes - end) (drop end bytes))
    → new ≡ taken_after old (drop at bytes)
last_bytes old new bytes at end there is = is ∙ ap (taken_after old) (take_rest bytes end ∙ ap (λ (n : ℕ). drop n bytes) there)
