-- What is taken in, part by part.
use Rattle.std.proofs.Common.{Vec, ◌≡◌, ℕ, zero, suc, ◌+◌, ◌-◌, ◌*◌, ◌/◌, ◌≤◌, List, [], ◌++◌, length, take, drop, refl, sym, ap, subst, ◌∙◌, arith, length-append, length-drop}
use Rattle.std.proofs.lemmas.Slice.{take-put_mid}
use Rattle.std.specs.List.{copy_within}
use Rattle.std.specs.Vec.{with_items}
use Rattle.std.proofs.Math.Seq.{paste}
use Rattle.std.proofs.lemmas.List.Edits.{take-paste}
use borrow.Rule.Slice.PartMut.{put_mid}
use Rattle.std.proofs.lemmas.List.{drop-take, length-take-le, with_items_is, append_assoc, append-nil, drop-append-le, drop-drop, take-append-le, take-append-drop, take-take}
use Rattle.sha1.specs.Sha1.{hash_after, initial_hash}
use Rattle.silt_hasher.specs.Taking.{HasTaken, Taken, hash_from, taken_after}

-- only the blocks that are counted matter
from_same : (hash a b : List ℕ) (n : ℕ) → take (n * 64) a ≡ take (n * 64) b → hash_from hash a n ≡ hash_from hash b n
unfolding hash_from
from_same hash a b zero _ = refl
from_same hash a b (suc n) same =
    let more : suc n * 64 ≡ n * 64 + 64 = omega arith in
    let both : take (n * 64 + 64) a ≡ take (n * 64 + 64) b = rw (← more) same in
    let before : take (n * 64) a ≡ take (n * 64) b = cc (take-take (n * 64) (n * 64 + 64) a (omega arith), take-take (n * 64) (n * 64 + 64) b (omega arith)) in
    let block : take 64 (drop (n * 64) a) ≡ take 64 (drop (n * 64) b) = cc (drop-take (n * 64) 64 a, drop-take (n * 64) 64 b) in
    rw (block, from_same hash a b n before) refl

-- the blocks one after the other
from_there : (hash bytes : List ℕ) (a n : ℕ) → hash_from hash bytes (n + a) ≡ hash_from (hash_from hash bytes a) (drop (a * 64) bytes) n
unfolding hash_from
from_there hash bytes a zero = ap (hash_from hash bytes) (omega arith)
from_there hash bytes a (suc n) =
    let place : (n + a) * 64 ≡ a * 64 + n * 64 = omega arith in
    let block : drop ((n + a) * 64) bytes ≡ drop (n * 64) (drop (a * 64) bytes) = ap (λ (k : ℕ). drop k bytes) place ∙ sym (drop-drop (n * 64) (a * 64) bytes) in
    let one : suc n + a ≡ suc (n + a) = omega arith in
    ap (hash_from hash bytes) one ∙ rw (block, from_there hash bytes a n) refl

-- from the first hash value on
pub from_start : (bytes : List ℕ) (n : ℕ) → hash_from initial_hash bytes n ≡ hash_after bytes n
unfolding hash_from hash_after
from_start bytes zero = refl
from_start bytes (suc n) = rw (from_start bytes n) refl

-- bytes and then more bytes are taken in like all of them
pub taken_twice : (taken : Taken) (a b : List ℕ) → taken_after (taken_after taken a) b ≡ taken_after taken (a ++ b)
unfolding taken_after
taken_twice taken a b =
    let all : List ℕ = taken.left ++ a in
    let n : ℕ = length all / 64 in
    let left : List ℕ = drop (n * 64) all in
    let joined : taken.left ++ (a ++ b) ≡ all ++ b = sym (append_assoc taken.left a b) in
    let left_len : length left ≡ length all - n * 64 = length-drop (n * 64) all in
    let k : ℕ = length (left ++ b) / 64 in
    let count : length (all ++ b) / 64 ≡ k + n = omega (arith, length-append all b, length-append left b, left_len) in
    search (arith, drop-append-le, from_there, from_same, take-append-le, drop-drop, length-append)

-- no bytes more
pub taken_none : (taken : Taken) (a : List ℕ) → taken_after (taken_after taken a) [] ≡ taken_after taken a
taken_none taken a = taken_twice taken a [] ∙ rw (append-nil a) refl

pub has_more : (taken : Taken) (a b : List ℕ) → HasTaken taken a → HasTaken (taken_after taken b) (a ++ b)
unfolding HasTaken
has_more taken a b has = rw has (taken_twice _ a b)

-- what has grown by bytes has taken them in too
pub has_grown : (old new : Taken) (bytes : List ℕ) → new ≡ taken_after old bytes → (taken : List ℕ) → HasTaken old taken → HasTaken new (taken ++ bytes)
has_grown old new bytes is taken has = subst (λ t. HasTaken t (taken ++ bytes)) (sym is) (has_more old taken bytes has)

pub has_none : (taken : Taken) → HasTaken taken [] → HasTaken (taken_after taken []) []
unfolding HasTaken
has_none taken has = rw has (taken_none _ [])

length-put_mid : (a k : ℕ) (xs ys : List ℕ) → a + k ≤ length xs → length ys ≡ k → length (put_mid a k xs ys) ≡ length xs
length-put_mid a k xs ys fits count = search (arith, length-append, length-take-le, length-drop)

-- bytes that are written behind those that wait
pub pended : {Z : Type 0} (hasher : Taken) (items : Vec ℕ Z) (bytes : List ℕ) (len k end : ℕ) → len + length bytes ≤ items.len → k ≡ length bytes → end ≡ len + length bytes
    → taken_after hasher (take end (with_items items (put_mid len k items.items bytes)).items) ≡ taken_after (taken_after hasher (take len items.items)) bytes
pended hasher items bytes len k end fits count is = search (arith, with_items_is, length-put_mid, take-put_mid, taken_twice)

pub few_of : (len : ℕ) (items lent : List ℕ) → len ≤ length items → length lent ≤ length (take len items) → length lent ≤ len
few_of len items lent fits few = omega (arith, few, length-take-le len items fits)

-- bytes that were hashed elsewhere no longer wait
pub returned : (hasher after : Taken) (items new lent : List ℕ) (len rest : ℕ) → len ≤ length items → length lent ≤ len → after ≡ taken_after hasher lent
    → lent ≡ take (length lent) (take len items) → rest ≡ len - length lent → new ≡ copy_within items (length lent) len 0
    → taken_after after (take rest new) ≡ taken_after hasher (take len items)
returned hasher after items new lent len rest fits few after_is is rest_is new_is =
    let n : ℕ = length lent in
    let waiting : List ℕ = take len items in
    let all : n + rest ≡ len = omega (arith, few, rest_is) in
    let cut : drop n waiting ≡ take rest (drop n items) = ap (λ k. drop n (take k items)) (sym all) ∙ drop-take n rest items in
    let front : take rest new ≡ take rest (drop n items) =
    rw (new_is, ← rest_is) (ap (λ k. take k (paste items 0 (drop n items) rest)) (omega arith) ∙ take-paste items 0 (drop n items) rest (omega arith) (omega (arith, length-drop n items))) in
    rw (after_is, front, ← cut) (taken_twice hasher lent (drop n waiting) ∙ rw (ap (λ x. x ++ drop n waiting) is) (ap (taken_after hasher) (take-append-drop n waiting)))
