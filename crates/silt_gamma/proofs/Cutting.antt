-- Lemmas on bits that are cut off at the end.
use Rattle.std.proofs.Common.{◌≡◌, ℕ, ◌+◌, ◌*◌, ◌/◌, ◌%◌, ◌^◌, ◌<◌, ◌≤◌, List, [], ◌∷◌, ◌++◌, length, take, drop, get_or, replicate, ap, ◌∙◌, arith, length-append}
use Rattle.std.proofs.lemmas.List.{append-nil, append_assoc, drop_more, get_or-take, length-take-le, set_at, take-append-drop, take_at, take_more}
use Rattle.std.proofs.Math.ListN.{set}
use Rattle.silt_gamma.specs.Bits.{low_bits, bits_of}
use Rattle.silt_gamma.proofs.BitLists.{length-bits_of, length-low_bits, low_bits_moved, low_bits_mod, low_bits_split, bits_of-append, bits_of-take}
use Rattle.silt_gamma.proofs.Writing.{Holds, length_front}

-- the fields, if the bytes are those of the first bits and of zeros
holds_front : (len spare : ℕ) (bytes new : List ℕ) → len ≤ 8 * length bytes → spare < 8 → bits_of new ≡ take len (bits_of bytes) ++ replicate spare 0 → Holds len new (take len (bits_of bytes))
holds_front len spare bytes new within short code =
    let front = take len (bits_of bytes) in
    let count = length_front len bytes within in
    let shown : take len (bits_of new) ≡ front = cc (take_at front (replicate spare 0) len count) in
    let all = ap length code ∙ length-append front (replicate spare 0) in
    search (arith, length-bits_of)

-- whole bytes stay
pub cut_whole : (len k : ℕ) (bytes new : List ℕ) → len ≤ 8 * length bytes → len ≡ 8 * k → new ≡ take k bytes → Holds len new (take len (bits_of bytes))
cut_whole len k bytes new within whole is = holds_front len 0 bytes new within (omega arith) (cc (bits_of-take k bytes (omega arith), append-nil (take len (bits_of bytes))))

-- the highest u bits of the last byte stay, and zeros follow them
pub cut_partly : (len q u f b : ℕ) (bytes kept new : List ℕ) → len ≤ 8 * length bytes → len ≡ 8 * q + u → 0 < u → u + f ≡ 8
    → kept ≡ take (q + 1) bytes → b ≡ get_or kept q b → new ≡ set kept q (b / 2 ^ f * 2 ^ f % 2 ^ 8)
    → Holds len new (take len (bits_of bytes))
cut_partly len q u f b bytes kept new within place some byte kept_is read is =
    let c = b / 2 ^ f * 2 ^ f % 2 ^ 8 in
    let whole = bits_of (take q bytes) in
    let top = low_bits u (b / 2 ^ f) in
    let rest = bits_of (drop (q + 1) bytes) in
    let here : q < length bytes = omega arith in
    let b_is : b ≡ get_or bytes q b = cc (get_or-take (q + 1) bytes q b (omega arith)) in
    let front_len = length-take-le q bytes (omega arith) in
    let new_is : new ≡ take q bytes ++ c ∷ [] = cc (take_more bytes q b here, set_at (take q bytes) b [] c q front_len) in
    let c_bits : low_bits 8 c ≡ top ++ replicate f 0 = cc (low_bits_mod 8 (b / 2 ^ f * 2 ^ f), low_bits_moved u f (b / 2 ^ f)) in
    let old_is : bits_of bytes ≡ (whole ++ top) ++ (low_bits f b ++ rest) = cc (
      take-append-drop q bytes,
      drop_more bytes q b here,
      bits_of-append (take q bytes) (b ∷ drop (q + 1) bytes),
      low_bits_split u f b,
      append_assoc top (low_bits f b) rest,
      append_assoc whole top (low_bits f b ++ rest),
    ) in
    let long : length (whole ++ top) ≡ len = omega (arith, length-append whole top, length-bits_of (take q bytes), length-low_bits u (b / 2 ^ f)) in
    let front = take_at (whole ++ top) (low_bits f b ++ rest) len long in
    holds_front len f bytes new within (omega arith) (cc (bits_of-append (take q bytes) (c ∷ []), append-nil (low_bits 8 c), append_assoc whole top (replicate f 0)))
