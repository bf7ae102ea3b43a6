-- Lemmas on appending bits.
use Rattle.std.proofs.Common.{◌≡◌, ℕ, ◌+◌, ◌-◌, ◌*◌, ◌/◌, ◌%◌, ◌^◌, ◌<◌, ◌≤◌, List, [], ◌∷◌, ◌++◌, length, take, get_or, replicate, sym, ap, ◌∙◌, add-zero, arith, length-append}
use Rattle.std.proofs.lemmas.List.{append-nil, append_assoc, drop_all, drop_at, drop_more, get_or_append_left, length-replicate, length-take-le, replicate-append-replicate, set_at}
use Rattle.std.proofs.lemmas.List.{take-append-drop, take_at}
use Rattle.std.proofs.Math.Seq.{take-append-add}
use Rattle.std.proofs.Math.ListN.{set}
use Rattle.std.proofs.Math.Nat.{zero-mod}
use Rattle.std.proofs.Math.Pow.{pow_mono}
use Rattle.std.specs.Int.RustNames.{bit_or}
use Rattle.std.proofs.lemmas.Nat.{or_shifted, shl_whole, shl-shr, shr_below, shr_split}
use Rattle.std.specs.Int.{w64, to_be_bytes}
use Rattle.silt_gamma.specs.Bits.{low_bits, bits_of, HoldsBits}
use Rattle.silt_gamma.proofs.Gamma.{low_bits_same}
use Rattle.silt_gamma.proofs.BitLists.{length-bits_of, length-low_bits, low_bits_moved, low_bits_mod, low_bits_split, low_bits_joined, low_bits-zero, bits_of-append, bits_of-take}
use Rattle.silt_gamma.proofs.BitLists.{bits_of_to_be, take_into_zeros}

-- how many bits the first ones are
pub length_front : (len : ℕ) (bytes : List ℕ) → len ≤ 8 * length bytes → length (take len (bits_of bytes)) ≡ len
length_front len bytes within = length-take-le len (bits_of bytes) (omega (arith, length-bits_of bytes))

-- a number of some bits at the top of a word
pub aligned : (width value : ℕ) → 1 ≤ width → width ≤ 64 → value < 2 ^ width → (value * 2 ^ (64 - width) % 2 ^ 64 / 2 ^ (64 - width) ≡ value)
    × (low_bits 64 (value * 2 ^ (64 - width) % 2 ^ 64) ≡ low_bits width value ++ replicate (64 - width) 0)
aligned width value some word small =
    let whole : width + (64 - width) ≡ 64 = omega arith in
    let fits : value * 2 ^ (64 - width) % 2 ^ 64 ≡ value * 2 ^ (64 - width) = shl_whole value width (64 - width) 64 small (omega arith) in
    (cc (shl-shr value (64 - width)), cc (low_bits_moved width (64 - width) value))

-- appending to bits that end with a whole byte adds bytes behind it
pub append_whole : (width word len k : ℕ) (bytes more new : List ℕ) → HoldsBits bytes (take len (bits_of bytes)) → len ≤ 8 * length bytes → len % 8 ≡ 0 → width ≤ 64
    → low_bits 64 word ≡ low_bits width (word / 2 ^ (64 - width)) ++ replicate (64 - width) 0 → more ≡ to_be_bytes w64 word → width ≤ 8 * k → 8 * k < width + 8 → new ≡ bytes ++ take k more
    → HoldsBits new (take len (bits_of bytes) ++ low_bits width (word / 2 ^ (64 - width)))
append_whole width word len k bytes more new filled within whole small alone made low high is =
    let bits = take len (bits_of bytes) in
    let top = low_bits width (word / 2 ^ (64 - width)) in
    let count = length_front len bytes within in
    let size = ap length filled.code ∙ length-append bits (replicate filled.spare 0) ∙ ap (λ x. length bits + x) (length-replicate filled.spare 0) in
    let bytes_size = length-bits_of bytes in
    let none : filled.spare ≡ 0 = omega arith in
    let old : bits_of bytes ≡ bits = cc (filled.code, append-nil bits) in
    let made_bits : bits_of more ≡ low_bits 64 word = cc (bits_of_to_be word) in
    let eight : length more ≡ 8 = omega (arith, ap length made_bits, length-bits_of more, length-low_bits 64 word) in
    let wide = length-low_bits width (word / 2 ^ (64 - width)) in
    let added : bits_of (take k more) ≡ top ++ replicate (8 * k - width) 0 =
    cc (bits_of-take k more (omega arith), take_into_zeros top (8 * k) (64 - width) (omega arith) (omega arith)) in
    record {
      spare = 8 * k - width;
      short = omega arith;
      code = cc (bits_of-append bytes (take k more), append_assoc bits top (replicate (8 * k - width) 0));
    }

-- what of a word goes into the rest of a byte and into the bytes behind it
tail_bits : (f k width word : ℕ) → f ≤ 8 → k ≤ 8 → width ≤ 64 → width ≤ f + 8 * k → low_bits 64 word ≡ low_bits width (word / 2 ^ (64 - width)) ++ replicate (64 - width) 0
    → low_bits f (word / 2 ^ (64 - f)) ++ take (8 * k) (low_bits 64 (word * 2 ^ f % 2 ^ 64)) ≡ low_bits width (word / 2 ^ (64 - width)) ++ replicate (f + 8 * k - width) 0
tail_bits f k width word byte few small within alone =
    let top = low_bits width (word / 2 ^ (64 - width)) in
    let front = low_bits f (word / 2 ^ (64 - f)) in
    let rest = low_bits (64 - f) word ++ replicate f 0 in
    let whole : (64 - f) + f ≡ 64 = omega arith in
    let turned : f + (64 - f) ≡ 64 = omega arith in
    let moved : low_bits 64 (word * 2 ^ f % 2 ^ 64) ≡ rest = cc (low_bits_mod 64 (word * 2 ^ f), low_bits_moved (64 - f) f word) in
    let joined : front ++ rest ≡ top ++ replicate ((64 - width) + f) 0 = cc (
      append_assoc front (low_bits (64 - f) word) (replicate f 0),
      low_bits_split f (64 - f) word,
      append_assoc top (replicate (64 - width) 0) (replicate f 0),
      replicate-append-replicate {A = ℕ} (64 - width) f 0,
    ) in
    let wide = length-low_bits width (word / 2 ^ (64 - width)) in
    let sized = length-low_bits f (word / 2 ^ (64 - f)) in
    cc (take-append-add front rest (8 * k), take_into_zeros top (f + 8 * k) ((64 - width) + f) (omega arith) (omega arith))

-- zeros at the end of a number leave room for another
low_zeros : (f b x : ℕ) → low_bits f b ≡ replicate f 0 → x < 2 ^ f → bit_or b x ≡ b / 2 ^ f * 2 ^ f + x
low_zeros f b x zeros small =
    let same = (low_bits_same f b 0 [] [] (ap (λ xs. xs ++ []) (zeros ∙ sym (low_bits-zero f)))).0 ∙ zero-mod (2 ^ f) in
    let whole : b ≡ b / 2 ^ f * 2 ^ f = sym (shr_split b f) ∙ ap (λ y. b / 2 ^ f * 2 ^ f + y) same ∙ add-zero (b / 2 ^ f * 2 ^ f) in
    ap (λ y. bit_or y x) whole ∙ or_shifted (b / 2 ^ f) f x small

-- some bits of a last byte, and the zeros that fill it up
record LastByte (len q u f b : ℕ) (bytes : List ℕ) : Type 0 where
  bytes_are : bytes ≡ take q bytes ++ b ∷ []
  front_len : length (take q bytes) ≡ q
  bits_are : take len (bits_of bytes) ≡ bits_of (take q bytes) ++ low_bits u (b / 2 ^ f)
  zeros : low_bits f b ≡ replicate f 0

-- the last byte of bits that do not fill it
last_byte : (len q u f b : ℕ) (bytes more : List ℕ) → HoldsBits bytes (take len (bits_of bytes)) → len ≤ 8 * length bytes
    → len ≡ 8 * q + u → 0 < u → u + f ≡ 8 → b ≡ get_or (bytes ++ more) q b → LastByte len q u f b bytes
last_byte len q u f b bytes more filled within place some byte read =
    let bits = take len (bits_of bytes) in
    let count = length_front len bytes within in
    let size = ap length filled.code ∙ length-append bits (replicate filled.spare 0) ∙ ap (λ x. length bits + x) (length-replicate filled.spare 0) in
    let bytes_size = length-bits_of bytes in
    let many : length bytes ≡ q + 1 = omega arith in
    let spare : filled.spare ≡ f = omega arith in
    let here : q < length bytes = omega arith in
    let is : bytes ≡ take q bytes ++ b ∷ [] =
    cc (take-append-drop q bytes, drop_more bytes q b here, get_or_append_left bytes more b q here, drop_all (q + 1) bytes (omega arith)) in
    let front = length-take-le q bytes (omega arith) in
    let whole = bits_of (take q bytes) in
    let top = low_bits u (b / 2 ^ f) in
    let before = whole ++ top in
    let all : bits_of bytes ≡ before ++ low_bits f b =
    cc (bits_of-append (take q bytes) (b ∷ []), append-nil (low_bits 8 b), low_bits_split u f b, append_assoc whole top (low_bits f b)) in
    let long : length before ≡ len = omega (arith, length-append whole top, length-bits_of (take q bytes), length-low_bits u (b / 2 ^ f)) in
    record {
      bytes_are = is;
      front_len = front;
      bits_are = cc (take_at before (low_bits f b) len long);
      zeros = cc (filled.code, drop_at before (low_bits f b) len long, drop_at bits (replicate filled.spare 0) len count);
    }

-- appending to bits that end within a byte fills that byte first, and adds bytes behind it
pub append_partly : (width word len k b : ℕ) (bytes more new : List ℕ) → HoldsBits bytes (take len (bits_of bytes)) → len ≤ 8 * length bytes → 0 < len % 8 → 1 ≤ width → width ≤ 64 → word < 2 ^ 64
    → low_bits 64 word ≡ low_bits width (word / 2 ^ (64 - width)) ++ replicate (64 - width) 0 → more ≡ to_be_bytes w64 (word * 2 ^ (8 - len % 8) % 2 ^ 64) → k ≡ (len % 8 + width - 1) / 8
    → b ≡ get_or (bytes ++ take k more) (len / 8) b → new ≡ set (bytes ++ take k more) (len / 8) (bit_or b (word / 2 ^ (56 + len % 8)))
    → HoldsBits new (take len (bits_of bytes) ++ low_bits width (word / 2 ^ (64 - width)))
append_partly width word len k b bytes more new filled within some one small fits alone made count read is =
    let q = len / 8 in
    let u = len % 8 in
    let f = 8 - u in
    let x = word / 2 ^ (56 + u) in
    let top = low_bits width (word / 2 ^ (64 - width)) in
    let before = bits_of (take q bytes) in
    let behind = bits_of (take k more) in
    let last = last_byte len q u f b bytes (take k more) filled within (omega arith) some (omega arith) read in
    let turned : 56 + u ≡ 64 - f = omega arith in
    let whole : 64 ≡ f + (56 + u) = omega arith in
    let low : x < 2 ^ f = shr_below word f (56 + u) (rw (← whole) fits) in
    let eight : 8 ≡ u + f = omega arith in
    let value : low_bits 8 (bit_or b x) ≡ low_bits u (b / 2 ^ f) ++ low_bits f x = cc (low_zeros f b x last.zeros low, low_bits_joined u f (b / 2 ^ f) x low) in
    let made_bits : bits_of more ≡ low_bits 64 (word * 2 ^ f % 2 ^ 64) = cc (bits_of_to_be (word * 2 ^ f % 2 ^ 64)) in
    let size : length more ≡ 8 = omega (arith, ap length made_bits, length-bits_of more, length-low_bits 64 (word * 2 ^ f % 2 ^ 64)) in
    let tail : low_bits f x ++ behind ≡ top ++ replicate (f + 8 * k - width) 0 =
    cc (bits_of-take k more (omega arith), tail_bits f k width word (omega arith) (omega arith) small (omega arith) alone) in
    let placed : new ≡ take q bytes ++ bit_or b x ∷ take k more =
    cc (last.bytes_are, append_assoc (take q bytes) (b ∷ []) (take k more), set_at (take q bytes) b (take k more) (bit_or b x) q last.front_len) in
    record {
      spare = f + 8 * k - width;
      short = omega arith;
      code = cc (
        bits_of-append (take q bytes) (bit_or b x ∷ take k more),
        append_assoc (low_bits u (b / 2 ^ f)) (low_bits f x) behind,
        append_assoc before (low_bits u (b / 2 ^ f)) (low_bits f x ++ behind),
        last.bits_are,
        append_assoc (take len (bits_of bytes)) top (replicate (f + 8 * k - width) 0),
      );
    }

-- what a writer's fields mean
pub record Holds (len : ℕ) (bytes bits : List ℕ) : Type 0 where
  pub view : take len (bits_of bytes) ≡ bits
  pub filled : HoldsBits bytes (take len (bits_of bytes))
  pub within : len ≤ 8 * length bytes

-- the fields after bits were appended
pub holds_after : (len width value word after : ℕ) (bytes new old : List ℕ) → after ≡ len + width → len ≤ 8 * length bytes → take len (bits_of bytes) ≡ old → word ≡ value
    → HoldsBits new (take len (bits_of bytes) ++ low_bits width word) → Holds after new (old ++ low_bits width value)
holds_after len width value word after bytes new old sum within view same filled =
    let written = old ++ low_bits width value in
    let code : bits_of new ≡ written ++ replicate filled.spare 0 = cc (filled.code) in
    let count = length_front len bytes within in
    let size : length written ≡ after = omega (arith, ap length view, length-append old (low_bits width value), length-low_bits width value) in
    let all = ap length code ∙ length-append written (replicate filled.spare 0) in
    search (arith, length-bits_of, take_at, view)

-- the bits of a word that a byte with some bits has room for
pub high_bits_fit : (u word : ℕ) → u < 8 → word < 2 ^ 64 → word / 2 ^ (56 + u) < 2 ^ 8
high_bits_fit u word some fits =
    let most : 2 ^ 64 ≤ 2 ^ (8 + (56 + u)) = pow_mono {i = 64} {j = 8 + (56 + u)} (omega arith) in
    shr_below word 8 (56 + u) (omega arith)
