-- Lemmas on reading a code at the front of a window.
use Rattle.std.proofs.Common.{◌≡◌, ℕ, suc, ◌+◌, ◌-◌, ◌*◌, ◌/◌, ◌%◌, ◌^◌, ◌<◌, ◌≤◌, List, [], ◌++◌, length, take, drop, replicate, refl, sym, ap, ◌∙◌, inl, inr, ◌⊎◌, arith, length-append}
use Rattle.std.proofs.Common.{length-drop}
use Rattle.std.specs.Int.Count.{count_leading_zeros, leading_of_zero}
use Rattle.std.proofs.lemmas.List.{take_at, drop_at, take-take, take-append-le, drop-append-le, take-append-drop, length-take-le, drop-drop, drop-take}
use Rattle.std.proofs.lemmas.Nat.{leading_top, field_of, mod_below, shl-shr, shr-shr, shr_below, le-div, pow-add, pow_pos}
use Rattle.std.proofs.Math.Nat.{div-one, mod-eq_of_lt, div-mul-le_self, mul-le-mul_right, div-lt_iff_lt-mul}
use Rattle.std.proofs.lemmas.Bool.{cases_eq}
use Rattle.std.proofs.Math.Pow.{pow_mono}
use Rattle.silt_gamma.specs.Bits.{low_bits, bits_of, IsWindow}
use Rattle.silt_gamma.specs.Gamma.{gamma_code, exponent_up_to, HasCode, BeginsWithCode}
use Rattle.silt_gamma.proofs.BitLists.{length-low_bits, length-bits_of, low_bits_split, low_bits_small, low_bits_mod, moved_word}
use Rattle.silt_gamma.proofs.Gamma.{exponent_fits, exponent_least, one_exponent, low_bits_same}

-- the code of n is its lowest bits, twice as many as the exponent and one
pub gamma_code_is : (k n : ℕ) → HasCode n → 2 ^ k ≤ n → n < 2 ^ (k + 1) → gamma_code n ≡ low_bits (2 * k + 1) n
unfolding gamma_code
gamma_code_is k n within low high =
    let fits = exponent_fits 31 n within.0 within.1 in
    let same = one_exponent (exponent_up_to 31 n) k n fits.0 fits.1 low high in
    let width : k + (k + 1) ≡ 2 * k + 1 = omega arith in
    cc (low_bits_small k (k + 1) n high)

-- what a reader's fields mean for the bits that are left
pub record Shows (bytes : List ℕ) (at end window ready : ℕ) (left : List ℕ) : Type 0 where
  pub is : IsWindow bytes at end window ready
  pub view : take (end - at) (drop at (bits_of bytes)) ≡ left

-- the front of what is left is the highest bits of the word
front_of : (bytes : List ℕ) (at end window ready w : ℕ) (left : List ℕ) → Shows bytes at end window ready left → w ≤ ready → w ≤ end - at → take w left ≡ low_bits w (window / 2 ^ (64 - w))
front_of bytes at end window ready w left shows word within =
    let bits = bits_of bytes in
    let size = length-bits_of bytes in
    let rest = length-drop at bits in
    let top = window / 2 ^ (64 - ready) in
    let parts : w + (ready - w) ≡ ready = omega arith in
    let place : (64 - ready) + (ready - w) ≡ 64 - w = omega arith in
    let shown = take-take w (end - at) (drop at bits) within in
    let from_bits = take-take w ready (drop at (bits ++ replicate 72 0)) word in
    let unfilled = drop-append-le at bits (replicate 72 0) (omega arith) in
    let first = take-append-le w (drop at bits) (replicate 72 0) (omega arith) in
    let from_word = take_at (low_bits w (top / 2 ^ (ready - w))) (low_bits (ready - w) top) w (length-low_bits w (top / 2 ^ (ready - w))) in
    cc (shows.view, shows.is.word, low_bits_split w (ready - w) top, shr-shr window (64 - ready) (ready - w))

-- how many bits are left
length_left : (bytes : List ℕ) (at end window ready : ℕ) (left : List ℕ) → Shows bytes at end window ready left → length left ≡ end - at
length_left bytes at end window ready left shows = rw (← shows.view) (search (arith, length-take-le, length-bits_of, length-drop))

-- what is left after w bits
pub left_after : (bytes : List ℕ) (at end window ready w : ℕ) (left : List ℕ) → Shows bytes at end window ready left → w ≤ end - at
    → take (end - (at + w)) (drop (at + w) (bits_of bytes)) ≡ drop w left
left_after bytes at end window ready w left shows within =
    let count : end - at ≡ w + (end - (at + w)) = omega arith in
    cc (shows.view, drop-take w (end - (at + w)) (drop at (bits_of bytes)), drop-drop w at (bits_of bytes))

-- the fields after w bits were taken
pub window_after : (bytes : List ℕ) (at end window ready w : ℕ) → IsWindow bytes at end window ready → w ≤ ready → w ≤ end - at → IsWindow bytes (at + w) end (window * 2 ^ w % 2 ^ 64) (ready - w)
window_after bytes at end window ready w is word within =
    let all = bits_of bytes ++ replicate 72 0 in
    let top = window / 2 ^ (64 - ready) in
    let whole : (64 - w) + w ≡ 64 = omega arith in
    let place : 64 - (ready - w) ≡ w + (64 - ready) = omega arith in
    let field : (ready - w) + (64 - ready) ≡ 64 - w = omega arith in
    let parts : w + (ready - w) ≡ ready = omega arith in
    let moved : window * 2 ^ w % 2 ^ 64 ≡ (window % 2 ^ (64 - w)) * 2 ^ w = cc (moved_word w (64 - w) window) in
    let number : window * 2 ^ w % 2 ^ 64 / 2 ^ (64 - (ready - w)) ≡ top % 2 ^ (ready - w) =
    cc (shr-shr ((window % 2 ^ (64 - w)) * 2 ^ w) w (64 - ready), shl-shr (window % 2 ^ (64 - w)) w, field_of window (ready - w) (64 - ready)) in
    let low = drop_at (low_bits w (top / 2 ^ (ready - w))) (low_bits (ready - w) top) w (length-low_bits w (top / 2 ^ (ready - w))) in
    search (arith, mod_below, low_bits_mod, low_bits_split, drop-take, drop-drop)

-- the fields with a word read anew
pub window_full : (bytes : List ℕ) (at end window ready fresh : ℕ) → IsWindow bytes at end window ready → fresh < 2 ^ 64
    → low_bits 64 fresh ≡ take 64 (drop at (bits_of bytes ++ replicate 72 0)) → IsWindow bytes at end fresh 64
window_full bytes at end window ready fresh is small word =
    record { ordered = is.ordered; inside = is.inside; small = small; upto = omega arith; word = ap (low_bits 64) (div-one fresh) ∙ word }

-- a word with few zeros in front is not 0
positive_word : (window z : ℕ) → z ≡ count_leading_zeros 64 window → z ≤ 31 → 0 < window
positive_word window z zeros few = elim (cases_eq window 0) [
  | inl none ↦ let all : count_leading_zeros 64 window ≡ 64 = ap (count_leading_zeros 64) none ∙ leading_of_zero 64 in absurd (omega arith)
  | inr some ↦ omega arith
]

-- the bounds of a word by its zeros in front, here with the place j of its highest one
word_from_top : (window z j c k : ℕ) → c + suc j ≡ 64 → z ≡ c → z ≤ 31 → k ≡ 64 - (2 * z + 1) → 2 ^ j ≤ window → window < 2 ^ suc j → (2 ^ z * 2 ^ k ≤ window) × (window < 2 ^ ((z + 1) + k))
word_from_top window z j c k sum zeros few rest low high =
    let place : j ≡ z + k = omega arith in
    search (arith, pow-add)

-- the zeros in front by the number behind them
top_from_number : (window n e j c k : ℕ) → c + suc j ≡ 64 → 2 ^ j ≤ window → window < 2 ^ suc j → k ≡ 64 - (2 * e + 1) → window / 2 ^ k ≡ n → 2 ^ e ≤ n → n < 2 ^ (e + 1) → e ≤ 31 → c ≡ e
top_from_number window n e j c k sum low high rest number least most few =
    let above : 2 ^ suc j ≡ 2 ^ (j + 1) = ap (λ (x : ℕ). 2 ^ x) (omega arith) in
    let times : 2 ^ e * 2 ^ k ≤ window / 2 ^ k * 2 ^ k = mul-le-mul_right (2 ^ k) (omega arith) in
    let whole = div-mul-le_self window (2 ^ k) in
    let from : 2 ^ (e + k) ≤ window = let p = pow-add 2 e k in omega arith in
    let upto : window < 2 ^ (e + 1) * 2 ^ k = (div-lt_iff_lt-mul (pow_pos k)).0 (omega arith) in
    let next : 2 ^ (e + k + 1) ≡ 2 ^ (e + 1) * 2 ^ k = ap (λ (x : ℕ). 2 ^ x) (omega arith) ∙ pow-add 2 (e + 1) k in
    search (arith, one_exponent)

-- a word with few zeros in front begins with a code
pub reads_code : (bytes : List ℕ) (at end window ready w : ℕ) (left : List ℕ) → Shows bytes at end window ready left → w ≡ 2 * count_leading_zeros 64 window + 1 → w ≤ ready → w ≤ end - at
    → (window / 2 ^ (64 - w) < 2 ^ 32) × BeginsWithCode left (window / 2 ^ (64 - w)) (take (end - (at + w)) (drop (at + w) (bits_of bytes)))
reads_code bytes at end window ready w left shows width word within =
    let z = count_leading_zeros 64 window in
    let n = window / 2 ^ (64 - w) in
    let k = 64 - w in
    let upto = shows.is.upto in
    let few : z ≤ 31 = omega arith in
    let top = leading_top 64 window (positive_word window z refl few) shows.is.small in
    let place = word_from_top window z top.0 z k top.1 refl few (omega arith) top.2 top.3 in
    let low : 2 ^ z ≤ n = le-div (2 ^ z) window (2 ^ k) (pow_pos k) place.0 in
    let high : n < 2 ^ (z + 1) = shr_below window (z + 1) k place.1 in
    let most : 2 ^ (z + 1) ≤ 2 ^ 32 = pow_mono {i = z + 1} {j = 32} (omega arith) in
    let some : 1 ≤ 2 ^ z = pow_pos z in
    let fits : n < 2 ^ 32 = omega arith in
    let has : HasCode n = (omega arith, fits) in
    let code : take w left ≡ gamma_code n = cc (front_of bytes at end window ready w left shows word within, gamma_code_is z n has low high) in (
      fits,
      record {
        in_range = has;
        split = cc (take-append-drop w left, left_after bytes at end window ready w left shows within);
      },
    )

-- if a word is long enough and begins with a code, it has as many zeros in front as the code
code_reads : (bytes : List ℕ) (at end window ready n : ℕ) (left rest : List ℕ) → Shows bytes at end window ready left → BeginsWithCode left n rest → (ready ≡ 64) ⊎ (end - at < ready)
    → (count_leading_zeros 64 window ≤ 31) × (2 * count_leading_zeros 64 window + 1 ≤ end - at)
code_reads bytes at end window ready n left rest shows begins enough =
    let has = begins.in_range in
    let k = exponent_up_to 31 n in
    let fits = exponent_fits 31 n has.0 has.1 in
    let few : k ≤ 31 = exponent_least 31 n in
    let w = 2 * k + 1 in
    let code : left ≡ low_bits w n ++ rest = begins.split ∙ ap (λ (xs : List ℕ). xs ++ rest) (gamma_code_is k n has fits.0 fits.1) in
    let size : length left ≡ w + length rest = ap length code ∙ length-append (low_bits w n) rest ∙ ap (λ (x : ℕ). x + length rest) (length-low_bits w n) in
    let count = length_left bytes at end window ready left shows in
    let within : w ≤ end - at = omega arith in
    let long : w ≤ ready = elim enough [ inl all ↦ omega arith | inr more ↦ omega arith ] in
    let upto = shows.is.upto in
    let front : low_bits w (window / 2 ^ (64 - w)) ≡ low_bits w n =
    sym (front_of bytes at end window ready w left shows long within) ∙ ap (take w) code ∙ take_at (low_bits w n) rest w (length-low_bits w n) in
    let same = low_bits_same w (window / 2 ^ (64 - w)) n [] [] (ap (λ (xs : List ℕ). xs ++ []) front) in
    let whole : w + (64 - w) ≡ 64 = omega arith in
    let word : window < 2 ^ (w + (64 - w)) = rw whole shows.is.small in
    let small : window / 2 ^ (64 - w) < 2 ^ w = shr_below window w (64 - w) word in
    let wide : 2 ^ (k + 1) ≤ 2 ^ w = pow_mono {i = k + 1} {j = w} (omega arith) in
    let number : window / 2 ^ (64 - w) ≡ n = sym (mod-eq_of_lt small) ∙ same.0 ∙ mod-eq_of_lt (omega (arith, fits.1)) in
    let zeros_are = zeros (64 - w) refl number fits.0 fits.1 few in
    (omega arith, omega arith)
  where
    zeros : (spare : ℕ) → spare ≡ 64 - (2 * exponent_up_to 31 n + 1) → window / 2 ^ spare ≡ n → 2 ^ exponent_up_to 31 n ≤ n
        → n < 2 ^ (exponent_up_to 31 n + 1) → exponent_up_to 31 n ≤ 31 → count_leading_zeros 64 window ≡ exponent_up_to 31 n
    zeros spare e number low high few =
        let some : 0 < 2 ^ exponent_up_to 31 n = pow_pos (exponent_up_to 31 n) in
        let whole = div-mul-le_self window (2 ^ spare) in
        let times : 1 * 2 ^ spare ≤ window / 2 ^ spare * 2 ^ spare = mul-le-mul_right (2 ^ spare) (omega arith) in
        let unit = pow_pos spare in
        let top = leading_top 64 window (omega arith) shows.is.small in
        top_from_number window n (exponent_up_to 31 n) top.0 (count_leading_zeros 64 window) spare top.1 top.2 top.3 e number low high few

-- if a word has too many zeros in front, or too few bits are left, no code is there
pub no_code : (bytes : List ℕ) (at end window ready w n : ℕ) (left rest : List ℕ) → Shows bytes at end window ready left → w ≡ 2 * count_leading_zeros 64 window + 1 → (ready ≡ 64) ⊎ (w ≤ ready)
    → (ready < w) ⊎ (end - at < w) → BeginsWithCode left n rest → ⊥
no_code bytes at end window ready w n left rest shows width full short begins = elim full [
  | inl all ↦ let reads = code_reads bytes at end window ready n left rest shows begins (inl all) in let few = reads.0 in let within =
      reads.1 in elim short [ inl above ↦ absurd (omega arith) | inr past ↦ absurd (omega arith) ]
  | inr word ↦ elim short [
    | inl above ↦ absurd (omega arith)
    | inr past ↦ let reads = code_reads bytes at end window ready n left rest shows begins (inr (omega arith)) in let within = reads.1 in absurd (omega arith)
  ]
]

-- how many bits there are from one place up to another
pub length_from : (bytes : List ℕ) (at end window ready : ℕ) → IsWindow bytes at end window ready → length (take (end - at) (drop at (bits_of bytes))) ≡ end - at
length_from bytes at end window ready is = length_left bytes at end window ready _ (record { is = is; view = refl })

-- the exponent of n and the bits of its code
pub code_of_exponent : (k n : ℕ) → 1 ≤ n → n < 2 ^ 32 → 2 ^ k ≤ n → n < 2 * 2 ^ k → (n < 2 ^ (2 * k + 1)) × (low_bits (2 * k + 1) n ≡ gamma_code n)
code_of_exponent k n some small low high =
    let double : 2 ^ (k + 1) ≡ 2 ^ k * 2 = pow-add 2 k 1 in
    let wide : 2 ^ (k + 1) ≤ 2 ^ (2 * k + 1) = pow_mono {i = k + 1} {j = 2 * k + 1} (omega arith) in
    (omega arith, sym (gamma_code_is k n (some, small) low (omega arith)))

-- a code that is taken off leaves fewer bits
pub fewer_left : (n : ℕ) (bits rest : List ℕ) → BeginsWithCode bits n rest → length rest < length bits
unfolding gamma_code
fewer_left n bits rest begins = search (arith, length-append, length-low_bits)
