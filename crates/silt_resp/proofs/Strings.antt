-- Strings in values.
use Rattle.std.proofs.lemmas.Bool.{and_parts, eqb-true}
use Rattle.std.proofs.lemmas.Option.{cond_some}
use Rattle.silt_resp.proofs.Common.{zero, suc, ◌≡◌, ◌<◌, ◌≤◌, ◌+◌, ◌-◌, ◌==◌, ℕ, true, false, cond, List, [], ◌∷◌, ◌++◌, length, take, drop, get_or, Some, None, refl, sym, ap, ◌∙◌, arith}
use Rattle.silt_resp.proofs.Common.{list_all, length-drop, length-take-le, take_at, drop_at, big_number}
use Rattle.std.proofs.Common.{◌*◌, replicate}
use Rattle.std.proofs.lemmas.List.{length-append, length-replicate, take-append-drop}
use Rattle.std.proofs.lemmas.Slice.Eq.{bytes_eq-Decides}
use Rattle.byteorder.specs.Endian.{big_bytes}
use Rattle.byteorder.specs.Numbers.{big_number-reads_back}
use Rattle.silt_resp.specs.Values.{ValuesLaw, counted_bytes, string_of, string_value}

-- the zeros behind a string
abbrev zeros_behind : ℕ → List ℕ → List ℕ
zeros_behind len s = replicate (len - (2 + length s)) 0

length-string_value : (len : ℕ) (s : List ℕ) → length (string_value len s) ≡ 2 + (length s + (len - (2 + length s)))
length-string_value len s = search (arith, length-append, length-replicate)

-- the first two bytes of a value count its string
counted-string_value : (len : ℕ) (s : List ℕ) → length s < 65536 → counted_bytes (string_value len s) ≡ s
counted-string_value len s short =
    ap (λ n. take n (s ++ zeros_behind len s)) (big_number-reads_back 2 (length s) (s ++ zeros_behind len s) short) ∙ take_at s (zeros_behind len s) (length s) refl

-- a value that is the one of its counted bytes holds them
string_of-same : (value : List ℕ) → value ≡ string_value (length value) (counted_bytes value) → string_of value ≡ Some (counted_bytes value)
string_of-same value e = ap (λ b. cond b (Some (counted_bytes value)) None) ((bytes_eq-Decides value (string_value (length value) (counted_bytes value))).1 e)

-- and any other value holds none
string_of-other : (value : List ℕ) → (value ≡ string_value (length value) (counted_bytes value) → ⊥) → string_of value ≡ None
string_of-other value other = search (arith, bytes_eq-Decides)

reads_back : (len : ℕ) (s : List ℕ) → 2 + length s ≤ len → length s < 65536 → (length (string_value len s) ≡ len) × (string_of (string_value len s) ≡ Some s)
reads_back len s fits short =
    let size : length (string_value len s) ≡ len = omega (arith, length-string_value len s) in
    let counted = counted-string_value len s short in
    let same : string_value len s ≡ string_value (length (string_value len s)) (counted_bytes (string_value len s)) = search arith in
    (size, string_of-same (string_value len s) same ∙ ap (λ t. Some t) counted)

holds_one : (value s : List ℕ) → string_of value ≡ Some s → value ≡ string_value (length value) s
holds_one value s e = search (arith, cond_some, bytes_eq-Decides)

pub values_law : ValuesLaw
values_law = (reads_back, holds_one)

-- ---- what the code looks at

-- two bytes are those of the number that they write
two_bytes : (a b : ℕ) → a < 256 → b < 256 → big_bytes 2 (a * 256 + (b * 1 + 0)) ≡ a ∷ b ∷ []
two_bytes a b high low = search arith

all_zeros : (xs : List ℕ) → list_all (λ b. b == 0) xs ≡ true → xs ≡ replicate (length xs) 0
all_zeros [] e = refl
all_zeros (x ∷ xs) e = search (arith, all_zeros xs, and_parts, eqb-true)

zeros_pass : (n : ℕ) → list_all (λ b. b == 0) (replicate n 0) ≡ true
zeros_pass zero = refl
zeros_pass (suc n) = zeros_pass n

-- bytes in front of zeros, as many as the first two count, are the string
pub string_of-there : (value : List ℕ) (n : ℕ) → ((k : ℕ) → get_or (take 2 value) k 0 < 256) → 2 ≤ length value → n ≡ big_number 2 (take 2 value) → n ≤ length (drop 2 value)
    → list_all (λ b. b == 0) (drop n (drop 2 value)) ≡ true → string_of value ≡ Some (take n (drop 2 value))
string_of-there [] n known long is fits zeros = absurd (omega arith)
string_of-there (a ∷ []) n known long is fits zeros = absurd (omega arith)
string_of-there (a ∷ b ∷ rest) n known long is fits zeros =
    let value = a ∷ b ∷ rest in
    let s = take n rest in
    let size : length s ≡ n = length-take-le n rest fits in
    let counted : counted_bytes value ≡ s = ap (λ k. take k rest) (sym is) in
    let head : big_bytes 2 (length s) ≡ a ∷ b ∷ [] = ap (big_bytes 2) (size ∙ is) ∙ two_bytes a b (known 0) (known 1) in
    let left = drop n rest in
    let pad : left ≡ replicate (length value - (2 + length s)) 0 = all_zeros left zeros ∙ ap (λ k. replicate k 0) (let cut = length-drop n rest in omega (arith, cut, size)) in
    let same : value ≡ string_value (length value) s = cc (take-append-drop n rest) in
    string_of-same value (same ∙ ap (λ t. string_value (length value) t) (sym counted)) ∙ ap (λ t. Some t) counted

-- other bytes behind it than zeros: the value of no string
pub string_of-behind : (value : List ℕ) (n : ℕ) → 2 ≤ length value → n ≡ big_number 2 (take 2 value) → n ≤ length (drop 2 value)
    → list_all (λ b. b == 0) (drop n (drop 2 value)) ≡ false → string_of value ≡ None
string_of-behind value n long is fits others = search (arith, string_of-other, length-take-le, drop_at, zeros_pass)
