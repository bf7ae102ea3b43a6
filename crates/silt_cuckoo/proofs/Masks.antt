-- A remainder by a power of two, as a mask of its bits.
use Rattle.silt_cuckoo.proofs.Common.{◌≡◌, ℕ, ◌+◌, ◌-◌, ◌*◌, ◌%◌, ◌≤◌, ◌<◌, arith, count_ones, ◌^◌, bit_and}
use Rattle.std.proofs.lemmas.Nat.{and_mask, leading_top, ones_cat, zero_from_ones}
use Rattle.std.proofs.Math.Nat.{pow-succ'}

-- a number with one bit is a power of two
one_bit : (n : ℕ) → 0 < n → n < 2 ^ 32 → count_ones n ≡ 1 → (k : ℕ) × (n ≡ 2 ^ k)
unfolding lib.Count.ones
one_bit n some fits one =
    let top = leading_top 32 n some fits in
    let k : ℕ = top.0 in
    let least : 2 ^ k ≤ n = top.2 in
    let most : n < 2 * 2 ^ k = rw (← pow-succ' 2 k) top.3 in
    let rest : ℕ = n - 2 ^ k in
    let small : rest < 2 ^ k = omega (arith, least, most) in
    let parts : n ≡ 1 * 2 ^ k + rest = omega (arith, least) in
    search (arith, ones_cat, zero_from_ones)

-- a mask of the bits below it is a remainder
pub masked : (n power : ℕ) → 0 < power → power < 2 ^ 32 → count_ones power ≡ 1 → bit_and n (power - 1) ≡ n % power
masked n power some fits one = let is = one_bit power some fits one in rw is.1 (and_mask n is.0)
