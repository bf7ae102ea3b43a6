-- Products of numbers that are bounded.
use Rattle.std.proofs.Common.{ℕ, ◌*◌, ◌≤◌, arith}

-- a product is at most the product of the bounds of its factors
pub product_below : (a b most_a most_b : ℕ) → a ≤ most_a → b ≤ most_b → a * b ≤ most_a * most_b
product_below a b most_a most_b low high = search arith
