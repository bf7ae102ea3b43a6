-- The regions of a device do not overlap, and lie within its length.
use Rattle.std.proofs.Common.{ℕ, ◌+◌, ◌*◌, ◌^◌, ◌<◌, ◌≤◌, IsTrue, refl, arith}
use Rattle.silt_disk.specs.Layout.{Shape, InLimits, RegionsApart, up, is_bucket_count, row_len, entry_len, log_size, hash_size, sorted_size, device_size}
use Rattle.std.proofs.lemmas.Bool.Decides.{nat_tests}
use Rattle.silt_disk.proofs.Products.{product_below}

-- rounding up never decreases
pub up_least : (n : ℕ) → n ≤ up n
up_least n = omega arith

-- and adds less than a sector
pub up_most : (n : ℕ) → up n ≤ n + 4095
up_most n = omega arith

-- a region ends at or before the beginning of a later one of the same size
pub next_region : (region later size : ℕ) → region < later → region * size + size ≤ later * size
next_region region later size before = search (arith, product_below)

-- the regions do not overlap, and lie within the device
pub regions_apart : (s : Shape) → RegionsApart s
regions_apart s = record {
  header = omega arith;
  slots = omega arith;
  manifests = λ region. omega arith;
  commits = λ region. omega (arith, up_least s.log_capacity);
  bodies = λ region later before. omega (arith, next_region region later (log_size s) before, up_least (s.log_capacity * row_len s));
  logs = λ region. omega arith;
  hashes = λ region later before. omega (arith, next_region region later (hash_size s) before, up_least (4 * s.buckets * row_len s));
  hash_end = λ region. omega arith;
  sorted = λ region later before. omega (arith, next_region region later (sorted_size s) before, up_least (s.sorted_capacity * entry_len s));
  device = refl;
}

-- a bucket count is at most 32,768
pub bucket_count_most : (n : ℕ) → IsTrue (is_bucket_count n) → n ≤ 32768
bucket_count_most n is = grind (arith, nat_tests)

-- a log region within the limits
pub log_size_most : (s : Shape) → InLimits s → log_size s ≤ 2 ^ 30
log_size_most s limits = search (arith, bucket_count_most, product_below, up_most)

-- a hash region within the limits
pub hash_size_most : (s : Shape) → InLimits s → hash_size s ≤ 2 ^ 30
hash_size_most s limits = search (arith, bucket_count_most, product_below, up_most)

-- a sorted region within the limits
pub sorted_size_most : (s : Shape) → InLimits s → sorted_size s ≤ 2 ^ 37
sorted_size_most s limits = search (arith, product_below, up_most)

-- a device's length within the limits
pub device_size_most : (s : Shape) → InLimits s → device_size s ≤ 2 ^ 39
device_size_most s limits = search (arith, product_below, log_size_most, hash_size_most, sorted_size_most)
