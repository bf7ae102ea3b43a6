-- The two buckets of a key.
use Rattle.std.specs.Prelude.{ℕ, ◌%◌, List, slice_range}
use Rattle.silt_cuckoo.specs.Pairs.{pair_of}
use Rattle.byteorder.specs.Endian.{big_number}

-- a key's first bucket: its bytes 0 and 1 as a number, modulo the number of buckets
abbrev pub first_bucket : ℕ → List ℕ → ℕ
first_bucket buckets key = big_number 2 (slice_range key 0 2) % buckets

-- a key's second bucket: its bytes 2 and 3 as a number, modulo the number of buckets
abbrev pub second_bucket : ℕ → List ℕ → ℕ
second_bucket buckets key = big_number 2 (slice_range key 2 4) % buckets

-- a key's two buckets as a pair
abbrev pub key_pair : ℕ → List ℕ → ℕ × ℕ
key_pair buckets key = pair_of (first_bucket buckets key) (second_bucket buckets key)
