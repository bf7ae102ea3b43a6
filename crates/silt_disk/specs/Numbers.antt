-- Numbers as bytes, big-endian.
use Rattle.std.specs.Prelude.{ℕ, ◌+◌, List, slice_range}
use Rattle.byteorder.specs.Endian.{big_number}

-- the number in the n bytes from place i on
abbrev pub number_at : ℕ → ℕ → List ℕ → ℕ
number_at n i bytes = big_number n (slice_range bytes i (i + n))
