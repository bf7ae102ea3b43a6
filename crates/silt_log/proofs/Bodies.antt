-- The rows in the bodies of a log.
use Rattle.silt_log.proofs.Common.{◌≡◌, ℕ, ◌+◌, ◌*◌, ◌≤◌, ◌<◌, List, ◌++◌, length, map, refl, ap, arith, range_with_len, Torn, splice, torn_slice_before, torn_slice_after, body_row, row_of, zero}
use Rattle.silt_log.proofs.Common.{suc, splice_slice, next_region}

-- a list made of numbers from a place on, in two parts
pub range_split : {X : Type 0} (f : ℕ → X) (from a b : ℕ) → map f (range_with_len from (a + b)) ≡ map f (range_with_len from a) ++ map f (range_with_len (from + a) b)
range_split f from zero b = search arith
range_split f from (suc a) b =
    let one_more : suc a + b ≡ suc (a + b) = omega arith in
    search (arith, range_split f (from + 1) a b)

-- two functions that agree on these numbers make one list of them
pub map_range_same : {X : Type 0} (f h : ℕ → X) (from n : ℕ) → ((place : ℕ) → from ≤ place → place < from + n → f place ≡ h place) → map f (range_with_len from n) ≡ map h (range_with_len from n)
map_range_same f h from zero same = refl
map_range_same f h from (suc n) same = search (arith, map_range_same f h (from + 1) n)

module _ (bodies len : ℕ) where
  -- a body ends at or before the beginning of a later one
  pub body_before : (place later : ℕ) → place < later → bodies + place * len + len ≤ bodies + later * len
  body_before place later before = let apart = next_region place later len before in omega (arith, apart)

  -- the body of a write comes after the rows before it
  pub rows_below : (old new : List ℕ) (used count n : ℕ) → used < count → bodies + count * len ≤ length old → Torn (bodies + used * len) len old new
      → n ≤ used → map (body_row bodies len new) (range_with_len 0 n) ≡ map (body_row bodies len old) (range_with_len 0 n)
  rows_below old new used count n room fits torn below = map_range_same (body_row bodies len new) (body_row bodies len old) 0 n (λ place low high.
      let before : bodies + place * len + len ≤ bodies + used * len = body_before place used (omega (arith, below, high)) in
      let inside : bodies + used * len + len ≤ bodies + count * len = body_before used count room in
      ap row_of (torn_slice_before (bodies + used * len) len old new torn (bodies + place * len) (bodies + place * len + len) before (omega (arith, before, inside, fits))))

  -- a write before the bodies leaves the rows
  pub rows_behind : (old new : List ℕ) (at long count from n : ℕ) → at + long ≤ bodies → from + n ≤ count → bodies + count * len ≤ length old
      → Torn at long old new → map (body_row bodies len new) (range_with_len from n) ≡ map (body_row bodies len old) (range_with_len from n)
  rows_behind old new at long count from n ends most fits torn = map_range_same (body_row bodies len new) (body_row bodies len old) from n (λ place low high.
      let inside : bodies + place * len + len ≤ bodies + count * len = body_before place count (omega (arith, most, high)) in
      ap row_of (torn_slice_after at long old new torn (bodies + place * len) (bodies + place * len + len) (omega (arith, ends)) (omega (arith, inside, fits))))

  -- a row that was written
  pub row_written : (old bytes : List ℕ) (used count : ℕ) → used < count → length bytes ≡ len → bodies + count * len ≤ length old
      → body_row bodies len (splice (bodies + used * len) bytes old) used ≡ row_of bytes
  row_written old bytes used count room long fits =
      let inside : bodies + used * len + len ≤ bodies + count * len = body_before used count room in
      cc (splice_slice (bodies + used * len) bytes old (omega (arith, long, inside, fits)))
