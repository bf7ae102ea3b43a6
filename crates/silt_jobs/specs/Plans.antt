-- The six numbers of a planned store for a number of keys.
use Rattle.std.specs.Prelude.{ℕ, ◌+◌, ◌*◌, ◌/◌, ◌==◌, nat_le, nat_lt, not, ◌&&◌, ◌||◌, Bool, true, List, [], ◌∷◌, ◌++◌, Option, Some, None, if◌then◌else◌, codes}
use Rattle.std.specs.Prelude.{option_map}
use Rattle.silt_jobs.specs.Common.{decimal, unwrap_or, is_in_limits, Shape, PlanRequest}

-- the bucket counts of a geometry, the greatest first
abbrev pub bucket_counts : List ℕ
bucket_counts = 32768 ∷ 16384 ∷ 8192 ∷ 4096 ∷ 2048 ∷ 1024 ∷ 512 ∷ 256 ∷ 128 ∷ 64 ∷ 32 ∷ 16 ∷ 8 ∷ 4 ∷ 2 ∷ []

-- Half a bucket takes seven rows. There are three logs and eight hash regions, and room for all keys beside all that these hold.
abbrev pub shape_planned : PlanRequest → ℕ → Shape
shape_planned r buckets =
    let rows = 7 * (buckets / 2) in
    record { value_len = r.value_len; buckets = buckets; log_capacity = rows; logs = 3; hashes = 8; sorted_capacity = r.keys + 11 * rows }

-- The most bytes of memory that a store of so many keys and buckets needs, while four hash stores are merged: 1,043 a bucket, and three
-- indexes of the sorted store, each of at most one byte a key and 18,504 beside: the old one, and the new one, of which as much again may
-- be reserved as it grows.
abbrev pub memory_of : ℕ → ℕ → ℕ
memory_of keys buckets = 1043 * buckets + 3 * keys + 55512

-- the bytes of memory fit under the limit, if there is one
abbrev pub fits_memory : Option ℕ → ℕ → Bool
fits_memory None bytes = true
fits_memory (Some most) bytes = nat_le bytes most

-- The rows of four full logs, each with seven rows for two buckets: so many rows come between two merges.
abbrev pub rows_between_merges : ℕ → ℕ
rows_between_merges buckets = 28 * (buckets / 2)

-- a merge that writes all keys writes more than this many entries for each row
abbrev pub writes_more : ℕ → ℕ → ℕ → Bool
writes_more most keys buckets = nat_lt (most * rows_between_merges buckets) keys

-- with half as many buckets merging writes more than this many entries for each row, or there are no fewer buckets
abbrev pub needs_buckets : ℕ → ℕ → ℕ → Bool
needs_buckets most keys buckets = buckets == 2 || nat_lt (7 * most * buckets) keys

-- merging writes no more entries for each row than the limit, if there is one
abbrev pub fits_writes : Option ℕ → ℕ → ℕ → Bool
fits_writes None keys buckets = true
fits_writes (Some most) keys buckets = not (writes_more most keys buckets)

-- There are no more buckets than needed: with half as many, merging writes more entries for each row than the limit, or than nine.
abbrev pub is_needed : PlanRequest → ℕ → Bool
is_needed r buckets = needs_buckets (unwrap_or r.merge_writes 9) r.keys buckets

-- this many buckets give numbers in their limits, fit the memory, and keep what merging writes within its limit
abbrev pub is_possible : PlanRequest → ℕ → Bool
is_possible r buckets =
    is_in_limits (shape_planned r buckets) && (fits_memory r.memory (memory_of r.keys buckets) && fits_writes r.merge_writes r.keys buckets)

-- and they are needed
abbrev pub is_planned : PlanRequest → ℕ → Bool
is_planned r buckets = is_needed r buckets && is_possible r buckets

-- the first of these bucket counts that passes a test
unfoldable pub first_with : (ℕ → Bool) → List ℕ → Option ℕ
first_with test [] = None
first_with test (buckets ∷ more) = if test buckets then Some buckets else first_with test more

-- the most buckets that can be planned
abbrev pub first_planned : PlanRequest → Option ℕ
first_planned r = first_with (is_planned r) bucket_counts

-- their geometry
abbrev pub geometry_planned : PlanRequest → Option Shape
geometry_planned r = option_map (shape_planned r) (first_planned r)

-- a word and a number
unfoldable pub number_after : List ℕ → ℕ → List ℕ
number_after word number = word ++ decimal number

-- the six numbers in the order of the command line, and what they cost on disk and in memory
abbrev pub plan_text : Shape → ℕ → ℕ → List ℕ
plan_text s disk memory =
    number_after (codes "") s.value_len
    ++ (number_after (codes " ") s.buckets
    ++ (number_after (codes " ") s.log_capacity
    ++ (number_after (codes " ") s.logs
    ++ (number_after (codes " ") s.hashes
    ++ (number_after (codes " ") s.sorted_capacity
    ++ (number_after (codes "\ndisk ") disk
    ++ (number_after (codes "\nmemory ") memory ++ codes "\n")))))))
