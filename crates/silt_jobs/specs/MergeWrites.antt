-- How few entries merging can write for each row.
use Rattle.std.specs.Prelude.{ℕ, ◌+◌, ◌-◌, ◌*◌, ◌/◌, max, nat_le, ◌&&◌, Bool, true, Option, Some, None}
use Rattle.std.specs.Option.{option_map_or, unwrap_or}
use Rattle.silt_jobs.specs.Plans.{bucket_counts, first_with, memory_of, needs_buckets, rows_between_merges}

-- the most buckets of which half are too few
abbrev pub first_needed : ℕ → ℕ → ℕ
first_needed most keys = unwrap_or (first_with (needs_buckets most keys) bucket_counts) 2

-- S has room for the keys, and for all rows of the logs and hash regions of this many buckets
abbrev pub has_room : ℕ → ℕ → Bool
has_room keys buckets = nat_le (keys + 77 * (buckets / 2)) 16777216

-- the rows between two merges with the most buckets that have room for the keys, or none
abbrev pub most_rows : ℕ → ℕ
most_rows keys = option_map_or rows_between_merges (first_with (has_room keys) bucket_counts) 0

-- The fewest entries for each row with which there is a plan for so many keys: those of the most buckets, rounded up, and at least one.
abbrev pub least_writes : ℕ → ℕ
least_writes keys = (keys - 1) / max (most_rows keys) 1 + 1

-- some plan for so many keys writes no more than a request allows, if it has a bound
abbrev pub can_write : Option ℕ → ℕ → Bool
can_write None keys = true
can_write (Some most) keys = nat_le (least_writes keys) most

-- there is a plan for so many keys that writes no more than that
abbrev pub is_plannable : Option ℕ → ℕ → Bool
is_plannable merge_writes keys = nat_le keys 16777139 && can_write merge_writes keys

-- the least memory of a plan that writes no more than that
abbrev pub memory_needed : Option ℕ → ℕ → ℕ
memory_needed None keys = memory_of keys 2
memory_needed (Some most) keys = memory_of keys (first_needed most keys)
