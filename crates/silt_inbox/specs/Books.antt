-- Whether jobs are counted in books.
use Rattle.std.specs.Prelude.{◌+◌, ◌^◌, ℕ, Bool, List, Option, nat_lt, sum_by}
use Rattle.std.specs.Option.{option_map, option_map_or}

-- Of so many places a list can have all, so there are books, which a list of all of them settles. With more places there are none.
abbrev pub has_books : ℕ → Bool
has_books places = nat_lt places (2 ^ 64)

-- the count of a place after so many jobs more, if there are books
abbrev pub counted : ℕ → Option ℕ → Option ℕ
counted jobs count = option_map (λ n. n + jobs) count

-- the counts of these places, added up
abbrev pub jobs_of : List (Option ℕ) → ℕ
jobs_of counts = sum_by (λ (count : Option ℕ). option_map_or (λ n. n) count 0) counts

-- the totals of the books
pub record JobTotals : Type 0 where
  pub put : ℕ
  pub taken : ℕ

-- the totals after so many jobs more were put
abbrev pub with_put : ℕ → JobTotals → JobTotals
with_put jobs totals = record { put = totals.put + jobs; taken = totals.taken }

-- the totals after so many jobs more were taken
abbrev pub with_taken : ℕ → JobTotals → JobTotals
with_taken jobs totals = record { put = totals.put; taken = totals.taken + jobs }
