-- The layout of a device: where each region begins, and how long the device is.
use Rattle.std.specs.Prelude.{◌≡◌, ℕ, ◌+◌, ◌-◌, ◌*◌, ◌/◌, ◌<◌, ◌≤◌, Bool, ◌||◌, ◌==◌, IsTrue}
use Rattle.silt_frame.specs.Frame.{head_len, key_len}

-- the six numbers of a store
pub record Shape : Type 0 where
  pub value_len : ℕ
  pub buckets : ℕ
  pub log_capacity : ℕ
  pub logs : ℕ
  pub hashes : ℕ
  pub sorted_capacity : ℕ

-- the length of a sector: each part of a device begins at one, and the header and each manifest slot are one
abbrev pub sector : ℕ
sector = 4096

-- where the log regions begin, behind the header and the two manifest slots
abbrev pub regions_at : ℕ
regions_at = 12288

-- the greatest length of a value, in bytes
abbrev pub most_value_len : ℕ
most_value_len = 4096

-- the greatest number of entries of a sorted region
abbrev pub most_sorted_capacity : ℕ
most_sorted_capacity = 16777216

-- the greatest number of logs, the active one included
abbrev pub most_logs : ℕ
most_logs = 8

-- the greatest number of frozen logs
abbrev pub most_frozen : ℕ
most_frozen = 7

-- the greatest number of hash stores
abbrev pub most_hashes : ℕ
most_hashes = 16

-- n rounded up to whole sectors
abbrev pub up : ℕ → ℕ
up n = (n + (sector - 1)) / sector * sector

-- whether n is a power of two from 2 to 32,768
abbrev pub is_bucket_count : ℕ → Bool
is_bucket_count n =
    n == 2 || n == 4 || n == 8 || n == 16 || n == 32 || n == 64 || n == 128 || n == 256 || n == 512
    || n == 1024 || n == 2048 || n == 4096 || n == 8192 || n == 16384 || n == 32768

-- each of the six numbers lies within its limits
pub record InLimits (shape : Shape) : Type 0 where
  pub value_len_least : 1 ≤ shape.value_len
  pub value_len_most : shape.value_len ≤ most_value_len
  pub buckets : IsTrue (is_bucket_count shape.buckets)
  pub log_capacity_least : 1 ≤ shape.log_capacity
  pub log_capacity_most : shape.log_capacity ≤ 4 * shape.buckets
  pub logs_least : 2 ≤ shape.logs
  pub logs_most : shape.logs ≤ most_logs
  pub hashes_least : 1 ≤ shape.hashes
  pub hashes_most : shape.hashes ≤ most_hashes
  pub sorted_capacity_least : 1 ≤ shape.sorted_capacity
  pub sorted_capacity_most : shape.sorted_capacity ≤ most_sorted_capacity

-- the length of a row on the device: kind, key and value
abbrev pub row_len : Shape → ℕ
row_len s = head_len + s.value_len

-- the length of a sorted entry on the device: key and value
abbrev pub entry_len : Shape → ℕ
entry_len s = key_len + s.value_len

-- where a manifest slot begins, after the header's sector
abbrev pub slot_at : ℕ → ℕ
slot_at slot = sector + sector * slot

-- the length of a log region: a commit byte for each row, then, from the next sector on, the rows' bodies
abbrev pub log_size : Shape → ℕ
log_size s = up s.log_capacity + up (s.log_capacity * row_len s)

-- the length of a hash region: four rows a bucket
abbrev pub hash_size : Shape → ℕ
hash_size s = up (4 * s.buckets * row_len s)

-- the length of a sorted region
abbrev pub sorted_size : Shape → ℕ
sorted_size s = up (s.sorted_capacity * entry_len s)

-- where the commit bytes of a log region begin
abbrev pub commits_at : Shape → ℕ → ℕ
commits_at s region = regions_at + region * log_size s

-- where the bodies of a log region begin
abbrev pub bodies_at : Shape → ℕ → ℕ
bodies_at s region = commits_at s region + up s.log_capacity

-- how many bytes of a log region are in use: its commit bytes to the end of their sector, and its bodies
abbrev pub log_len : Shape → ℕ
log_len s = up s.log_capacity + s.log_capacity * row_len s

-- the bytes of a hash region's slots
abbrev pub slots_len : Shape → ℕ
slots_len s = 4 * s.buckets * row_len s

-- the bytes of a sorted region's entries
abbrev pub entries_len : Shape → ℕ
entries_len s = s.sorted_capacity * entry_len s

-- where a hash region begins
abbrev pub hash_at : Shape → ℕ → ℕ
hash_at s region = regions_at + s.logs * log_size s + region * hash_size s

-- where a sorted region begins
abbrev pub sorted_at : Shape → ℕ → ℕ
sorted_at s region = regions_at + s.logs * log_size s + s.hashes * hash_size s + region * sorted_size s

-- the length of the device: the end of its last region
abbrev pub device_size : Shape → ℕ
device_size s = sorted_at s 2

-- The regions do not overlap, and lie within the device: each part ends at or before the beginning of the next one, and the last
-- one ends where the device ends. `later` is the number of a later region of the same kind, or the number of such regions.
pub record RegionsApart (s : Shape) : Type 0 where
  pub header : sector ≤ slot_at 0
  pub slots : slot_at 0 + sector ≤ slot_at 1
  pub manifests : (region : ℕ) → slot_at 1 + sector ≤ commits_at s region
  pub commits : (region : ℕ) → commits_at s region + s.log_capacity ≤ bodies_at s region
  pub bodies : (region later : ℕ) → region < later → bodies_at s region + s.log_capacity * row_len s ≤ commits_at s later
  pub logs : (region : ℕ) → commits_at s s.logs ≤ hash_at s region
  pub hashes : (region later : ℕ) → region < later → hash_at s region + 4 * s.buckets * row_len s ≤ hash_at s later
  pub hash_end : (region : ℕ) → hash_at s s.hashes ≤ sorted_at s region
  pub sorted : (region later : ℕ) → region < later → sorted_at s region + s.sorted_capacity * entry_len s ≤ sorted_at s later
  pub device : sorted_at s 2 ≡ device_size s
