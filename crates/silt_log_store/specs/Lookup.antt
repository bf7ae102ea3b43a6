-- The result of a look-up among candidates.
use Rattle.std.specs.Prelude.{◌≡◌, ◌<◌, ◌≤◌, ℕ, Bool, List, [], if◌then◌else◌, find, get_or, slice_get, Option, Some, None, IfSome, option_map, option_and_then}
use Rattle.std.specs.Str.{bytes_eq}
use Rattle.silt_disk.specs.Layout.{Shape, row_len}
use Rattle.silt_frame.specs.Frame.{head_len, kind_byte, kind_of}
use Rattle.silt_frame.specs.declared.key.Key.{Key}
use Rattle.silt_frame.specs.declared.key.Kind.{Kind}
use Rattle.silt_cuckoo.specs.Keys.{first_bucket, second_bucket}
use Rattle.silt_cuckoo.specs.Lookup.{has_candidates}
use Rattle.silt_cuckoo.specs.Slots.{PlacesBelow, Slots, bucket_count}
use Rattle.silt_cuckoo.specs.declared.lookup.Candidate.{Candidate}
use Rattle.silt_frame.specs.Rows.{StoredRow, keys_of}
use Rattle.silt_log.specs.State.{LogState}
use Rattle.silt_log_store.specs.declared.lookup.Match.{Match}

-- each place in a table is that of a row of the log, which lies within its region
pub record IsTableWithin (slots : Slots) (log : LogState) : Type 0 where
  pub below : PlacesBelow slots log.used
  pub room : log.used ≤ log.shape.log_capacity

-- a buffer of this length takes the front of a row: all of its head, and no more than the row
pub record IsFrontOf (shape : Shape) (len : ℕ) : Type 0 where
  pub least : head_len ≤ len
  pub most : len ≤ row_len shape

-- the two buckets of a key, which are there
pub record AreBucketsOf (slots : Slots) (key : List ℕ) (buckets : ℕ × ℕ) : Type 0 where
  pub first : buckets.0 ≡ first_bucket (bucket_count slots) key
  pub second : buckets.1 ≡ second_bucket (bucket_count slots) key
  pub first_there : buckets.0 < bucket_count slots
  pub second_there : buckets.1 < bucket_count slots

-- the kind of a head, if the head has the key
abbrev pub kind_with_key : Option (Kind × Key) → List ℕ → Option Kind
kind_with_key head key = option_and_then (λ (h : Kind × Key). if bytes_eq h.1.0 key then Some h.0 else None) head

-- the kind of a row, if it is known and the row has the key
abbrev pub kind_for : StoredRow → List ℕ → Option Kind
kind_for row key = option_and_then (λ (kind : Kind). if bytes_eq row.key key then Some kind else None) (kind_of row.kind)

-- a key has a candidate in a table
abbrev pub has_candidate : Slots → List ℕ → Bool
has_candidate slots key = has_candidates slots (first_bucket (bucket_count slots) key) (second_bucket (bucket_count slots) key)

-- the first of these candidates whose row has the key
abbrev pub first_with_key : List StoredRow → List Candidate → List ℕ → Option Candidate
first_with_key rows candidates key = find (λ (c : Candidate). bytes_eq (get_or (keys_of rows) c.place []) key) candidates

-- a match as a candidate
abbrev pub candidate_of : Match → Candidate
candidate_of match = record { slot = match.slot; place = match.found.place }

-- the row at the place of a match is of its kind
abbrev pub HasItsKind : List StoredRow → Match → Type 0
HasItsKind rows match = (row : StoredRow) × (slice_get rows match.found.place ≡ Some row) × (kind_byte match.found.kind ≡ row.kind)

-- the result is the first of these candidates whose row has the key, with the kind of that row
pub record IsFirstMatch (rows : List StoredRow) (candidates : List Candidate) (key : List ℕ) (found : Option Match) : Type 0 where
  pub first : option_map candidate_of found ≡ first_with_key rows candidates key
  pub kind : IfSome found (HasItsKind rows)
