-- The slots of a table: buckets of four, in which each entry lies in one of its two buckets and names the other.
use Rattle.std.specs.Prelude.{◌≡◌, ◌<◌, ◌≤◌, ℕ, ◌*◌, ◌/◌, ◌==◌, Bool, false, IsTrue, List, length, replicate, get_or, Option, Some, None, unwrap_or, option_map}
use Rattle.std.specs.Int.{is_power_of_two}

-- an entry: its tag, which is the number of its other bucket, and its place
abbrev pub Entry : Type 0
Entry = ℕ × ℕ

-- slot s of bucket c is slot 4 * c + s of the list
abbrev pub Slots : Type 0
Slots = List (Option Entry)

-- the number of buckets of these slots
abbrev pub bucket_count : Slots → ℕ
bucket_count slots = length slots / 4

-- this many buckets of free slots
abbrev pub empty_slots : ℕ → Slots
empty_slots buckets = replicate (4 * buckets) None

-- the entry in a slot; none if the slot is free or past the last one
abbrev pub entry_at : Slots → ℕ → Option Entry
entry_at slots slot = get_or slots slot None

-- this entry is there and has this tag
abbrev pub has_tag : ℕ → Option Entry → Bool
has_tag tag None = false
has_tag tag (Some (its_tag, place)) = its_tag == tag

-- the tag in a slot, or 0 if the slot is free
abbrev pub tag_at : Slots → ℕ → ℕ
tag_at slots slot = unwrap_or (option_map (λ (e : Entry). e.0) (entry_at slots slot)) 0

-- the place in a slot
abbrev pub place_at : Slots → ℕ → Option ℕ
place_at slots slot = option_map (λ (e : Entry). e.1) (entry_at slots slot)

-- some slot has this place
abbrev pub HoldsPlace : Slots → ℕ → Type 0
HoldsPlace slots place = (slot : ℕ) × (place_at slots slot ≡ Some place)

-- no place occurs twice
abbrev pub PlacesApart : Slots → Type 0
PlacesApart slots = (i j place : ℕ) → place_at slots i ≡ Some place → place_at slots j ≡ Some place → i ≡ j

-- every place in the table is below this number
abbrev pub PlacesBelow : Slots → ℕ → Type 0
PlacesBelow slots bound = (slot place : ℕ) → place_at slots slot ≡ Some place → place < bound

-- the numbers of buckets that a table may have
pub record IsBucketCount (buckets : ℕ) : Type 0 where
  pub least : 2 ≤ buckets
  pub most : buckets ≤ 32768
  pub power : IsTrue (is_power_of_two buckets)

-- the invariant of a table: four slots a bucket, each tag the number of a bucket, no place twice
pub record IsTable (slots : Slots) : Type 0 where
  pub buckets : IsBucketCount (bucket_count slots)
  pub four_each : length slots ≡ 4 * bucket_count slots
  pub tags_below : (slot : ℕ) → tag_at slots slot < bucket_count slots
  pub places_apart : PlacesApart slots
