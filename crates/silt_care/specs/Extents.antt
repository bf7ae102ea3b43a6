-- Where the bytes of a store lie that a manifest record names.
use Rattle.std.specs.Prelude.{ℕ, ◌*◌, ◌==◌, ◌<◌, ◌&&◌, nat_le, nat_lt, if◌then◌else◌, [], position, slice_index_or, Option, Some, None}
use Rattle.std.specs.Option.{option_map}
use Rattle.silt_care.specs.declared.extent.Extent.{Extent}
use Rattle.silt_care.specs.declared.extent.Part.{Part}
use Rattle.silt_care.specs.declared.extent.Part.TheVariants.{Hash, Sorted}
use Rattle.silt_disk.specs.Layout.{Shape, entry_len, hash_at, slots_len, sorted_at}
use Rattle.silt_event.specs.declared.place.Place.{Place}
use Rattle.silt_event.specs.declared.place.Place.TheVariants.{HashDigest, SortedDigest}
use Rattle.silt_manifest.specs.declared.body.Body.{Body}
use Rattle.silt_manifest.specs.declared.digests.Digests.{Digests}

-- a hash region of a device of this shape, or the sorted region
abbrev pub IsPartOf : Shape → Part → Type 0
IsPartOf shape (Hash region) = region < shape.hashes
IsPartOf shape Sorted = Unit {0}

-- the part at a place of a pass: first the hash regions, and then the sorted region
abbrev pub part_at : Shape → ℕ → Part
part_at shape place = if nat_lt place shape.hashes then Hash place else Sorted

-- the place of a finding in a part
abbrev pub place_of : Part → Place
place_of (Hash region) = HashDigest region
place_of Sorted = SortedDigest

-- the slots of a hash region, and their digest, which is at this place
abbrev pub hash_extent : Shape → Digests → ℕ → ℕ → Extent
hash_extent shape digests region place =
    record { at = hash_at shape region; len = slots_len shape; digest = slice_index_or digests.hashed place (record { 0 = [] }) }

-- the entries of the sorted store, and their digest
abbrev pub sorted_extent : Shape → Body → Digests → Extent
sorted_extent shape body digests = record { at = sorted_at shape body.sorted; len = body.sorted_count * entry_len shape; digest = digests.sorted }

-- the bytes of the store that the record names in this part, and their digest; or none, if it names no such store
abbrev pub extent_of : Shape → Body × Digests → Part → Option Extent
extent_of shape named (Hash region) = option_map (hash_extent shape named.1 region) (position (λ id. id == region) named.0.hashed)
extent_of shape named Sorted =
    if nat_lt named.0.sorted 2 && nat_le named.0.sorted_count shape.sorted_capacity then Some (sorted_extent shape named.0 named.1) else None
