-- The positions of the parts of a disk.
use Rattle.std.specs.Prelude.{◌≡◌, ◌⊎◌, ◌+◌, ◌*◌, ℕ, nat_lt, if◌then◌else◌, IsTrue, Option, Some, None, Ok, Err}
use Rattle.silt_jobs.specs.Common.{Content, GaveAny, size, header_of, Shape, Ghosts, shape_found, bodies_at, entry_len, hash_at, row_len, slot_at, sorted_at}
use Rattle.silt_event.specs.declared.damage.Finding.{Finding}
use Rattle.silt_event.specs.declared.place.Place.{Place}
use Rattle.silt_event.specs.declared.place.Place.TheVariants.{Header, Length, Slot, NoSlot, Log, Hash, HashDigest, Sorted, SortedDigest, Charge}

-- a row, a slot or an entry of a region, if the region has it
abbrev pub offset_in : ℕ → ℕ → ℕ → ℕ → Option ℕ
offset_in region_at len count part = if nat_lt part count then Some (region_at + part * len) else None

-- The offset of a part of a disk of this shape with the sorted store in this region: a row begins at its body, and a store with another
-- digest at its region. The header's numbers come after its commit byte, eight letters and version. The length and the charge belong to the
-- whole disk.
abbrev pub offset_of : Shape → ℕ → Place → Option ℕ
offset_of s sorted Header = Some 13
offset_of s sorted Length = None
offset_of s sorted (Slot slot) = if nat_lt slot 2 then Some (slot_at slot) else None
offset_of s sorted NoSlot = Some (slot_at 0)
offset_of s sorted (Log region row) = if nat_lt region s.logs then offset_in (bodies_at s region) (row_len s) s.log_capacity row else None
offset_of s sorted (Hash region slot) = if nat_lt region s.hashes then offset_in (hash_at s region) (row_len s) (4 * s.buckets) slot else None
offset_of s sorted (HashDigest region) = if nat_lt region s.hashes then Some (hash_at s region) else None
offset_of s sorted (Sorted entry) = offset_in (sorted_at s sorted) (entry_len s) s.sorted_capacity entry
offset_of s sorted SortedDigest = Some (sorted_at s sorted)
offset_of s sorted Charge = None

-- the offset of a part that is not in the sorted store
abbrev pub unsorted_offset_of : Shape → Place → Option ℕ
unsorted_offset_of s (Sorted entry) = None
unsorted_offset_of s SortedDigest = None
unsorted_offset_of s place = offset_of s 0 place

-- the offset of a part, if it is known in which region the sorted store lies: else a part of that store has none
abbrev pub merge_offset_of : Shape → Option ℕ → Place → Option ℕ
merge_offset_of s None place = unsorted_offset_of s place
merge_offset_of s (Some sorted) place = if nat_lt sorted 2 then offset_of s sorted place else unsorted_offset_of s place

-- the header of a device is whole, and these are its six numbers
abbrev pub HasShape : Content → Shape → Type 0
HasShape content shape = IsTrue content.honest → shape_found (size content) (header_of content.shown) ≡ Ok shape

-- the header of a device could not be read, or it is damaged
abbrev pub LacksShape : {D F : Type 0} → Ghosts D F → D → Type 0
LacksShape {D} {F} facts disk =
    ((fault : F) × GaveAny facts.gave disk fault)
    ⊎ ((finding : Finding) × (IsTrue (facts.content disk).honest → shape_found (size (facts.content disk)) (header_of (facts.content disk).shown) ≡ Err finding))
