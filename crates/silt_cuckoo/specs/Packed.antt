-- How a slot is stored: in three numbers of 16 bits.
use Rattle.std.specs.Prelude.{◌+◌, ◌-◌, ◌*◌, ◌==◌, if◌then◌else◌, List, map, Option, Some, None}
use Rattle.silt_cuckoo.specs.declared.slot.Slot.{Slot}
use Rattle.silt_cuckoo.specs.Slots.{Entry, Slots}

-- the entry that a stored slot represents: none if its mark is 0, else its tag is the mark minus 1
abbrev pub unpacked : Slot → Option Entry
unpacked slot = if slot.mark == 0 then None else Some (slot.mark - 1, 65536 * slot.high + slot.low)

-- the slots that stored slots represent
abbrev pub unpacked_all : List Slot → Slots
unpacked_all slots = map unpacked slots
