-- Where the entry of a key goes in the table of a log.
use Rattle.std.specs.Prelude.{ℕ, IsSome, Option, Some, None}
use Rattle.silt_cuckoo.specs.Slots.{Slots, entry_at}
use Rattle.silt_cuckoo.specs.Placing.{IsPlanFor, placed, replaced}
use Rattle.silt_log_store.specs.declared.placement.Placing.{Placing}
use Rattle.silt_log_store.specs.declared.placement.Placing.TheVariants.{Standing, New}

-- a placing was made for this very table: its slot has an entry, or its path was planned there
abbrev pub HoldsIn : Slots → Placing → Type 0
HoldsIn table (Standing slot) = IsSome (entry_at table slot)
HoldsIn table (New path) = IsPlanFor table path

-- the table after an entry went in by a placing
abbrev pub entered : Slots → Placing → ℕ → Option Slots
entered table (Standing slot) place = Some (replaced table slot place)
entered table (New path) place = placed table path.first path.second place

-- the table with an entry of these two buckets, which takes the slot of its key's older row, or is placed
abbrev pub entered_under : Slots → ℕ → ℕ → ℕ → Option ℕ → Option Slots
entered_under table first second place None = placed table first second place
entered_under table first second place (Some slot) = Some (replaced table slot place)
