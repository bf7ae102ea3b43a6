-- Which shard of a set an event belongs to.
use Rattle.std.specs.Prelude.{ℕ, ◌%◌, ◌==◌, nat_le, Bool, true, false, ◌&&◌, IsTrue, List, filter, Option, Some, None}
use Rattle.std.specs.Option.{option_map_or}
use Rattle.silt_disk.specs.Numbers.{number_at}
use Rattle.silt_event.specs.declared.event.Event.{Event}
use Rattle.silt_event.specs.declared.event.Event.TheVariants.{Put, Delete, Swap, Flush, Get}
use Rattle.silt_frame.specs.declared.key.Key.{Key}

-- the smallest number of shards of a set
abbrev pub least_shards : ℕ
least_shards = 2

-- the greatest number of shards of a set
abbrev pub most_shards : ℕ
most_shards = 64

-- a set has 2 to 64 shards
abbrev pub is_shard_count : ℕ → Bool
is_shard_count count = nat_le least_shards count && nat_le count most_shards

-- a set has 2 to 64 shards
abbrev pub IsShardCount : ℕ → Type 0
IsShardCount count = IsTrue (is_shard_count count)

-- the shard of a key: bytes 4 to 7 of the key as a big-endian number, modulo the number of shards
abbrev pub shard_of : ℕ → Key → ℕ
shard_of count key = number_at 4 4 key.0 % count

-- the shard that alone does an event: that of its key, if it has one
abbrev pub only_shard : ℕ → Event → Option ℕ
only_shard count (Put key value) = Some (shard_of count key)
only_shard count (Delete key) = Some (shard_of count key)
only_shard count (Swap key old new) = Some (shard_of count key)
only_shard count (Get key) = Some (shard_of count key)
only_shard count event = None

-- each shard does the event
abbrev pub is_flush : Event → Bool
is_flush Flush = true
is_flush event = false

-- this shard does the event: it has the event's key, or the event is a flush
abbrev pub is_routed : ℕ → ℕ → Event → Bool
is_routed count shard event = option_map_or (λ only. only == shard) (only_shard count event) (is_flush event)

-- the events that this shard does, in order
abbrev pub routed : ℕ → ℕ → List Event → List Event
routed count shard events = filter (is_routed count shard) events
