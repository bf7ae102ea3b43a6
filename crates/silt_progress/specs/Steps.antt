-- How many steps of background work a store has to do.
use Rattle.std.specs.Prelude.{◌≡◌, ◌≤◌, ◌<◌, ◌+◌, ◌-◌, ◌*◌, ◌||◌, ℕ, Bool, false, length, Option, Some, None, IfSome, unwrap_or}
use Rattle.silt_disk.specs.Layout.{InLimits}
use Rattle.silt_event.specs.declared.event.Event.{Event}
use Rattle.silt_event.specs.declared.reply.Reply.{Reply}
use Rattle.silt_event.specs.declared.reply.Reply.TheVariants.{Progress}
use Rattle.silt_engine.specs.Conversion.{is_work}
use Rattle.silt_merge.specs.Rows.{key_count}
use Rattle.silt_store_set.specs.CoreState.{ConvertWork, CoreState, IsWithinSteps, MergeWork, is_convert, is_merge, taken_by}
use Rattle.silt_store_set.specs.Facts.{slots_written}

-- a merge takes at least one of so many hash stores
abbrev pub TakesSome : ℕ → MergeWork → Type 0
TakesSome hashes work = (1 ≤ work.stores) × (work.stores ≤ hashes)

-- A store is sized: its numbers are within their limits, fewer logs are frozen than there are, and the sorted store has room for its entries.
-- A conversion in progress has written at most all slots of its hash store, and a merge in progress takes some of the hash stores.
pub record IsSized {D : Type 0} (core : CoreState D) : Type 0 where
  pub limits : InLimits core.shape
  pub frozen : length core.body.frozen < core.shape.logs
  pub entries : core.body.sorted_count ≤ core.shape.sorted_capacity
  pub written : slots_written core.converting ≤ 4 * core.shape.buckets
  pub merging : IfSome core.merging (TakesSome (length core.body.hashed))

-- the reply says that a step was done
abbrev pub is_step : {F : Type 0} → Reply F → Bool
is_step (Progress progress) = is_work progress
is_step reply = false

-- ---- conversion

-- how many steps a whole conversion takes: one for each slot, and one that finishes it
abbrev pub steps_per_log : {D : Type 0} → CoreState D → ℕ
steps_per_log core = 4 * core.shape.buckets + 1

-- how many steps finish the conversion in progress, or if there is none, the next one
abbrev pub next_conversion : {D : Type 0} → CoreState D → ℕ
next_conversion core = steps_per_log core - slots_written core.converting

-- How many steps finish the conversion in progress and one of each other frozen log, if so many logs are frozen and a whole conversion takes
-- so many steps.
abbrev pub conversions_left : ℕ → ℕ → Option ConvertWork → ℕ
conversions_left frozen steps None = frozen * steps
conversions_left frozen steps (Some work) = (steps - work.written) + (frozen - 1) * steps

-- how many steps of conversion there are to do until no log is frozen
abbrev pub convert_steps : {D : Type 0} → CoreState D → ℕ
convert_steps core = conversions_left (length core.body.frozen) (steps_per_log core) core.converting

-- there is a free hash region for each frozen log
abbrev pub HasFreeHashes : {D : Type 0} → CoreState D → Type 0
HasFreeHashes core = length core.body.frozen + length core.body.hashed ≤ core.shape.hashes

-- ---- merging

-- the merge in progress, or if there is none, one of all hash stores that has taken no step
abbrev pub next_merge : {D : Type 0} → CoreState D → MergeWork
next_merge core = unwrap_or core.merging (record { stores = length core.body.hashed; steps = 0; written = 0; damaged = None })

-- it takes all hash stores: no conversion has finished since it began
abbrev pub TakesAll : {D : Type 0} → CoreState D → Type 0
TakesAll core = (next_merge core).stores ≡ length core.body.hashed

-- how many slots its hash stores have
abbrev pub slots_to_gather : {D : Type 0} → CoreState D → ℕ
slots_to_gather core = (next_merge core).stores * (4 * core.shape.buckets)

-- how many steps it takes in all: one for each slot of its hash stores, one for each key of the rows that it takes, and one that finishes it
abbrev pub steps_per_merge : {D : Type 0} → CoreState D → ℕ
steps_per_merge core = slots_to_gather core + key_count (taken_by core (next_merge core)) + 1

-- a merge in progress has its last step still to come, as `Core::standing` says of each store on a disk that obeys the crash model
abbrev pub HasStepLeft : {D : Type 0} → CoreState D → Type 0
HasStepLeft core = IfSome core.merging (IsWithinSteps core)

-- The most steps that finish it, whatever rows it takes: each slot is gathered and may have a key of its own, and so may each entry of the
-- sorted store.
abbrev pub most_merge_steps : {D : Type 0} → CoreState D → ℕ
most_merge_steps core = (2 * slots_to_gather core + core.body.sorted_count + 1) - (next_merge core).steps

-- ---- both

-- the event is a step of background work
abbrev pub is_background : Event → Bool
is_background event = is_convert event || is_merge event

-- how many logs there are to convert: the frozen ones, and if a conversion is in progress, at least its own
abbrev pub logs_left : ℕ → Option ConvertWork → ℕ
logs_left frozen None = frozen
logs_left frozen (Some work) = (frozen - 1) + 1

-- how many hash stores there are to merge, with those that conversions make of these logs
abbrev pub stores_left : {D : Type 0} → CoreState D → ℕ
stores_left core = logs_left (length core.body.frozen) core.converting + length core.body.hashed

-- the most steps of a merge of one hash store: two for each of its slots, one for each entry that a sorted store can have, and one that
-- finishes it
abbrev pub most_per_store : {D : Type 0} → CoreState D → ℕ
most_per_store core = 2 * (4 * core.shape.buckets) + core.shape.sorted_capacity + 1

-- the most steps of background work that there are to do, if nothing else is done
abbrev pub background_steps : {D : Type 0} → CoreState D → ℕ
background_steps core = (convert_steps core + stores_left core * most_per_store core) - (next_merge core).steps
