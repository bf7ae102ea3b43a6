-- The placing rule: where a new entry goes, and which entries move to make room for it.
use Rattle.std.specs.Prelude.{◌≡◌, ◌<◌, ℕ, zero, suc, ◌+◌, ◌*◌, ◌/◌, ◌%◌, ◌==◌, Bool, ◌&&◌, not, if◌then◌else◌, List, [], ◌∷◌, ◌++◌, map, slice_get, slice_set}
use Rattle.std.specs.Prelude.{slice_index, find, fold, filter_map, is_none, Option, Some, None, option_map, option_and_then}
use Rattle.std.specs.List.{range_with_len, list_any}
use Rattle.silt_cuckoo.specs.Slots.{Entry, Slots, bucket_count, entry_at, tag_at}

-- the lowest free slot of a bucket
unfoldable pub free_slot : Slots → ℕ → Option ℕ
free_slot slots bucket = find (λ slot. is_none (entry_at slots slot)) (range_with_len (4 * bucket) 4)

-- the slots of a bucket in cyclic order from its slot turn % 4
abbrev pub cyclic_slots : ℕ → ℕ → List ℕ
cyclic_slots bucket turn = map (λ k. 4 * bucket + (turn + k) % 4) (range_with_len 0 4)

-- the bucket that a walk from this bucket has reached, once it has moved the entries of these slots
abbrev pub bucket_after : Slots → ℕ → List ℕ → ℕ
bucket_after slots bucket path = fold (λ earlier slot. tag_at slots slot) bucket path

-- a turn may move the entry of this slot out of its bucket: the slot is not on the path, and the entry's other bucket is another one
abbrev pub can_move : Slots → List ℕ → ℕ → ℕ → Bool
can_move slots path bucket slot = not (list_any (λ s. slot == s) path) && not (tag_at slots slot == bucket)

-- the slot whose entry a turn moves out of a full bucket: the first that can move, in cyclic order
unfoldable pub victim : Slots → List ℕ → ℕ → ℕ → Option ℕ
victim slots path bucket turn = find (can_move slots path bucket) (cyclic_slots bucket turn)

-- the slots of the first n turns of the walk from a bucket; none if a turn finds no entry to move
unfoldable pub turns : Slots → ℕ → ℕ → Option (List ℕ)
turns slots bucket zero = Some []
turns slots bucket (suc n) = option_and_then
    (λ path. option_map (λ slot. path ++ slot ∷ []) (victim slots path (bucket_after slots bucket path) n))
    (turns slots bucket n)

-- the slots of the first n turns, and the lowest free slot of the bucket after them, if it has one
abbrev pub ended_walk : Slots → ℕ → ℕ → Option (List ℕ)
ended_walk slots bucket n = option_and_then
    (λ path. option_map (λ slot. path ++ slot ∷ []) (free_slot slots (bucket_after slots bucket path)))
    (turns slots bucket n)

-- the walk with the fewest turns, from 1 to 128, that ends at a free slot
unfoldable pub shortest_walk : Slots → ℕ → Option (List ℕ)
shortest_walk slots bucket = slice_get (filter_map (ended_walk slots bucket) (range_with_len 1 128)) 0

-- the first of these paths: to a free slot of the first bucket, to one of the second, by a walk
abbrev pub first_path : Option ℕ → Option ℕ → Option (List ℕ) → Option (List ℕ)
first_path (Some slot) second by_walk = Some (slot ∷ [])
first_path None (Some slot) by_walk = Some (slot ∷ [])
first_path None None by_walk = by_walk

-- the path of a new entry of these two buckets: each entry on it moves to the next slot, and the last slot is free; none if there is none
unfoldable pub path_for : Slots → ℕ → ℕ → Option (List ℕ)
path_for slots first second = first_path (free_slot slots first) (free_slot slots second) (shortest_walk slots first)

-- an entry that moves on from this slot: it keeps its place, and its tag is the bucket that it leaves
abbrev pub moved_entry : Slots → ℕ → Option Entry
moved_entry slots slot = option_map (λ (e : Entry). (slot / 4, e.1)) (entry_at slots slot)

-- the entry of each slot of the path is in the next slot of the path
unfoldable pub moved_along : Slots → List ℕ → Slots
moved_along slots [] = slots
moved_along slots (slot ∷ []) = slots
moved_along slots (slot ∷ next ∷ path) = slice_set (moved_along slots (next ∷ path)) next (moved_entry slots slot)

-- the one of two buckets that does not have this slot
abbrev pub other_bucket : ℕ → ℕ → ℕ → ℕ
other_bucket first second slot = if slot / 4 == first then second else first

-- the table after the entries moved along the path, and a new entry of these two buckets went into the path's first slot
unfoldable pub put_along : Slots → ℕ → ℕ → ℕ → List ℕ → Slots
put_along slots first second place path =
    let slot = slice_index path 0 in
    slice_set (moved_along slots path) slot (Some (other_bucket first second slot, place))

-- the table with a new entry of these two buckets; none if there is no path
unfoldable pub placed : Slots → ℕ → ℕ → ℕ → Option Slots
placed slots first second place = option_map (put_along slots first second place) (path_for slots first second)

-- the entry of a slot with another place
abbrev pub replaced : Slots → ℕ → ℕ → Slots
replaced slots slot place = slice_set slots slot (Some (tag_at slots slot, place))

-- a path: the two buckets of a new entry, and the slots that the entries move along
pub record PathPlan : Type 0 where
  pub first : ℕ
  pub second : ℕ
  pub slots : List ℕ

-- the plan for a new entry of these two buckets
abbrev pub plan_for : Slots → ℕ → ℕ → Option PathPlan
plan_for slots first second = option_map (λ path. record { first = first; second = second; slots = path }) (path_for slots first second)

-- the plan was made for exactly these slots
pub record IsPlanFor (slots : Slots) (plan : PathPlan) : Type 0 where
  pub first_there : plan.first < bucket_count slots
  pub second_there : plan.second < bucket_count slots
  pub path : path_for slots plan.first plan.second ≡ Some plan.slots
