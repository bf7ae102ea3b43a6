-- One entry takes a new place.
use Rattle.silt_cuckoo.proofs.Common.{◌≡◌, ◌/◌, length-set, slice_set, Some, ap, ◌∙◌, IsTable, tag_at, bucket_count, replaced, unpacked_all}
use Rattle.silt_cuckoo.proofs.Unpacking.{unpacked_all_set}
use Rattle.silt_cuckoo.proofs.Replaced.{replace_law, replaced_table}
use Rattle.silt_cuckoo.proofs.Tables.{slot_inside}
use Rattle.silt_cuckoo.proofs.cuckoo.Table.replace.Goals.{After-self-1}
use Rattle.silt_cuckoo.proofs.cuckoo.Table.replace.Goals as goal

-- the slots then
after : (c : After-self-1) → unpacked_all (slice_set c.self.inside.slots.items c.args.slot c.new.result) ≡ replaced (unpacked_all c.self.inside.slots.items) c.args.slot c.args.place
after c = cc (unpacked_all_set c.self.inside.slots.items c.args.slot c.new.result, c.new.ensures, c.tag_at-tag.ensures, c.as_slice.ensures.value)

pub invariant_of-self : goal.invariant_of-self
invariant_of-self c =
    let some = (rw (← c.self.view_is) at c.requires.entry) in
    let is_new = (rw (← c.self.view_is) at c.requires.new) in
    rw (after c) (replaced_table (unpacked_all c.self.inside.slots.items) c.args.slot c.args.place c.self.invariant (slot_inside (unpacked_all c.self.inside.slots.items) c.args.slot some) is_new)

pub returns-clause-replaced : goal.returns-clause-replaced
returns-clause-replaced c = after c ∙ ap (λ s. replaced s c.args.slot c.args.place) c.self.view_is

pub returns-clause-pairs : goal.returns-clause-pairs
returns-clause-pairs c =
    let table : IsTable c.args.self.now = rw c.self.view_is at c.self.invariant in
    rw (after c ∙ ap (λ s. replaced s c.args.slot c.args.place) c.self.view_is) ((replace_law c.args.self.now c.args.slot c.args.place table c.requires.entry c.requires.new).1)

pub returns-clause-table : goal.returns-clause-table
returns-clause-table c = invariant_of-self c

pub returns-clause-buckets : goal.returns-clause-buckets
returns-clause-buckets c = ap bucket_count (returns-clause-replaced c) ∙ ap (λ n. n / 4) (length-set c.args.self.now c.args.slot (Some (tag_at c.args.self.now c.args.slot, c.args.place)))
