-- A table stays a table, and the new place has its pair.
use Rattle.silt_cuckoo.proofs.Common.{◌≡◌, ◌/◌, length, Some, sym, ap, ◌∙◌, arith, IsTable, bucket_count, placed, unpacked_all, AddsPair, with_items_is}
use Rattle.std.specs.Vec.{with_items}
use Rattle.silt_cuckoo.proofs.Placed.{table_law, pair_law}
use Rattle.silt_cuckoo.proofs.cuckoo.Table.apply.Goals.{After-self-1}
use Rattle.silt_cuckoo.proofs.cuckoo.Table.apply.Goals as goal

-- the slots that come back
stored : (c : After-self-1) → (with_items c.self.inside.slots c.put_along.new.slots).items ≡ c.put_along.new.slots
stored c = with_items_is c.self.inside.slots c.put_along.new.slots (omega (arith, c.put_along.auto.slots, c.as_mut_slice.ensures.len))

-- what was placed
after : (c : After-self-1) → placed (unpacked_all c.self.inside.slots.items) c.args.path.now.first c.args.path.now.second
    c.args.place ≡ Some (unpacked_all (with_items c.self.inside.slots c.put_along.new.slots).items)
after c = rw (stored c, ← c.as_mut_slice.ensures.value) (sym c.put_along.ensures)

-- what the laws say of it
lawful : (c : After-self-1) → IsTable (unpacked_all (with_items c.self.inside.slots c.put_along.new.slots).items)
    × (length (unpacked_all (with_items c.self.inside.slots c.put_along.new.slots).items) ≡ length (unpacked_all c.self.inside.slots.items))
    × AddsPair (unpacked_all c.self.inside.slots.items) (unpacked_all (with_items c.self.inside.slots c.put_along.new.slots).items) c.args.place c.args.path.now.first c.args.path.now.second
lawful c =
    let planned = (rw (← c.self.view_is) at c.requires.planned) in
    let is_new = (rw (← c.self.view_is) at c.requires.new) in
    let kept = table_law _ _ c.args.path.now.first c.args.path.now.second c.args.place c.self.invariant planned.first_there planned.second_there is_new (after c) in
    (kept.0, kept.1, pair_law _ _ c.args.path.now.first c.args.path.now.second c.args.place c.self.invariant planned.first_there planned.second_there is_new (after c))

pub invariant_of-self : goal.invariant_of-self
invariant_of-self c = (lawful c).0

pub returns-clause-pairs : goal.returns-clause-pairs
returns-clause-pairs c = rw (← c.self.view_is) ((lawful c).2)

pub returns-clause-buckets : goal.returns-clause-buckets
returns-clause-buckets c = ap (λ n. n / 4) ((lawful c).1) ∙ ap bucket_count c.self.view_is

pub returns-clause-table : goal.returns-clause-table
returns-clause-table c = (lawful c).0
