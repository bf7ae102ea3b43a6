-- An empty table.
use Rattle.silt_cuckoo.proofs.Common.{◌≡◌, ◌*◌, replicate, ap, ◌∙◌, empty_slots, unpacked_all, rules}
use Rattle.silt_cuckoo.proofs.Unpacking.{free, unpacked_all_free}
use Rattle.silt_cuckoo.proofs.Tables.{empty_table}
use Rattle.silt_cuckoo.proofs.cuckoo.Table.new.Goals.{In_ok-slots}
use Rattle.silt_cuckoo.proofs.cuckoo.Table.new.Goals as goal

-- the slots that were made are free
made : (c : In_ok-slots) → unpacked_all c.in_ok-slots.slots.items ≡ empty_slots c.args.buckets
made c =
    let items : c.in_ok-slots.slots.items ≡ replicate (4 * c.args.buckets) free = c.in_ok-slots.ensures.items_if_clones_equal (λ y same. search rules) in
    ap unpacked_all items ∙ unpacked_all_free (4 * c.args.buckets)

pub invariant_of-result : goal.invariant_of-result
invariant_of-result c = rw (made c) (empty_table c.args.buckets c.requires)

pub returns : goal.returns
returns c = record { empty = made c; table = invariant_of-result c }
