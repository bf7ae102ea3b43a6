-- What the next step of merging reads, in the words of the manifest record.
use Rattle.silt_store_set.proofs.Common.{◌≡◌, ℕ, ◌+◌, ◌-◌, ◌*◌, ◌<◌, nat_lt, if◌then◌else◌, Bool, List, drop, get_or, length, Option, IfSome, ap, subst, arith, length-map, Shape, Place}
use Rattle.silt_store_set.proofs.Common.{regions_of, MergeState, oldest_stores, steps_of, place_read, IsMerging, EngineState, merge_work, place_due, ◌/◌, drop-map, AreWhole}
use Rattle.std.proofs.lemmas.Nat.{div-mul-add, mul-add-lt}
use Rattle.std.proofs.Math.Nat.{mul_comm}
use Rattle.silt_event.specs.declared.place.Place.TheVariants.{HashDigest, SortedDigest}

-- a slot before the end of the stores is a number below that of all slots
pub slot_below : (store stores slot slots : ℕ) → store < stores → slot < slots → store * slots + slot < stores * slots
slot_below store stores slot slots store_in slot_in = subst (λ (n : ℕ). store * slots + slot < n) (mul_comm slots stores) (mul-add-lt store slots slot stores store_in slot_in)

-- a region of a list, or the sorted store
abbrev place_of : Bool → List ℕ → ℕ → Place
place_of gathers regions store = if gathers then HashDigest (get_or regions store 0) else SortedDigest

module _ (s : EngineState) (whole : AreWhole s) where
  -- a merge gathers as long as it took fewer steps than there are slots, and the number of its store is that of the steps by the slots of a store
  module _ (merge : MergeState) (way : IsMerging s merge) where
    abbrev slots : ℕ
    slots = 4 * s.manifest.shape.buckets

    slots_same : 4 * merge.shape.buckets ≡ slots
    slots_same = ap (λ (sh : Shape). 4 * sh.buckets) way.has_shape

    place_gathers : merge.store < merge.stores → place_of (nat_lt merge.store merge.stores) (regions_of (oldest_stores merge.stores s.hashes)) merge.store
        ≡ place_of (nat_lt (steps_of merge) (merge.stores * slots)) (drop (length s.manifest.current.hashed - merge.stores) s.manifest.current.hashed) (steps_of merge / slots)
    place_gathers below =
        let inside : merge.slot < slots = subst (λ (n : ℕ). merge.slot < n) slots_same way.held.slot in
        let steps : steps_of merge ≡ merge.store * slots + merge.slot = search arith in
        search (arith, div-mul-add, length-map, drop-map)

  -- what a step reads in memory is what is due by the manifest record
  pub place_seen : (o : Option MergeState) → IfSome o (IsMerging s) → place_read s.hashes o ≡ place_due s.manifest.shape s.manifest.current (merge_work o)
  place_seen o merging = search (arith, place_gathers)
