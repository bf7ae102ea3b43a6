-- A merge in progress has a step left.
use Rattle.silt_store_set.proofs.Common.{◌≡◌, ◌≤◌, ℕ, ◌+◌, ◌*◌, Bool, false, IsTrue, Option, Some, None, IfSome, inl, inr, arith, cases_lt, Ghosts, key_count, MergeState, oldest_stores}
use Rattle.silt_store_set.proofs.Common.{sources_full, taken_sound, HasGathered, Stands, EngineState, IsMerging, BasisState, IsCore, CoreState, merge_work, sources, IsHeldMerge}
use Rattle.silt_store_set.proofs.Common.{IsWithinSteps}
use Rattle.silt_store_set.proofs.Calls.{seen, seen_core}
use Rattle.silt_store_set.proofs.Damages.{slot_below}

-- a merge has gathered at most all slots of its hash stores
few_gathered : (merge : MergeState) → IsHeldMerge merge → merge.store * (4 * merge.shape.buckets) + merge.slot ≤ merge.stores * (4 * merge.shape.buckets)
few_gathered merge held = elim (cases_lt merge.store merge.stores) [
  | inl below ↦ let few = slot_below merge.store merge.stores merge.slot (4 * merge.shape.buckets) below held.slot in omega (arith, few)
  | inr past ↦
      search arith
]

module _ {D F : Type 0} (facts : Ghosts D F) (disk : D) (stores : EngineState) (count : ℕ) (stands : Stands (facts.content disk) stores) where
  -- the merge in memory
  left_in : IsTrue (facts.content disk).honest → (o : Option MergeState) → IfSome o (IsMerging stores) → IfSome o (HasGathered (facts.content disk) stores)
      → IfSome (merge_work o) (IsWithinSteps (seen facts disk stores count))
  left_in honest None merging merged = tt
  left_in honest (Some merge) merging merged =
      let decided : merge.decided ≤ key_count (sources (facts.content disk).shown (oldest_stores merge.stores stores.hashes) stores.sorted) =
      (merged.0.merged honest (taken_sound (facts.content disk) stores stands honest merge.stores)).gathered.most in
      search (arith, sources_full, few_gathered)

  left : IsTrue (facts.content disk).honest → IfSome (merge_work stores.merging) (IsWithinSteps (seen facts disk stores count))
  left honest = left_in honest stores.merging stands.whole.merging stands.merged

-- of the store that contracts see
pub left_seen : {D F : Type 0} (facts : Ghosts D F) (disk : D) (stores : EngineState) (count : ℕ) (failed : Bool) (basis : BasisState) (core : CoreState D)
    → seen_core facts disk stores count failed basis ≡ core
    → IsCore (facts.content disk) stores count failed basis → core.failed ≡ false → IsTrue (facts.content core.disk).honest → IfSome core.merging (IsWithinSteps core)
left_seen facts disk stores count failed basis core is holds = rw (← is) (λ working honest. left facts disk stores count (holds.stands working) honest)
