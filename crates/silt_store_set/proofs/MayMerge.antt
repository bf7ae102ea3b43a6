-- Whether a step of merging may be done, by what is in memory.
use Rattle.silt_store_set.proofs.Common.{◌≡◌, ℕ, Bool, true, false, ◌||◌, Option, Some, None, length, refl, ap, sym, ◌∙◌, is_some, length-map, Ghosts, convert_turn, MergeState, Stands}
use Rattle.silt_store_set.proofs.Common.{EngineState, hash_region_of, CoreState, awaits_region, merge_work, BasisState, nat_le, may_merge, wants_merge}
use Rattle.silt_store_set.proofs.Calls.{seen, seen_core}
use Rattle.silt_store_set.proofs.Converts.{due_same}

-- the contracts see a merge exactly if one is in progress
merging_same : (o : Option MergeState) → is_some (merge_work o) ≡ is_some o
merging_same None = refl
merging_same (Some merge) = refl

module _ {D F : Type 0} (facts : Ghosts D F) (disk : D) (stores : EngineState) (count : ℕ) (stands : Stands (facts.content disk) stores) where
  -- the store as contracts see it
  abbrev before : CoreState D
  before = seen facts disk stores count

  -- if there is work, a merge is in progress, or there are enough hash stores, or a conversion waits
  pub may_merge_is : (least : ℕ) → wants_merge before ≡ true → may_merge before least ≡ (is_some stores.merging || (nat_le least (length stores.hashes) || awaits_region (convert_turn stores)))
  may_merge_is least wants =
      let named : length stores.manifest.current.hashed ≡ length stores.hashes = ap length (sym stands.whole.hash_regions) ∙ length-map stores.hashes hash_region_of in
      cc (merging_same stores.merging, due_same facts disk stores count stands)

module _ {D F : Type 0} (facts : Ghosts D F) (disk : D) (stores : EngineState) (count : ℕ) where
  -- the same of a store that may be failed: then there is no work
  may_merge_by : (failed : Bool) (basis : BasisState) (least : ℕ) → (failed ≡ false → Stands (facts.content disk) stores) → wants_merge (seen_core facts disk stores count failed basis) ≡ true
      → may_merge (seen_core facts disk stores count failed basis) least ≡ (is_some stores.merging || (nat_le least (length stores.hashes) || awaits_region (convert_turn stores)))
  may_merge_by true basis least stands wants = absurd (cc)
  may_merge_by false basis least stands wants = may_merge_is facts disk stores count (stands refl) least wants

  -- no merge is in progress, so the number of hash stores decides, and whether a conversion waits
  pub begins_if : (failed : Bool) (basis : BasisState) (least hashes : ℕ) (merging enough waits : Bool) → (failed ≡ false → Stands (facts.content disk) stores)
      → wants_merge (seen_core facts disk stores count failed basis) ≡ true → merging ≡ is_some stores.merging → merging ≡ false → hashes ≡ length stores.hashes → nat_le least hashes ≡ enough
      → waits ≡ awaits_region (convert_turn stores) → (enough || waits) ≡ may_merge (seen_core facts disk stores count failed basis) least
  begins_if failed basis least hashes merging enough waits stands wants is none are big waiting = sym (cc (may_merge_by failed basis least stands wants))
