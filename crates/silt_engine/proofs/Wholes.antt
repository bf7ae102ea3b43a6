-- Stores in memory that stay whole, and the oldest log, which a conversion reads.
use Rattle.silt_engine.proofs.Common.{◌≡◌, ◌≤◌, ◌<◌, ◌-◌, ℕ, List, ◌∷◌, length, get_or, Option, Some, None, arith, IfSome, get_or_default, Content, ConversionState, HasWritten, MergeState}
use Rattle.silt_engine.proofs.Common.{LogStoreState, ManifestState, AreWhole, IsMerging, IsUnderWay, EngineState, oldest_log}

-- ---- the oldest log

-- the oldest of some logs is the same whatever is given for none
pub oldest_any : (logs : List LogStoreState) (d e : LogStoreState) → 0 < length logs → get_or logs (length logs - 1) d ≡ get_or logs (length logs - 1) e
oldest_any logs d e some = get_or_default logs (length logs - 1) d e (omega (arith, some))

-- and the same behind a newer one
pub oldest_behind : (newer : LogStoreState) (logs : List LogStoreState) (d e : LogStoreState) → 0 < length logs → get_or (newer ∷ logs) (length (newer ∷ logs) - 1) d ≡ get_or logs (length logs - 1) e
oldest_behind newer logs d e some = search (arith, oldest_any)

-- ---- a conversion

-- it is in progress in stores with the same shape and hash stores, and with no fewer frozen logs
pub under_way_in : (s t : EngineState) (o : Option ConversionState) → t.manifest.shape ≡ s.manifest.shape → t.manifest.current.hashed ≡ s.manifest.current.hashed → length s.frozen ≤ length t.frozen
    → IfSome o (IsUnderWay s) → IfSome o (IsUnderWay t)
under_way_in s t o same_shape same_hashed more is = search arith

-- what it has written is of the oldest log
pub written_in : (content : Content) (s : EngineState) (log : LogStoreState) (o : Option ConversionState) → (0 < length s.frozen → log ≡ oldest_log s) → IfSome o (IsUnderWay s)
    → IfSome o (HasWritten content (oldest_log s)) → IfSome o (HasWritten content log)
written_in content s log None same is written = tt
written_in content s log (Some conversion) same is written = rw (← (same is.some_frozen)) at written

-- ---- a merge

-- it is in progress in stores with the same shape and sorted region, and with no fewer hash stores
pub merging_in : (s t : EngineState) (o : Option MergeState) → t.manifest.shape ≡ s.manifest.shape → t.sorted.region ≡ s.sorted.region
    → length s.hashes ≤ length t.hashes → IfSome o (IsMerging s) → IfSome o (IsMerging t)
merging_in s t o same_shape same_region more is = search arith

-- ---- whole stores

-- with another active log of the same region
pub whole_with_active : (s : EngineState) (after : LogStoreState) (charge : ℕ) → AreWhole s → after.log.shape ≡ s.active.log.shape → after.log.region ≡ s.active.log.region
    → charge ≤ s.manifest.shape.sorted_capacity → AreWhole (record s { active = after; charge = charge })
whole_with_active s after charge whole same_shape same_region most = search (arith, under_way_in, merging_in)

-- what a conversion has written is of the same log
pub written_with_active : (content : Content) (s : EngineState) (after : LogStoreState) (charge : ℕ) → AreWhole s → IfSome s.converting (HasWritten content (oldest_log s))
    → IfSome s.converting (HasWritten content (oldest_log (record s { active = after; charge = charge })))
written_with_active content s after charge whole written = written_in _ s _ _ (oldest_any _ after _) whole.under_way written

-- with another manifest of the same shape and the same current record, and with this conversion and this merge
pub whole_with : (s : EngineState) (m : ManifestState) (converting : Option ConversionState) (merging : Option MergeState) → m.shape ≡ s.manifest.shape → m.current ≡ s.manifest.current
    → IfSome converting (IsUnderWay s) → IfSome merging (IsMerging s) → AreWhole s → AreWhole (record s { manifest = m; converting = converting; merging = merging })
whole_with s m converting merging same_shape same_current under_way is_merging whole = search (arith, under_way_in, merging_in)
