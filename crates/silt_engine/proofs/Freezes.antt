-- The steps of freezing.
use Rattle.silt_engine.proofs.Common.{◌≡◌, ◌≢◌, ◌<◌, ℕ, false, IsTrue, List, [], ◌∷◌, suc, map, Option, None, Ok, inr, refl, ap, sym, ◌∙◌, subst, arith, Contains, IfSome, take-append-drop}
use Rattle.silt_engine.proofs.Common.{ChangesWithin, Content, LeavesOnly, LiesOutside, size, Shape, device_size, commits_at, log_len, log_size, slot_at, within_wider, up_least, log_rows, StoredRow}
use Rattle.silt_engine.proofs.Common.{all_rows, KeepsRows, waiting_kept, IsLogStore, LogStoreState, ConversionState, HasWritten, ManifestState, IsCurrent, Body, current_record_elsewhere, map_after}
use Rattle.silt_engine.proofs.Common.{Stores, image_stores, IsSound, with_log_rows, command_of, whole_law, MergeState, IsMerging, IsUnderWay, EngineState, oldest_log, HasGathered, Stands, base_map}
use Rattle.silt_engine.proofs.Common.{current_map, full_image, shown_stores, waiting_commands, Advances, IsQuiet, names_region, entries_behind_log, NextLog, IsEmptied, IsNextLog, log_elsewhere}
use Rattle.silt_engine.proofs.Common.{names_log, unnamed_law, EmptiesStore}
use Rattle.std.proofs.lemmas.List.{append-nil}
use Rattle.silt_engine.proofs.Named.{named_body, named_shape, region_torn}
use Rattle.silt_engine.proofs.Facts.{active_size, base_is, shown_named}
use Rattle.silt_engine.proofs.Elsewhere.{all_frozen_elsewhere, all_hashed_elsewhere, digested_elsewhere, entries_behind_manifest, indexed_same, located_elsewhere, merged_all_elsewhere, not_among}
use Rattle.silt_engine.proofs.Elsewhere.{outside_other, outside_slot, slots_behind_log, slots_behind_manifest, written_all_elsewhere, IsApart, IsPastEntries, IsOutsideConversion, IsOutsideMerge}
use Rattle.silt_engine.proofs.Elsewhere.{region_before_conversion, region_before_merge, on_some, honest_old}
use Rattle.silt_engine.proofs.Standing.{Fits, fits_stand, shown_are}
use Rattle.silt_engine.proofs.Wholes.{whole_with}

-- ---- a change that leaves the stores as they are

-- a log store under a change elsewhere
pub store_elsewhere : (old new : Content) (store : LogStoreState) (at count : ℕ) → IsLogStore old store → size old ≡ device_size store.log.shape → size new ≡ size old
    → LiesOutside (commits_at store.log.shape store.log.region) (log_len store.log.shape) at count → ChangesWithin at count old new → IsLogStore new store
store_elsewhere old new store at count stands sized sizes outside changes =
    let keeps : KeepsRows old new store.log store.log = log_elsewhere old new _ at count stands.log (omega (arith, sized)) sizes outside changes in
    record { log = keeps.stands; index = indexed_same old new store (λ h. subst IsTrue changes.honest h) (λ h. keeps.all (subst IsTrue changes.honest h)) stands.index }

module _ (old new : Content) (s : EngineState) (at count : ℕ) (stands : Stands old s) (sizes : size new ≡ size old) (changes : ChangesWithin at count old new)
    (apart : IsTrue old.honest → IsApart s.manifest.shape s.manifest.current at count)
    (outside : LiesOutside (commits_at s.manifest.shape s.manifest.current.active) (log_len s.manifest.shape) at count) where
  pub kept : KeepsRows old new s.active.log s.active.log
  kept = log_elsewhere old new _ at count stands.active (omega (arith, active_size old s stands)) sizes (rw (← stands.whole.active_region, ← stands.whole.has_shape) at outside) changes

  -- the stores stand in this state, with the same rows waiting
  module _ (m : ManifestState) (converting : Option ConversionState) (merging : Option MergeState) (same_shape : m.shape ≡ s.manifest.shape)
      (same_current : m.current ≡ s.manifest.current) (same_digests : m.digests ≡ s.manifest.digests) (idle : m.prepared ≡ None) (is_current : IsCurrent m new)
      (named : LeavesOnly new (λ image. image_stores image ≡ Ok (shown_stores old s)))
      (under_way : IfSome converting (IsUnderWay s)) (written : IfSome converting (HasWritten new (oldest_log s)))
      (is_merging : IfSome merging (IsMerging s)) (merged : IfSome merging (HasGathered new s)) where
    abbrev after : EngineState
    after = record s { manifest = m; converting = converting; merging = merging }

    t_shape : (shown_stores old s).shape ≡ m.shape
    t_shape = named_shape _ _ _ ∙ sym same_shape

    t_body : (shown_stores old s).body ≡ m.current
    t_body = named_body _ _ _ ∙ sym same_current

    fits_on : Fits new after (shown_stores old s)
    fits_on = record {
      has_size = sizes ∙ stands.has_size ∙ ap device_size (sym same_shape);
      whole = whole_with s m converting merging same_shape same_current under_way is_merging stands.whole;
      idle = idle;
      current = is_current;
      active = record { log = kept.stands; index = indexed_same old new s.active (honest_old changes) (λ h. kept.all (honest_old changes h)) stands.indexed };
      frozen = all_frozen_elsewhere old new s at count stands changes apart;
      hashed = all_hashed_elsewhere old new s at count stands changes apart;
      located = located_elsewhere old new s at count stands changes apart;
      digested = digested_elsewhere old new s at count stands changes apart;
      written = written;
      merged = merged;
      same_shape = t_shape;
      same_body = t_body;
      named = named;
      sound = λ h.
          let active_of : s.active.log.region ≡ m.current.active = cc (stands.whole.active_region) in
          subst (λ (rows : List StoredRow). IsSound (with_log_rows m.current.active rows (shown_stores old s))) (sym (kept.all (honest_old changes h)))
          (subst (λ (n : ℕ). IsSound (with_log_rows n (all_rows old s.active.log) (shown_stores old s))) active_of (stands.sound (honest_old changes h)));
      said = λ h. rw (← same_digests) at (stands.said (honest_old changes h));
      counted = λ h. cc (stands.counted (honest_old changes h), waiting_kept old new s.active.log s.active.log stands.active (honest_old changes h) kept);
    }

    -- they still stand
    pub stays_with : Advances [] old new s after
    stays_with = record {
      stands = fits_stand new after _ fits_on;
      shape = same_shape;
      moves = λ h. record {
        moved = [];
        rest = ap (map command_of) (waiting_kept old new _ _ stands.active h kept) ∙ sym (append-nil (waiting_commands old s));
        base = cc (base_is new after, shown_are new after (shown_stores old s) t_shape t_body named (subst IsTrue (sym changes.honest) h), base_is old s);
      };
    }

  -- what a merge has gathered and written, after a change outside its entries
  pub merged_on : (IsTrue old.honest → IsOutsideMerge s at count) → IfSome s.merging (HasGathered new s)
  merged_on outside_merge = merged_all_elsewhere old new s at count stands changes apart s.merging outside_merge stands.whole.merging stands.merged

  -- so do the stores with their conversion and their merge as they are, after a change outside their slots and entries
  pub stays_on : (IsTrue old.honest → IsOutsideConversion s at count) → (IsTrue old.honest → IsOutsideMerge s at count)
      → (m : ManifestState) → m.shape ≡ s.manifest.shape → m.current ≡ s.manifest.current → m.digests ≡ s.manifest.digests → m.prepared ≡ None → IsCurrent m new
      → LeavesOnly new (λ image. image_stores image ≡ Ok (shown_stores old s)) → Advances [] old new s (record s { manifest = m })
  stays_on outside_slots outside_merge m same_shape same_current same_digests idle is_current named = search (arith, stays_with, written_all_elsewhere, merged_on)

-- ---- the region of the new log

-- a region that the body does not name
pub not_named : (body : Body) (region : ℕ) → names_region body region ≡ false → (id : ℕ) → Contains (body.active ∷ body.frozen) id → id ≢ region
not_named body region free id there = not_among (body.active ∷ body.frozen) region id free there

pub later_contains : (first : ℕ) (ids : List ℕ) (id : ℕ) → Contains ids id → Contains (first ∷ ids) id
later_contains first ids id (k, inside, here) = (suc k, omega (arith, inside), here)

-- it lies apart from the logs, the hash stores and the sorted store
pub region_apart : (shape : Shape) (body : Body) (region : ℕ) → region < shape.logs → names_region body region ≡ false → IsApart shape body (commits_at shape region) (log_size shape)
region_apart shape body region below free = search (arith, outside_other, not_named, later_contains, slots_behind_log, entries_behind_log)

module _ (old new : Content) (s : EngineState) (region : ℕ) (stands : Stands old s) (below : region < s.manifest.shape.logs) (free : names_region s.manifest.current region ≡ false)
    (sizes : size new ≡ size old) (commits : ChangesWithin (commits_at s.manifest.shape region) s.manifest.shape.log_capacity old new) where
  in_region : ChangesWithin (commits_at s.manifest.shape region) (log_size s.manifest.shape) old new
  in_region = within_wider _ _ (omega arith) (omega (arith, up_least s.manifest.shape.log_capacity)) commits

  -- each possible crash image has the same stores
  free_named : LeavesOnly new (λ image. image_stores image ≡ Ok (shown_stores old s))
  free_named = record {
    each = λ h image left.
        let o : IsTrue old.honest = subst IsTrue commits.honest h in
        let t : Stores = shown_stores old s in
        let from = in_region.left o image left in
        let names : names_log t region ≡ false = cc ((whole_law old.shown t (shown_named old s stands o)).names region, named_body s.manifest.shape s.manifest.current old.shown) in
        region_torn _ t region _ from.0 image (named_shape _ _ _) (stands.named.each o from.0 from.1) below from.2 refl ∙ ap Ok (unnamed_law t region (log_rows s.manifest.shape region image) names);
  }

  outside_active : LiesOutside (commits_at s.manifest.shape s.manifest.current.active) (log_len s.manifest.shape) (commits_at s.manifest.shape region) (log_size s.manifest.shape)
  outside_active = outside_other s.manifest.shape s.manifest.current.active region (not_named s.manifest.current region free s.manifest.current.active (0, omega arith, refl))

  -- the stores still stand
  pub cleared : Advances [] old new s s
  cleared = stays_on old new s _ _ stands sizes in_region (λ h. region_apart _ _ region below free) outside_active (λ h. region_before_conversion s region below) (λ h. region_before_merge s
      region below) _ refl refl refl stands.idle (current_record_elsewhere _ _ _ old new (omega (arith, stands.has_size)) (inr (omega arith)) in_region stands.current) free_named

-- ---- the manifest

-- with no row waiting the full image is what is shown
pub full_quiet : (content : Content) (s : EngineState) → s.active.log.settled ≡ s.active.log.used → full_image content s ≡ content.shown
full_quiet content s settled = search (arith, append-nil, take-append-drop)

-- with no row waiting the map of lookups is the base
pub quiet_map : (content : Content) (s : EngineState) → IsQuiet content s → current_map content s ≡ base_map content s
quiet_map content s is = ap (map_after (base_map content s)) is.none_wait

-- a slot of the manifest lies apart from the logs, the hash stores and the sorted store
pub slot_apart : (shape : Shape) (body : Body) (slot : ℕ) → slot < 2 → IsApart shape body (slot_at slot) 4096
slot_apart shape body slot below = search (arith, outside_slot, slots_behind_manifest, entries_behind_manifest)

-- and apart from the slots of a conversion and the entries of a merge
pub slot_before_conversion : (s : EngineState) (slot : ℕ) → slot < 2 → IsOutsideConversion s (slot_at slot) 4096
slot_before_conversion s slot below = search (arith, on_some, slots_behind_manifest)

pub slot_before_merge : (s : EngineState) (slot : ℕ) → slot < 2 → IsOutsideMerge s (slot_at slot) 4096
slot_before_merge s slot below = on_some (IsPastEntries s.manifest.shape (slot_at slot) 4096) _ (λ merge. entries_behind_manifest _ _ slot below)

-- ---- the region of the new log is cleared

module _ (old new : Content) (s : EngineState) (next : NextLog) where
  store_shape : IsNextLog s next → next.store.log.shape ≡ s.manifest.shape
  store_shape is = ap (λ (t : LogStoreState). t.log.shape) is.store

  module _ (stands : Stands old s) (is : IsNextLog s next) (sizes : size new ≡ size old)
      (changes : ChangesWithin (commits_at next.store.log.shape next.store.log.region) next.store.log.shape.log_capacity old new) where
    commits : ChangesWithin (commits_at s.manifest.shape is.region) s.manifest.shape.log_capacity old new
    commits = rw (store_shape is, ap (λ (t : LogStoreState). t.log.region) is.store) at changes

    pub clear_advances : Advances [] old new s s
    clear_advances = cleared old new s _ stands is.lowest.below is.lowest.free sizes commits

  -- the new log is as it was in memory, and its region is empty
  module _ (is : IsNextLog s next) (after : LogStoreState) (empties : EmptiesStore new next.store after) where
    pub same_store : after ≡ next.store
    same_store = search arith

    pub clear_emptied : (now : NextLog) → now ≡ record next { store = after } → IsEmptied new s now
    clear_emptied now now_is = search (arith, same_store, store_shape)
