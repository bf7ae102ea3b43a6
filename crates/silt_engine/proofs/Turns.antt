-- A change of a slot of the manifest: in each image the old record is current, or another one.
use Rattle.silt_engine.proofs.Common.{arith, ◌≡◌, ◌<◌, ℕ, IsTrue, List, [], Some, Ok, refl, ap, ◌∙◌, ChangesWithin, Content, Torn, size, Shape, slot_at, KeepsRows, waiting_rows, waiting_kept}
use Rattle.silt_engine.proofs.Common.{manifest_found, current_manifest, RecordIsCurrent, SlotRecord, Stores, image_stores, stores_named, StandsFor, image_map, rows_of, map_of_rows, EngineState}
use Rattle.silt_engine.proofs.Common.{Stands, base_map, full_image, shown_stores, waiting_commands, HoldsPrefix, IsQuiet, All, IfSome, HasWritten, IsHashStore, spare_slot, oldest_log, HasGathered}
use Rattle.silt_engine.proofs.Common.{IsDigested, IsFrozen, IsLocated, manifest_law}
use Rattle.silt_log.specs.State as log
use Rattle.silt_engine.proofs.Named.{found_current, named_body, named_here, named_shape}
use Rattle.silt_engine.proofs.Facts.{full_map, opened_map}
use Rattle.silt_engine.proofs.Elsewhere.{outside_slot, IsApart, all_frozen_elsewhere, all_hashed_elsewhere, digested_elsewhere, located_elsewhere, merged_all_elsewhere, written_all_elsewhere}
use Rattle.silt_engine.proofs.Freezes.{full_quiet, kept, quiet_map, slot_apart, slot_before_conversion, slot_before_merge}

-- an image that represents the base represents it after none of what waited
pub begun_none : (content : Content) (s : EngineState) (image : List ℕ) → StandsFor s.manifest.shape (base_map content s) image
    → HoldsPrefix s.manifest.shape (base_map content s) (waiting_commands content s) image
begun_none content s image stands = record { kept = []; begins = record { rest = waiting_commands content s; is = refl }; stands = stands }

module _ (old new : Content) (s : EngineState) (slot : ℕ) (below : slot < 2) (stands : Stands old s) (sizes : size new ≡ size old) (changes : ChangesWithin (slot_at slot) 4096 old new) where
  -- the active log matches the disk as before
  pub active_kept : KeepsRows old new s.active.log s.active.log
  active_kept = kept old new s _ _ stands sizes changes (λ h. slot_apart _ _ slot below) (outside_slot s.manifest.shape s.manifest.current.active slot below)

  -- an image in which this record is current has the stores that it names in an earlier image
  pub current_named : (h : IsTrue new.honest) (before image : List ℕ) (found : SlotRecord) → image_stores before ≡ Ok (shown_stores old s) → Torn (slot_at slot) 4096 before image
      → current_manifest s.manifest.shape image ≡ Some found → image_stores image ≡ Ok (stores_named s.manifest.shape found.body before)
  current_named h before image found named torn is_current =
      let t : Stores = shown_stores old s in
      let t_shape : t.shape ≡ s.manifest.shape = named_shape _ _ _ in
      cc (manifest_law before image t slot found named below torn (ap (λ (sh : Shape). manifest_found sh image) t_shape ∙ found_current (manifest_found s.manifest.shape image) found is_current))

  -- if the old record is current, the stores are the old ones
  pub same_named : (h : IsTrue new.honest) (before image : List ℕ) → image_stores before ≡ Ok (shown_stores old s) → Torn (slot_at slot) 4096 before image
      → RecordIsCurrent s.manifest image → image_stores image ≡ Ok (shown_stores old s)
  same_named h before image named torn is_current = current_named h before image _ named torn is_current ∙ ap Ok (named_here _ _ _ before named (named_shape _ _ _) (named_body _ _ _))

  -- the map of the full image, if nothing waited and nothing waits
  pub quiet_remap : IsQuiet old s → (after : EngineState) → after.active.log.settled ≡ after.active.log.used → IsTrue old.honest
      → image_map new.shown ≡ base_map old s → image_map (full_image new after) ≡ image_map (full_image old s)
  quiet_remap is_quiet after settled h same = cc (full_quiet new after settled, quiet_map old s is_quiet, full_map old s stands h)

  -- and if the same rows wait in the same log, with stores that have it and the same map
  pub waiting_remap : (after : EngineState) (t : Stores) → after.active.log ≡ s.active.log → t.shape ≡ s.manifest.shape → t.body.active ≡ s.manifest.current.active → IsTrue old.honest
      → image_stores new.shown ≡ Ok t → map_of_rows (rows_of t) ≡ base_map old s → image_map (full_image new after) ≡ image_map (full_image old s)
  waiting_remap after t same_log same_shape same_active h named same_map = search (arith, opened_map, active_kept, waiting_kept, full_map)

-- ---- what a change of the spare slot leaves

module _ (old new : Content) (s : EngineState) (stands : Stands old s) (sizes : size new ≡ size old) (changes : ChangesWithin (slot_at (spare_slot s.manifest)) 4096 old new) where
  pub slot_below : spare_slot s.manifest < 2
  slot_below = omega arith

  apart : IsApart s.manifest.shape s.manifest.current (slot_at (spare_slot s.manifest)) 4096
  apart = slot_apart s.manifest.shape s.manifest.current (spare_slot s.manifest) slot_below

  -- the active log is as it was
  pub active_stays : KeepsRows old new s.active.log s.active.log
  active_stays = active_kept old new s _ slot_below stands sizes changes

  pub waiting_stays : IsTrue old.honest → waiting_rows new s.active.log ≡ waiting_rows old s.active.log
  waiting_stays h = waiting_kept old new _ _ stands.active h active_stays

  -- so are the frozen logs, the hash stores and the entries
  pub frozen_stays : All (IsFrozen new) s.frozen
  frozen_stays = all_frozen_elsewhere old new s _ _ stands changes (λ h. apart)

  pub hashed_stays : All (IsHashStore new) s.hashes
  hashed_stays = all_hashed_elsewhere old new s _ _ stands changes (λ h. apart)

  pub located_stays : IsLocated new s
  located_stays = located_elsewhere old new s _ _ stands changes (λ h. apart)

  pub digested_stays : IsDigested new s
  digested_stays = digested_elsewhere old new s _ _ stands changes (λ h. apart)

  -- and what a conversion and a merge have written
  pub written_stays : IfSome s.converting (HasWritten new (oldest_log s))
  written_stays = written_all_elsewhere old new s _ _ stands changes (λ h. apart) _ (λ h. slot_before_conversion s _ slot_below) stands.whole.under_way stands.written

  pub merged_stays : IfSome s.merging (HasGathered new s)
  merged_stays = merged_all_elsewhere old new s _ _ stands changes (λ h. apart) _ (λ h. slot_before_merge s _ slot_below) stands.whole.merging stands.merged
