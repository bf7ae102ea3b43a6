-- When stores stand on a disk, from the stores that its images have.
use Rattle.silt_engine.proofs.Common.{◌≡◌, IsTrue, List, [], ◌∷◌, ◌++◌, None, Ok, inr, ap, sym, ◌∙◌, arith, All, IfSome, ChangesWithin, Content, LeavesOnly, Torn, size, device_size, commits_at}
use Rattle.silt_engine.proofs.Common.{log_size, shown_left, log_rows, StoredRow, put_count, LogState, all_rows, waiting_rows, IsLogStore, HasWritten, IsHashStore, Stores, image_stores, AreDigestsOf}
use Rattle.silt_engine.proofs.Common.{IsSound, rows_of, with_log_rows, IsCurrent, current_record_elsewhere, AreWhole, EngineState, oldest_log, HasGathered, IsDigested, IsFrozen, IsLocated, Stands}
use Rattle.silt_engine.proofs.Common.{shown_stores, entries_behind_log, torn_trans}
use Rattle.silt_log.specs.State as log
use Rattle.silt_engine.proofs.Named.{named_here}
use Rattle.silt_engine.proofs.Facts.{active_below, full_torn, torn_active}
use Rattle.silt_engine.proofs.Elsewhere.{all_frozen_elsewhere, all_hashed_elsewhere, digested_elsewhere, located_elsewhere, merged_all_elsewhere, not_active, outside_other, slots_behind_log}
use Rattle.silt_engine.proofs.Elsewhere.{written_all_elsewhere, IsApart, region_before_conversion, region_before_merge, honest_old}

-- the stores that are shown are those that all images have
pub shown_are : (content : Content) (s : EngineState) (t : Stores) → t.shape ≡ s.manifest.shape → t.body ≡ s.manifest.current
    → LeavesOnly content (λ image. image_stores image ≡ Ok t) → IsTrue content.honest → shown_stores content s ≡ t
shown_are content s t same_shape same_body named honest = named_here _ _ t _ (named.each honest content.shown (shown_left _)) same_shape same_body

-- what has to be known for stores to stand on a disk
pub record Fits (content : Content) (s : EngineState) (t : Stores) : Type 0 where
  pub has_size : size content ≡ device_size s.manifest.shape
  pub whole : AreWhole s
  pub idle : s.manifest.prepared ≡ None
  pub current : IsCurrent s.manifest content
  pub active : IsLogStore content s.active
  pub frozen : All (IsFrozen content) s.frozen
  pub hashed : All (IsHashStore content) s.hashes
  pub located : IsLocated content s
  pub digested : IsDigested content s
  pub written : IfSome s.converting (HasWritten content (oldest_log s))
  pub merged : IfSome s.merging (HasGathered content s)
  pub same_shape : t.shape ≡ s.manifest.shape
  pub same_body : t.body ≡ s.manifest.current
  pub named : LeavesOnly content (λ image. image_stores image ≡ Ok t)
  pub sound : IsTrue content.honest → IsSound (with_log_rows s.manifest.current.active (all_rows content s.active.log) t)
  pub said : IsTrue content.honest → AreDigestsOf s.manifest.digests t
  pub counted : IsTrue content.honest → s.charge ≡ put_count (rows_of t ++ waiting_rows content s.active.log)

pub fits_stand : (content : Content) (s : EngineState) (t : Stores) → Fits content s t → Stands content s
fits_stand content s t fits =
    let is : IsTrue content.honest → shown_stores content s ≡ t = shown_are _ s t fits.same_shape fits.same_body fits.named in
    record {
      has_size = fits.has_size;
      whole = fits.whole;
      idle = fits.idle;
      current = fits.current;
      active = fits.active.log;
      indexed = fits.active.index;
      frozen = fits.frozen;
      hashed = fits.hashed;
      located = fits.located;
      digested = fits.digested;
      written = fits.written;
      merged = fits.merged;
      named = record { each = λ h image left. fits.named.each h image left ∙ ap Ok (sym (is h)) };
      sound = λ h. rw (← fits.whole.active_region, ← (is h)) at (fits.sound h);
      said = λ h. rw (← (is h)) at (fits.said h);
      counted = λ h. cc (fits.counted h, is h);
    }

-- what comes before both of two lists can be left out
pub after_same : {A : Type 0} (xs ys zs : List A) → xs ++ ys ≡ xs ++ zs → ys ≡ zs
after_same [] ys zs e = e
after_same (x ∷ xs) ys zs e = after_same xs ys zs (cc)

-- ---- a change in the region of the active log

module _ (old new : Content) (s : EngineState) (stands : Stands old s) (sizes : size new ≡ size old)
    (changes : ChangesWithin (commits_at s.active.log.shape s.active.log.region) (log_size s.active.log.shape) old new) where
  -- in the manifest's words
  pub changes_active : ChangesWithin (commits_at s.manifest.shape s.manifest.current.active) (log_size s.manifest.shape) old new
  changes_active = rw (stands.whole.has_shape, stands.whole.active_region) at changes

  -- the same manifest is current
  pub current_record_stays : IsCurrent s.manifest new
  current_record_stays = current_record_elsewhere _ _ _ old new (omega (arith, stands.has_size)) (inr (omega arith)) changes_active stands.current

  -- all else lies apart
  apart : IsTrue old.honest → IsApart s.manifest.shape s.manifest.current (commits_at s.manifest.shape s.manifest.current.active) (log_size s.manifest.shape)
  apart h = search (arith, outside_other, not_active, slots_behind_log, active_below, entries_behind_log)

  -- the frozen logs, the hash stores and the entries match the disk as before
  pub frozen_stay : All (IsFrozen new) s.frozen
  frozen_stay = all_frozen_elsewhere old new s _ _ stands changes_active apart

  pub hashed_stay : All (IsHashStore new) s.hashes
  hashed_stay = all_hashed_elsewhere old new s _ _ stands changes_active apart

  pub located_stays : IsLocated new s
  located_stays = located_elsewhere old new s _ _ stands changes_active apart

  pub digested_stays : IsDigested new s
  digested_stays = digested_elsewhere old new s _ _ stands changes_active apart

  -- a conversion has written what it had, and a merge has gathered and written what it had
  pub written_stays : IfSome s.converting (HasWritten new (oldest_log s))
  written_stays = written_all_elsewhere old new s _ _ stands changes_active apart _ (λ h. region_before_conversion s _ (active_below old s stands)) stands.whole.under_way stands.written

  pub merged_stays : IfSome s.merging (HasGathered new s)
  merged_stays = merged_all_elsewhere old new s _ _ stands changes_active apart _ (λ h. region_before_merge s _ (active_below old s stands)) stands.whole.merging stands.merged

  -- with these rows of the log in each image, each has the stores with them
  pub named_with : (rows : List StoredRow) → LeavesOnly new (λ image. log_rows s.active.log.shape s.active.log.region image ≡ rows)
      → LeavesOnly new (λ image. image_stores image ≡ Ok (with_log_rows s.manifest.current.active rows (shown_stores old s)))
  named_with rows images = record {
    each = λ h image left.
        let from = changes.left (honest_old changes h) image left in
        torn_active old s stands from.0 image rows (stands.named.each (honest_old changes h) from.0 from.1) from.2 (images.each h image left);
  }

  -- with these rows of the log in the full image, that has the stores with them
  pub full_with : IsTrue new.honest → (l : LogState) (rows : List StoredRow) → l.shape ≡ s.active.log.shape → l.region ≡ s.active.log.region → log.InBounds l
      → log_rows s.active.log.shape s.active.log.region (log.opened_image new l) ≡ rows
      → image_stores (log.opened_image new l) ≡ Ok (with_log_rows s.manifest.current.active rows (shown_stores old s))
  full_with h l rows same_shape same_region bounds are =
      let opened : Torn (commits_at l.shape l.region) (log_size l.shape) new.shown (log.opened_image new l) = full_torn new l bounds (cc (stands.has_size, stands.whole.has_shape, same_shape)) in
      let here : Torn (commits_at s.active.log.shape s.active.log.region) (log_size s.active.log.shape) new.shown (log.opened_image new l) = search (arith, same_shape) in
      torn_active old s stands _ _ rows (stands.named.each (honest_old changes h) old.shown (shown_left old)) (torn_trans (changes.shown (honest_old changes h)) here) are
