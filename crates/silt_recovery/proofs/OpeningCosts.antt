-- How many writes and syncs an opening makes.
use Rattle.silt_recovery.proofs.Common.{◌≡◌, ◌≤◌, ℕ, ◌+◌, Bool, true, false, IsTrue, refl, arith, Content, EngineState, Holds, OpenError, cond, Makes, MakesAtMost, Settles, CostsRefusal}
use Rattle.silt_disk.proofs.Costs.{made_both, most_both, most_made}
use Rattle.silt_image.specs.Stores.{stores_named}
use Rattle.silt_recovery.specs.Opening.{CostsOpening, has_stale_log}
use Rattle.silt_recovery.specs.declared.fault.OpenError.TheVariants.{NotFormatted, Damaged, Crowded, Device, NoMemory}

-- the active log was found as it was shown
stale_as_shown : (old between : Content) (s : EngineState) → Settles old between → Holds between s → IsTrue old.honest → s.active.log.stale ≡ has_stale_log old.shown
unfolding has_stale_log stores_named
stale_as_shown old between s settles holds o = search arith

-- the sync before the seal counts
with_sync : (stale : Bool) → 1 + cond stale 1 0 ≡ cond stale 2 1
with_sync true = refl
with_sync false = refl

-- a seal is at most one write and one sync
at_most_one : (stale : Bool) → cond stale 1 0 ≤ 1
at_most_one true = omega arith
at_most_one false = omega arith

module _ {D : Type 0} {writes_of syncs_of : D → ℕ} where
  -- the sync is all that was done
  pub only_synced : {F : Type 0} (old new : D) (error : OpenError F) → Makes writes_of syncs_of 0 1 old new → CostsRefusal writes_of syncs_of old new error
  only_synced old new NotFormatted made = made
  only_synced old new (Damaged place) made = made
  only_synced old new Crowded made = made
  only_synced old new (Device fault) made = most_made made (omega arith) (omega arith)
  only_synced old new NoMemory made = made

  -- the sync failed
  pub sync_failed : (old new : D) → Makes writes_of syncs_of 0 1 old new → MakesAtMost writes_of syncs_of 1 2 old new
  sync_failed old new made = most_made made (omega arith) (omega arith)

  -- the seal failed
  pub seal_failed : (old mid new : D) (stale : Bool) → Makes writes_of syncs_of 0 1 old mid → MakesAtMost writes_of syncs_of (cond stale 1 0) (cond stale 1 0) mid new
      → MakesAtMost writes_of syncs_of 1 2 old new
  seal_failed old mid new stale first second = most_both mid first second (omega (arith, at_most_one stale)) (omega (arith, at_most_one stale))

  -- the store was opened
  pub opened : (content : D → Content) (old mid new : D) (s : EngineState) → Settles (content old) (content mid) → Holds (content mid) s
      → Makes writes_of syncs_of 0 1 old mid → Makes writes_of syncs_of (cond s.active.log.stale 1 0) (cond s.active.log.stale 1 0) mid new → CostsOpening content writes_of syncs_of old new
  opened content old mid new s settles holds first second = record {
    stale = s.active.log.stale;
    is = stale_as_shown (content old) (content mid) s settles holds;
    made = made_both mid first second (omega arith) (with_sync s.active.log.stale);
  }
